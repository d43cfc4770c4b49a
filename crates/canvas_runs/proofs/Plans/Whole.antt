-- What is closed under the ends of tasks and the completions of headers holds of the whole evaluation, once it holds of what starts.
use Rattle.std.proofs.Common.{◌≡◌, ℕ, suc, ◌≤◌, Bool, true, false, List, [], ◌∷◌, ◌++◌, length, Some, None, refl, sym, ap, subst, ◌∙◌, inl, inr, arith, le_refl}
use Rattle.canvas_task.specs.Apply.{Behaviour}
use Rattle.canvas_history.specs.Lists.{In, Each, firsts}
use Rattle.canvas_effects.specs.Job.{store, publish, part}
use Rattle.canvas_effects.specs.Events.{Event, end_of_line, completion, parent_of, input_of_success, chosen}
use Rattle.canvas_effects.specs.Flowing.{Input, number_input, list_input, id_input, LineFlow, run, skips, raise, after_outcome}
use Rattle.canvas_semantics.specs.Line.{Line, stop, step, group_end, chord_end, Lines, no_lines, and_line, no_of}
use Rattle.canvas_semantics.specs.Tree.{Task, task, Tasks, no_tasks, and_task}
use Rattle.canvas_task.specs.declared.outcome.Outcome.{Outcome}
use Rattle.canvas_task.specs.declared.outcome.Outcome.TheVariants.{Success, Failure}
use Rattle.canvas_runs.proofs.Plans.Messages.{Place, nowhere, in_group, in_chord, Carried, carried, errbacks_of, last_of, last_from, lasts, lines_length, Message, header}
use Rattle.canvas_runs.proofs.Plans.Effects.{Jobs, message, outcome_of, at_stop, members_place, callbacks, called, enter, enter_all, when_empty, after, body_after, by_kind, picked, only_store, only_publish, only_part, header_fault}
use Rattle.canvas_runs.proofs.Plans.Evaluation.{Items, labelled, joined, header_place, members_event, body_event, result, outs, ran, ran_all, items, items_all}
use Rattle.canvas_semantics.specs.FileOrder.{EndsInTask}
use Rattle.canvas_runs.proofs.Plans.FileOrder.{LineIn, LinesIn}
use Rattle.canvas_runs.proofs.Lists.Words.{each_append, each_left, each_right, each_weaker, in_each, in_left, in_right}
use Rattle.canvas_runs.proofs.Plans.Trees.{AJob, joined_raise}
use Rattle.canvas_runs.proofs.Plans.Parts.{Kept, members_kept, firsts-outs}
use Rattle.canvas_runs.proofs.Plans.Order.{line_span, lines_span, task_span, last_below}
use Rattle.canvas_runs.proofs.Plans.Canvas.{same_pairs}
use Rattle.canvas_runs.proofs.Runs.Tables.{Distinct}

-- the kinds apart are all
pub from_kinds : (P : AJob → Type 0) (js : Jobs) → Each P (picked only_store js) → Each P (picked only_publish js) → Each P (picked only_part js) → Each P js
from_kinds P [] a b c = tt
from_kinds P (store t o ∷ js) a b c = (a.0, from_kinds P js a.1 b c)
from_kinds P (publish m ∷ js) a b c = (b.0, from_kinds P js a b.1 c)
from_kinds P (part g t d ∷ js) a b c = (c.0, from_kinds P js a b c.1)

pub from_kind : (P : AJob → Type 0) (js : Jobs) → Each P (by_kind js) → Each P js
from_kind P js a =
    let later = each_right P (picked only_store js) (picked only_publish js ++ picked only_part js) a in
    from_kinds P js (each_left P (picked only_store js) (picked only_publish js ++ picked only_part js) a)
    (each_left P (picked only_publish js) (picked only_part js) later) (each_right P (picked only_publish js) (picked only_part js) later)

module _ (behaviour : Behaviour) (members : ℕ → List ℕ) where
  -- a line that ends in a task hands in that task
  line_hands : (l : Line) (behind : Bool) (x : LineFlow) (g : ℕ) (c : Carried) (t : ℕ) (v : Event) → EndsInTask behind l
      → (w : Event) × In (w, part g (last_from t l) c) (items behaviour l x (in_chord g c) t v)
  line_hands stop behind x g c t v e = (v, inl refl)
  line_hands (step k rest) behind (run x) g c t v e = let r =
      line_hands rest true (after_outcome (result behaviour k x)) g c (no_of k) (end_of_line (no_of k)) e in
      (r.0, in_right (ran behaviour k x v rest (in_chord g c)) _ _ r.1)
  line_hands (step k rest) behind (skips f) g c t v e = let r = line_hands rest true (skips f) g c (no_of k) v e in (r.0, inr r.1)
  line_hands (step k rest) behind (raise f) g c t v e = let r = line_hands rest true (skips f) g c (no_of k) v e in
      (r.0, inr (in_right (ran_all behaviour (errbacks_of k) (id_input (no_of k)) v) _ _ r.1))
  line_hands (group_end h ms) behind x g c t v e = elim e [ ]
  line_hands (chord_end h ms body) behind x g c t v e = let r = line_hands body false (joined x (outs behaviour ms x)) g c 0 (body_event x ms h v) e in
      (r.0, in_right (items_all behaviour ms x (header_place x h ms body (in_chord g c)) v) _ _ r.1)

  all_hand : (ms : Lines) (x : LineFlow) (g : ℕ) (c : Carried) (v : Event) (low high : ℕ) → LinesIn members ms low high
      → Each (λ t. (w : Event) × In (w, part g t c) (items_all behaviour ms x (in_chord g c) v)) (lasts ms)
  all_hand no_lines x g c v low high n = tt
  all_hand (and_line m ms) x g c v low high (middle, i, e, j) =
      let r = line_hands m false x g c 0 v e in (
        (r.0, in_left (items behaviour m x (in_chord g c) 0 v) (items_all behaviour ms x (in_chord g c) v) _ r.1),
        each_weaker (λ t h. (h.0, in_right (items behaviour m x (in_chord g c) 0 v) (items_all behaviour ms x (in_chord g c) v) _ h.1)) (lasts ms)
            (all_hand ms x g c v middle high j),
      )

  -- the last tasks of a header's members are in the order of the file
  last_above : (l : Line) (behind : Bool) (t bound low high : ℕ) → EndsInTask behind l → (behind ≡ true → bound ≤ t) → bound ≤ low → LineIn members l low high
      → bound ≤ last_from t l
  last_above stop behind t bound low high e b less n = b e
  last_above (step k rest) behind t bound low high e b less (middle, i, j) =
      let s = task_span k low middle i in last_above rest true (no_of k) bound middle high e (λ q. omega (arith, s.0)) (omega (arith, s.0, s.1)) j
  last_above (group_end g ms) behind t bound low high e b less n = elim e [ ]
  last_above (chord_end g ms body) behind t bound low high e b less (middle, i, j, same) =
      let s = lines_span members ms low middle i in last_above body false 0 bound middle high e (λ q. absurd (cc)) (omega arith) j

  lasts_above : (ms : Lines) (low high : ℕ) → LinesIn members ms low high → Each (λ u. low ≤ u) (lasts ms)
  lasts_above no_lines low high n = tt
  lasts_above (and_line m ms) low high (middle, i, e, j) =
      let s = line_span members m low middle i in
      (last_above m false 0 low low middle e (λ q. absurd (cc)) (le_refl low) i, each_weaker (λ u l. omega arith) (lasts ms) (lasts_above ms middle high j))

  pub lasts_distinct : (ms : Lines) (low high : ℕ) → LinesIn members ms low high → Distinct (lasts ms)
  lasts_distinct no_lines low high n = tt
  lasts_distinct (and_line m ms) low high (middle, i, e, j) =
      let below = last_below members m false 0 low middle e (λ q. absurd (cc)) i in (
        λ h. let above : middle ≤ last_of m = in_each (λ u. middle ≤ u) (lasts ms) (lasts_above ms middle high j) (last_of m) h in
            omega arith,
        lasts_distinct ms middle high j,
      )

  module _ (Done : AJob → Type 0) (whole : Items)
      (script : (m : Message) → Done (publish m) → Done (store m.no (outcome_of behaviour m)) × Each Done (after m (outcome_of behaviour m)))
      (completes : (g k : ℕ) (c : Carried) → Distinct (members g) → length (members g) ≡ suc k → Each (λ t. Done (part g t c)) (members g) →
      (fs : List (ℕ × Outcome)) × (firsts fs ≡ members g) × Each (λ f. Kept behaviour members whole f.0 f.1) fs × Each Done (body_after c fs))
      (one_outcome : (t : ℕ) (o q : Outcome) → Kept behaviour members whole t o → Kept behaviour members whole t q → o ≡ q) where
    abbrev pub AllDone : Items → Type 0
    AllDone is = Each (λ i. Done i.1) is

    labelled_done : (v : Event) (js : Jobs) → Each Done js → AllDone (labelled v js)
    labelled_done v [] d = tt
    labelled_done v (j ∷ js) d = (d.0, labelled_done v js d.1)

    chosen_done : (links errbacks : Tasks) (k : ℕ) (o : Outcome) →
        ((n : _) → Each Done (callbacks links (number_input n) (Some k)) → AllDone (ran_all behaviour links (number_input n) (end_of_line k))) →
        (Each Done (callbacks errbacks (id_input k) (Some k)) → AllDone (ran_all behaviour errbacks (id_input k) (end_of_line k))) →
        Each Done (called links errbacks k o)
        → AllDone (chosen o (ran_all behaviour links (input_of_success o) (end_of_line k)) (ran_all behaviour errbacks (id_input k) (end_of_line k)))
    chosen_done links errbacks k (Success n) f g d = f n d
    chosen_done links errbacks k (Failure n) f g d = g d

    mutual
      ran_done : (t : Task) (x : Input) (v : Event) (rest : Line) (p : Place) → Done (publish (message t x (parent_of v) rest p)) →
          AllDone (ran behaviour t x v rest p) × Each Done (enter rest (after_outcome (result behaviour t x)) p (no_of t) (Some (no_of t)))
      ran_done (task k call links errbacks) x v rest p d =
          let t : Task = task k call links errbacks in
          let m : Message = message t x (parent_of v) rest p in
          let o : Outcome = outcome_of behaviour m in
          let s = script m d in
          let jobs : Each Done (called links errbacks k o ++ enter rest (after_outcome o) p k (Some k)) =
          from_kind Done (called links errbacks k o ++ enter rest (after_outcome o) p k (Some k)) s.1 in (
            (
              d,
              (
                s.0,
                chosen_done links errbacks k o (λ n. ran_all_done links (number_input n) (end_of_line k))
                    (ran_all_done errbacks (id_input k) (end_of_line k))
                    (each_left Done (called links errbacks k o) (enter rest (after_outcome o) p k (Some k)) jobs),
              ),
            ),
            each_right Done (called links errbacks k o) (enter rest (after_outcome o) p k (Some k)) jobs,
          )

      ran_all_done : (ts : Tasks) (x : Input) (v : Event) → Each Done (callbacks ts x (parent_of v)) → AllDone (ran_all behaviour ts x v)
      ran_all_done no_tasks x v d = tt
      ran_all_done (and_task t ts) x v d =
          each_append (λ i. Done i.1) (ran behaviour t x v stop nowhere) (ran_all behaviour ts x v) (ran_done t x v stop nowhere d.0).0
          (ran_all_done ts x v d.1)

    -- what comes of a header that runs
    body_done : (g : ℕ) (ms : Lines) (body : Line) (p : Place) (x : Input) (v : Event) (low high : ℕ) → LinesIn members ms low high → members g ≡ lasts ms →
        ((i : Event × AJob) → In i (items_all behaviour ms (run x) (members_place g ms body p) v) → In i whole) →
        AllDone (items_all behaviour ms (run x) (members_place g ms body p) v) →
        Each Done (when_empty ms (enter body (run (list_input [])) p 0 (parent_of v))) →
        ((y : LineFlow) (e : Event) → Each Done (enter body y p 0 (parent_of e)) → ((i : Event × AJob) → In i (items behaviour body y p 0 e) → In i whole)
        → AllDone (items behaviour body y p 0 e)) →
        ((i : Event × AJob) → In i (items behaviour body (joined (run x) (outs behaviour ms (run x))) p 0 (members_event ms g v)) → In i whole) →
        AllDone (items behaviour body (joined (run x) (outs behaviour ms (run x))) p 0 (members_event ms g v))
    body_done g no_lines body p x v low high n same inside done empty f within = f (run (list_input [])) v empty within
    body_done g (and_line m ms) body p x v low high n same inside done empty f within =
        let all : Lines = and_line m ms in
        let c : Carried = carried (suc (lines_length ms)) body p in
        let es : List (ℕ × Outcome) = outs behaviour all (run x) in
        let hands : Each (λ t. Done (part g t c)) (lasts all) =
        each_weaker (λ t h. in_each (λ i. Done i.1) (items_all behaviour all (run x) (in_chord g c) v) done (h.0, part g t c) h.1) (lasts all)
        (all_hand all (run x) g c v low high n) in
        let h = completes g (length (lasts ms)) c (subst Distinct (sym same) (lasts_distinct all low high n)) (ap length same)
        (subst (Each (λ t. Done (part g t c))) (sym same) hands) in
        let kept : Each (λ f. Kept behaviour members whole f.0 f.1) es =
        each_weaker (λ f k. (k.0, inside (k.0, store f.0 f.1) k.1)) es (members_kept behaviour members all (run x) (in_chord g c) v low high n) in
        let found : h.0 ≡ es = same_pairs (Kept behaviour members whole) one_outcome h.0 es
        (h.1 ∙ (same ∙ sym (firsts-outs behaviour members all (run x)))) h.2 kept in
        f (header es) (completion g) (from_kind Done (enter body (header es) p 0 None) (subst (λ fs. Each Done (body_after c fs)) found h.3)) within

    mutual
      pub items_done : (l : Line) (x : LineFlow) (p : Place) (t : ℕ) (v : Event) (low high : ℕ) → LineIn members l low high
          → ((i : Event × AJob) → In i (items behaviour l x p t v) → In i whole) →
          Each Done (enter l x p t (parent_of v)) → AllDone (items behaviour l x p t v)
      items_done stop x p t v low high n inside d = labelled_done v (at_stop p t) d
      items_done (step k rest) (run x) p t v low high n inside d =
          let r = ran_done k x v rest p d.0 in
          let later : Items = items behaviour rest (after_outcome (result behaviour k x)) p (no_of k) (end_of_line (no_of k)) in
          each_append (λ i. Done i.1) (ran behaviour k x v rest p) later r.0
          (items_done rest (after_outcome (result behaviour k x)) p (no_of k) (end_of_line (no_of k)) n.0 high n.2
          (λ i z. inside i (in_right (ran behaviour k x v rest p) later i z)) r.1)
      items_done (step k rest) (skips f) p t v low high n inside d = (d.0, items_done rest (skips f) p (no_of k) v n.0 high n.2 (λ i z. inside i (inr z)) d.1)
      items_done (step k rest) (raise f) p t v low high n inside d =
          let calls : Jobs = callbacks (errbacks_of k) (id_input (no_of k)) (parent_of v) in
          let later : Jobs = enter rest (skips f) p (no_of k) (parent_of v) in (
            d.0,
            each_append (λ i. Done i.1) (ran_all behaviour (errbacks_of k) (id_input (no_of k)) v) (items behaviour rest (skips f) p (no_of k) v)
                (ran_all_done (errbacks_of k) (id_input (no_of k)) v (each_left Done calls later d.1))
                (items_done rest (skips f) p (no_of k) v n.0 high n.2
                (λ i z. inside i (inr (in_right (ran_all behaviour (errbacks_of k) (id_input (no_of k)) v)
                (items behaviour rest (skips f) p (no_of k) v) i z))) (each_right Done calls later d.1)),
          )
      items_done (group_end g ms) x p t v low high n inside d = items_all_done ms x (in_group g) v low high n.0 inside d
      items_done (chord_end g ms body) (run x) p t v low high n inside d =
          let left : Items = items_all behaviour ms (run x) (members_place g ms body p) v in
          let right : Items = items behaviour body (joined (run x) (outs behaviour ms (run x))) p 0 (members_event ms g v) in
          let some : Jobs = enter_all ms (run x) (members_place g ms body p) (parent_of v) in
          let empty : Jobs = when_empty ms (enter body (run (list_input [])) p 0 (parent_of v)) in
          let lines = items_all_done ms (run x) (members_place g ms body p) v low n.0 n.1 (λ i z. inside i (in_left left right i z))
          (each_left Done some empty d) in
          each_append (λ i. Done i.1) left right lines
          (body_done g ms body p x v low n.0 n.1 n.3 (λ i z. inside i (in_left left right i z)) lines (each_right Done some empty d)
          (λ y e b w. items_done body y p 0 e n.0 high n.2 w b) (λ i z. inside i (in_right left right i z)))
      items_done (chord_end g ms body) (skips f) p t v low high n inside d =
          let left : Items = items_all behaviour ms (skips f) nowhere v in
          let right : Items = items behaviour body (skips f) p 0 v in
          let some : Jobs = enter_all ms (skips f) nowhere (parent_of v) in
          let more : Jobs = enter body (skips f) p 0 (parent_of v) in
          each_append (λ i. Done i.1) left right
          (items_all_done ms (skips f) nowhere v low n.0 n.1 (λ i z. inside i (in_left left right i z)) (each_left Done some more d))
          (items_done body (skips f) p 0 v n.0 high n.2 (λ i z. inside i (in_right left right i z)) (each_right Done some more d))
      items_done (chord_end g ms body) (raise f) p t v low high n inside d =
          let left : Items = items_all behaviour ms (raise f) nowhere v in
          let right : Items = items behaviour body (joined (raise f) (outs behaviour ms (raise f))) p 0 v in
          let some : Jobs = enter_all ms (raise f) nowhere (parent_of v) in
          let more : Jobs = enter body (raise (header_fault ms f)) p 0 (parent_of v) in
          let flow : joined (raise f) (outs behaviour ms (raise f)) ≡ raise (header_fault ms f) = joined_raise behaviour ms f in
          each_append (λ i. Done i.1) left right
          (items_all_done ms (raise f) nowhere v low n.0 n.1 (λ i z. inside i (in_left left right i z)) (each_left Done some more d))
          (items_done body (joined (raise f) (outs behaviour ms (raise f))) p 0 v n.0 high n.2 (λ i z. inside i (in_right left right i z))
          (subst (λ y. Each Done (enter body y p 0 (parent_of v))) (sym flow) (each_right Done some more d)))

      pub items_all_done : (ms : Lines) (x : LineFlow) (p : Place) (v : Event) (low high : ℕ) → LinesIn members ms low high
          → ((i : Event × AJob) → In i (items_all behaviour ms x p v) → In i whole) →
          Each Done (enter_all ms x p (parent_of v)) → AllDone (items_all behaviour ms x p v)
      items_all_done no_lines x p v low high n inside d = tt
      items_all_done (and_line m ms) x p v low high n inside d =
          let left : Items = items behaviour m x p 0 v in
          let right : Items = items_all behaviour ms x p v in
          let some : Jobs = enter m x p 0 (parent_of v) in
          let more : Jobs = enter_all ms x p (parent_of v) in
          each_append (λ i. Done i.1) left right
          (items_done m x p 0 v low n.0 n.1 (λ i z. inside i (in_left left right i z)) (each_left Done some more d))
          (items_all_done ms x p v n.0 high n.3 (λ i z. inside i (in_right left right i z)) (each_right Done some more d))
