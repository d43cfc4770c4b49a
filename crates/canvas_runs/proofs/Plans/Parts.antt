-- The evaluation of a plan does what the completions of its headers do.
use Rattle.std.proofs.Common.{◌≡◌, ℕ, suc, Bool, true, false, List, [], ◌∷◌, ◌++◌, refl, sym, ap, subst, ◌∙◌, inl, inr, ◌⊎◌, ⊎_elim}
use Rattle.canvas_task.specs.Apply.{Behaviour}
use Rattle.canvas_history.specs.Lists.{In, Each, firsts}
use Rattle.canvas_effects.specs.Job.{store, publish, part}
use Rattle.canvas_effects.specs.Events.{Event, running, end_of_line, completion, flow_outcome, chosen}
use Rattle.canvas_effects.specs.Flowing.{Input, id_input, LineFlow, run, skips, raise, after_outcome}
use Rattle.canvas_semantics.specs.Line.{Line, stop, step, group_end, chord_end, Lines, no_lines, and_line, no_of}
use Rattle.canvas_semantics.specs.Tree.{Task, task, Tasks, no_tasks, and_task}
use Rattle.canvas_task.specs.declared.outcome.Outcome.{Outcome}
use Rattle.canvas_task.specs.declared.outcome.Outcome.TheVariants.{Success, Failure}
use Rattle.canvas_runs.proofs.Plans.Messages.{Place, nowhere, in_group, in_chord, Carried, carried, errbacks_of, last_of, last_from, lasts, lines_length, Message, header}
use Rattle.canvas_runs.proofs.Plans.Effects.{at_stop, members_place, body_after}
use Rattle.canvas_runs.proofs.Plans.Evaluation.{Items, labelled, joined, header_place, body_event, result, out, outs, ran, ran_all, items, items_all}
use Rattle.canvas_semantics.specs.FileOrder.{EndsInTask}
use Rattle.canvas_runs.proofs.Plans.FileOrder.{LineIn, LinesIn}
use Rattle.canvas_runs.proofs.Lists.Words.{each_weaker, in_left, in_right, in_append_cases}
use Rattle.canvas_runs.proofs.Plans.Trees.{AJob, AllIn, all_left, all_right, each_by_kind, enter_in}

module _ (behaviour : Behaviour) (members : ℕ → List ℕ) where
  abbrev pub Kept : Items → ℕ → Outcome → Type 0
  Kept is t o = (e : Event) × In (e, store t o) is

  kept_left : (xs ys : Items) (t : ℕ) (o : Outcome) → Kept xs t o → Kept (xs ++ ys) t o
  kept_left xs ys t o k = (k.0, in_left xs ys _ k.1)

  kept_right : (xs ys : Items) (t : ℕ) (o : Outcome) → Kept ys t o → Kept (xs ++ ys) t o
  kept_right xs ys t o k = (k.0, in_right xs ys _ k.1)

  -- the members' outcomes of a header, and what its completion does
  abbrev pub Completes : ℕ → Carried → Items → Type 0
  Completes g c is = (es : List (ℕ × Outcome)) × (firsts es ≡ members g) × Each (λ f. Kept is f.0 f.1) es × AllIn (completion g) is (body_after c es)

  completes_left : (xs ys : Items) (g : ℕ) (c : Carried) → Completes g c xs → Completes g c (xs ++ ys)
  completes_left xs ys g c (es, same, kept, all) = (es, same, each_weaker (λ f k. kept_left xs ys f.0 f.1 k) es kept, all_left _ xs ys _ all)

  completes_right : (xs ys : Items) (g : ℕ) (c : Carried) → Completes g c ys → Completes g c (xs ++ ys)
  completes_right xs ys g c (es, same, kept, all) = (es, same, each_weaker (λ f k. kept_right xs ys f.0 f.1 k) es kept, all_right _ xs ys _ all)

  -- callbacks hand in nothing
  apart_publish : {m : Message} {g t : ℕ} {c : Carried} → ◌≡◌ {A = AJob} (part g t c) (publish m) → ⊥
  apart_publish e = cc

  apart_store : {o : Outcome} {u g t : ℕ} {c : Carried} → ◌≡◌ {A = AJob} (part g t c) (store u o) → ⊥
  apart_store e = cc

  chosen_none : (o : Outcome) (xs ys : Items) (x : Event × AJob) → (In x xs → ⊥) → (In x ys → ⊥) → In x (chosen o xs ys) → ⊥
  chosen_none (Success n) xs ys x f g i = f i
  chosen_none (Failure n) xs ys x f g i = g i

  mutual
    ran_none : (k : Task) (x : Input) (v : Event) (rest : Line) (p : Place) (e : Event) (g t : ℕ) (c : Carried)
        → In (e, part g t c) (ran behaviour k x v rest p) → ⊥
    ran_none (task k call links errbacks) x v rest p e g t c i =
        ⊎_elim (λ same. apart_publish (ap (λ q. q.1) same)) (λ j. ⊎_elim (λ same. apart_store (ap (λ q. q.1) same))
        (λ l. chosen_none _ _ _ _ (ran_all_none links _ (end_of_line k) e g t c) (ran_all_none errbacks (id_input k) (end_of_line k) e g t c) l) j) i

    ran_all_none : (ts : Tasks) (x : Input) (v : Event) (e : Event) (g t : ℕ) (c : Carried) → In (e, part g t c) (ran_all behaviour ts x v) → ⊥
    ran_all_none no_tasks x v e g t c = λ i. elim i [ ]
    ran_all_none (and_task k ts) x v e g t c =
        λ i. ⊎_elim (ran_none k x v stop nowhere e g t c) (ran_all_none ts x v e g t c)
        (in_append_cases (ran behaviour k x v stop nowhere) (ran_all behaviour ts x v) _ i)

  own_kept : (k : Task) (x : Input) (v : Event) (rest : Line) (p : Place) → Kept (ran behaviour k x v rest p) (no_of k) (result behaviour k x)
  own_kept (task k call links errbacks) x v rest p = (running k, inr (inl refl))

  flow_outcome-after : (o : Outcome) → flow_outcome (after_outcome o) ≡ o
  flow_outcome-after (Success n) = refl
  flow_outcome-after (Failure f) = refl

  -- the outcome of a line's last task is what goes out of the line
  abbrev Ended : Bool → ℕ → Line → LineFlow → Items → Type 0
  Ended behind t l x is = ((behind ≡ true) × (last_from t l ≡ t) × (out behaviour l x ≡ x)) ⊎ Kept is (last_from t l) (flow_outcome (out behaviour l x))

  false_true : false ≡ true → ⊥
  false_true e = cc

  behind_one : (k : ℕ) (rest : Line) (y : LineFlow) (o : Outcome) (xs ys : Items) → flow_outcome y ≡ o → Kept xs k o → Ended true k rest y ys
      → Kept (xs ++ ys) (last_from k rest) (flow_outcome (out behaviour rest y))
  behind_one k rest y o xs ys f own (inl (b, last, flow)) =
      subst (λ z. Kept (xs ++ ys) (last_from k rest) (flow_outcome z)) (sym flow)
      (subst (λ z. Kept (xs ++ ys) z (flow_outcome y)) (sym last) (subst (Kept (xs ++ ys) k) (sym f) (kept_left xs ys k o own)))
  behind_one k rest y o xs ys f own (inr kept) = kept_right xs ys _ _ kept

  line_ended : (l : Line) (behind : Bool) (x : LineFlow) (p : Place) (t : ℕ) (v : Event) → EndsInTask behind l → Ended behind t l x (items behaviour l x p t v)
  line_ended stop behind x p t v e = inl (e, refl, refl)
  line_ended (step k rest) behind (run x) p t v e =
      inr (behind_one (no_of k) rest _ (result behaviour k x) (ran behaviour k x v rest p) _ (flow_outcome-after (result behaviour k x)) (own_kept k x v rest p)
      (line_ended rest true (after_outcome (result behaviour k x)) p (no_of k) (end_of_line (no_of k)) e))
  line_ended (step k rest) behind (skips f) p t v e =
      inr (behind_one (no_of k) rest (skips f) (Failure f) ((v, store (no_of k) (Failure f)) ∷ []) _ refl (v, inl refl)
      (line_ended rest true (skips f) p (no_of k) v e))
  line_ended (step k rest) behind (raise f) p t v e =
      inr (behind_one (no_of k) rest (skips f) (Failure f) ((v, store (no_of k) (Failure f)) ∷ ran_all behaviour (errbacks_of k) (id_input (no_of k)) v) _ refl
      (v, inl refl) (line_ended rest true (skips f) p (no_of k) v e))
  line_ended (group_end g ms) behind x p t v e = elim e [ ]
  line_ended (chord_end g ms body) behind x p t v e =
      inr (⊎_elim (λ q. absurd (false_true q.0)) (λ k. kept_right _ _ _ _ k)
      (line_ended body false (joined x (outs behaviour ms x)) p 0 (body_event x ms g v) e))

  member_kept : (m : Line) (x : LineFlow) (p : Place) (v : Event) → EndsInTask false m
      → Kept (items behaviour m x p 0 v) (last_of m) (flow_outcome (out behaviour m x))
  member_kept m x p v e = ⊎_elim (λ q. absurd (false_true q.0)) (λ k. k) (line_ended m false x p 0 v e)

  pub firsts-outs : (ms : Lines) (x : LineFlow) → firsts (outs behaviour ms x) ≡ lasts ms
  firsts-outs no_lines x = refl
  firsts-outs (and_line m ms) x = ap (λ l. last_of m ∷ l) (firsts-outs ms x)

  pub members_kept : (ms : Lines) (x : LineFlow) (p : Place) (v : Event) (low high : ℕ) → LinesIn members ms low high
      → Each (λ f. Kept (items_all behaviour ms x p v) f.0 f.1) (outs behaviour ms x)
  members_kept no_lines x p v low high n = tt
  members_kept (and_line m ms) x p v low high (middle, inside, ends, others) = (
    kept_left _ _ _ _ (member_kept m x p v ends),
    each_weaker (λ f k. kept_right _ _ f.0 f.1 k) (outs behaviour ms x) (members_kept ms x p v middle high others),
  )

  stop_part : (q : Place) (t : ℕ) (v e : Event) (g u : ℕ) (c : Carried) → In (e, part g u c) (labelled v (at_stop q t)) → q ≡ in_chord g c
  stop_part nowhere t v e g u c i = elim i [ ]
  stop_part (in_group h) t v e g u c i = elim i [ ]
  stop_part (in_chord h d) t v e g u c (inl same) = let jobs : ◌≡◌ {A = AJob} (part g u c) (part h t d) = ap (λ q. q.1) same in cc
  stop_part (in_chord h d) t v e g u c (inr i) = elim i [ ]

  -- where a part is handed in, it is the line's own, or its header is in the line and completes
  abbrev Parted : Place → ℕ → Carried → Items → Type 0
  Parted p g c is = (p ≡ in_chord g c) ⊎ Completes g c is

  parted_left : (p : Place) (g : ℕ) (c : Carried) (xs ys : Items) → Parted p g c xs → Parted p g c (xs ++ ys)
  parted_left p g c xs ys h = ⊎_elim (λ s. inl s) (λ k. inr (completes_left xs ys g c k)) h

  parted_right : (p : Place) (g : ℕ) (c : Carried) (xs ys : Items) → Parted p g c ys → Parted p g c (xs ++ ys)
  parted_right p g c xs ys h = ⊎_elim (λ s. inl s) (λ k. inr (completes_right xs ys g c k)) h

  -- the members of a header that runs
  header_completes : (h : ℕ) (ms : Lines) (body : Line) (p : Place) (x : LineFlow) (v : Event) (low high : ℕ) (g : ℕ) (c : Carried) →
      LinesIn members ms low high → members h ≡ lasts ms → header_place x h ms body p ≡ in_chord g c →
      Completes g c (items_all behaviour ms x (header_place x h ms body p) v ++ items behaviour body (joined x (outs behaviour ms x)) p 0 (body_event x ms h v))
  header_completes h no_lines body p (run x) v low high g c n last same = absurd (cc)
  header_completes h (and_line m ms) body p (run x) v low high g c n last same =
      let g_is : h ≡ g = (cc) in
      let c_is : carried (suc (lines_length ms)) body p ≡ c = (cc) in
      let all : Lines = and_line m ms in
      let es : List (ℕ × Outcome) = outs behaviour all (run x) in
      let left : Items = items_all behaviour all (run x) (members_place h all body p) v in
      let right : Items = items behaviour body (header es) p 0 (completion h) in
      subst (λ d. Completes g d (left ++ right)) c_is (subst (λ u. Completes u (carried (suc (lines_length ms)) body p) (left ++ right)) g_is (
        es,
        firsts-outs all (run x) ∙ sym last,
        each_weaker (λ f k. kept_left left right f.0 f.1 k) es (members_kept all (run x) (members_place h all body p) v low high n),
        each_by_kind _ _ (all_right _ left right _ (enter_in behaviour body (header es) p 0 (completion h))),
      ))
  header_completes h ms body p (skips f) v low high g c n last same = absurd (cc)
  header_completes h ms body p (raise f) v low high g c n last same = absurd (cc)

  no_group : {h g : ℕ} {c : Carried} → in_group h ≡ in_chord g c → ⊥
  no_group e = cc

  mutual
    pub items_parted : (l : Line) (x : LineFlow) (p : Place) (t : ℕ) (v : Event) (low high : ℕ) → LineIn members l low high
        → (e : Event) (g u : ℕ) (c : Carried) → In (e, part g u c) (items behaviour l x p t v) → Parted p g c (items behaviour l x p t v)
    items_parted stop x p t v low high n e g u c i = inl (stop_part p t v e g u c i)
    items_parted (step k rest) (run x) p t v low high n e g u c i =
        ⊎_elim (λ a. absurd (ran_none k x v rest p e g u c a))
        (λ b. parted_right p g c (ran behaviour k x v rest p) _
        (items_parted rest (after_outcome (result behaviour k x)) p (no_of k) (end_of_line (no_of k)) n.0 high n.2 e g u c b))
        (in_append_cases (ran behaviour k x v rest p) _ _ i)
    items_parted (step k rest) (skips f) p t v low high n e g u c i =
        ⊎_elim (λ same. absurd (apart_store (ap (λ q. q.1) same)))
        (λ b. parted_right p g c ((v, store (no_of k) (Failure f)) ∷ []) _ (items_parted rest (skips f) p (no_of k) v n.0 high n.2 e g u c b)) i
    items_parted (step k rest) (raise f) p t v low high n e g u c i =
        ⊎_elim (λ same. absurd (apart_store (ap (λ q. q.1) same)))
        (λ a. ⊎_elim (λ b. absurd (ran_all_none (errbacks_of k) (id_input (no_of k)) v e g u c b))
        (λ b. parted_right p g c ((v, store (no_of k) (Failure f)) ∷ ran_all behaviour (errbacks_of k) (id_input (no_of k)) v) _
        (items_parted rest (skips f) p (no_of k) v n.0 high n.2 e g u c b))
        (in_append_cases (ran_all behaviour (errbacks_of k) (id_input (no_of k)) v) _ _ a)) i
    items_parted (group_end h ms) x p t v low high n e g u c i =
        ⊎_elim (λ same. absurd (no_group same)) (λ k. inr k) (items_all_parted ms x (in_group h) v low high n.0 e g u c i)
    items_parted (chord_end h ms body) x p t v low high n e g u c i =
        ⊎_elim
        (λ a. ⊎_elim (λ same. inr (header_completes h ms body p x v low n.0 g c n.1 n.3 same)) (λ k. inr (completes_left _ _ g c k))
        (items_all_parted ms x (header_place x h ms body p) v low n.0 n.1 e g u c a))
        (λ b. parted_right p g c _ _ (items_parted body (joined x (outs behaviour ms x)) p 0 (body_event x ms h v) n.0 high n.2 e g u c b))
        (in_append_cases (items_all behaviour ms x (header_place x h ms body p) v) _ _ i)

    pub items_all_parted : (ms : Lines) (x : LineFlow) (p : Place) (v : Event) (low high : ℕ) → LinesIn members ms low high
        → (e : Event) (g u : ℕ) (c : Carried) → In (e, part g u c) (items_all behaviour ms x p v) → Parted p g c (items_all behaviour ms x p v)
    items_all_parted no_lines x p v low high n e g u c i = elim i [ ]
    items_all_parted (and_line m ms) x p v low high n e g u c i =
        ⊎_elim (λ a. parted_left p g c _ _ (items_parted m x p 0 v low n.0 n.1 e g u c a))
        (λ b. parted_right p g c (items behaviour m x p 0 v) _ (items_all_parted ms x p v n.0 high n.3 e g u c b))
        (in_append_cases (items behaviour m x p 0 v) _ _ i)
