-- What an event does has at most one part, of a task whose outcome is stored before.
use Rattle.std.proofs.Common.{⊎_elim, ◌≡◌, ◌⊎◌, ℕ, Bool, true, false, List, [], ◌∷◌, ◌++◌, Option, Some, None, refl, sym, ap, subst, ◌∙◌, inl, inr, append_assoc}
use Rattle.canvas_task.specs.Apply.{Behaviour}
use Rattle.canvas_history.specs.Lists.{In}
use Rattle.canvas_effects.specs.Job.{store, publish, part}
use Rattle.canvas_effects.specs.Flowing.{Input, number_input, list_input, id_input, LineFlow, run, skips, raise, after_outcome}
use Rattle.canvas_semantics.specs.Line.{Line, stop, step, group_end, chord_end, Lines, no_lines, and_line, no_of}
use Rattle.canvas_semantics.specs.Tree.{Tasks, no_tasks, and_task}
use Rattle.canvas_task.specs.declared.outcome.Outcome.{Outcome}
use Rattle.canvas_task.specs.declared.outcome.Outcome.TheVariants.{Success, Failure}
use Rattle.canvas_runs.proofs.Plans.Messages.{Place, nowhere, in_group, in_chord, Carried, carried, errbacks_of, Message, header}
use Rattle.canvas_runs.proofs.Plans.Effects.{Jobs, at_stop, members_place, callbacks, called, enter, enter_all, when_empty, after, body_after, by_kind, picked, only_store, only_publish, only_part, header_fault}
use Rattle.canvas_semantics.specs.FileOrder.{EndsInTask}
use Rattle.canvas_runs.proofs.Plans.FileOrder.{LineIn, LinesIn, Lands, Formed, FormedPart}
use Rattle.canvas_runs.proofs.Lists.Words.{in_right}
use Rattle.canvas_runs.proofs.Plans.Trees.{AJob}
use Rattle.canvas_runs.proofs.Runs.Finish.{Backed, Backs}
use Rattle.canvas_runs.proofs.Plans.Canvas.{Plan, X, form}

pub picked-append : (pick : AJob → Jobs) (xs ys : Jobs) → picked pick (xs ++ ys) ≡ picked pick xs ++ picked pick ys
picked-append pick [] ys = refl
picked-append pick (j ∷ xs) ys = ap (λ l. pick j ++ l) (picked-append pick xs ys) ∙ sym (append_assoc (pick j) (picked pick xs) (picked pick ys))

abbrev pub NoParts : Jobs → Type 0
NoParts js = picked only_part js ≡ []

none_both : (xs ys : Jobs) → NoParts xs → NoParts ys → NoParts (xs ++ ys)
none_both xs ys a b = picked-append only_part xs ys ∙ (ap (λ l. l ++ picked only_part ys) a ∙ b)

-- a place that is handed no part
abbrev pub IsOpen : Place → Type 0
IsOpen nowhere = Unit
IsOpen (in_group g) = Unit
IsOpen (in_chord g c) = ⊥

-- at most one part, of the task before the line or of a task stored
abbrev pub Shape : Bool → ℕ → Jobs → Type 0
Shape behind t js = NoParts js
    ⊎ ((g : ℕ) × (d : ℕ) × (c : Carried) × (picked only_part js ≡ part g d c ∷ []) × (((behind ≡ true) × (d ≡ t)) ⊎ ((o : Outcome) × In (store d o) js)))

-- after jobs that have no part
pub shape_after : (behind : Bool) (t : ℕ) (xs js : Jobs) → NoParts xs → Shape behind t js → Shape behind t (xs ++ js)
shape_after behind t xs js n (inl a) = inl (none_both xs js n a)
shape_after behind t xs js n (inr (g, d, c, e, h)) =
    inr (g, d, c, picked-append only_part xs js ∙ (ap (λ l. l ++ picked only_part js) n ∙ e), ⊎_elim (λ a. inl a) (λ b. inr (b.0, in_right xs js _ b.1)) h)

-- after the store of the task before the line
shape_store : (behind : Bool) (t k : ℕ) (o : Outcome) (js : Jobs) → Shape true k js → Shape behind t (store k o ∷ js)
shape_store behind t k o js (inl a) = inl a
shape_store behind t k o js (inr (g, d, c, e, inl h)) = inr (g, d, c, e, inr (o, inl (ap (λ u. store u o) h.1)))
shape_store behind t k o js (inr (g, d, c, e, inr h)) = inr (g, d, c, e, inr (h.0, inr h.1))

-- with no task before the line, anything may be
shape_any : (behind : Bool) (t : ℕ) (js : Jobs) → Shape false 0 js → Shape behind t js
shape_any behind t js (inl a) = inl a
shape_any behind t js (inr (g, d, c, e, inl h)) = absurd (false_true h.0)
  where
    false_true : false ≡ true → ⊥
    false_true e = cc
shape_any behind t js (inr (g, d, c, e, inr h)) = inr (g, d, c, e, inr h)

module _ (members : ℕ → List ℕ) where
  pub callbacks_none : (ts : Tasks) (x : Input) (u : Option ℕ) → NoParts (callbacks ts x u)
  callbacks_none no_tasks x u = refl
  callbacks_none (and_task t ts) x u = callbacks_none ts x u

  empty_none : (ms : Lines) (js : Jobs) → NoParts js → NoParts (when_empty ms js)
  empty_none no_lines js n = n
  empty_none (and_line m ms) js n = refl

  not_so : false ≡ true → ⊥
  not_so e = cc

  not_empty : (l : Line) → EndsInTask false l → l ≡ stop → ⊥
  not_empty l e s = not_so (subst (EndsInTask false) s e)

  stop_none : (p : Place) (t : ℕ) → IsOpen p → NoParts (at_stop p t)
  stop_none nowhere t o = refl
  stop_none (in_group g) t o = refl
  stop_none (in_chord g c) t o = elim o [ ]

  mutual
    -- a line that runs and is not empty
    run_none : (l : Line) (x : Input) (p : Place) (t : ℕ) (u : Option ℕ) (low high : ℕ) → (behind : Bool) → (l ≡ stop → ⊥) → EndsInTask behind l
        → LineIn members l low high → NoParts (enter l (run x) p t u)
    run_none stop x p t u low high behind s e n = absurd (s refl)
    run_none (step k rest) x p t u low high behind s e n = refl
    run_none (group_end g ms) x p t u low high behind s e n = elim e [ ]
    run_none (chord_end g ms body) x p t u low high behind s e n =
        none_both (enter_all ms (run x) (members_place g ms body p) u) (when_empty ms (enter body (run (list_input [])) p 0 u))
        (run_all_none ms x (members_place g ms body p) u low n.0 n.1)
        (empty_none ms (enter body (run (list_input [])) p 0 u) (run_none body (list_input []) p 0 u n.0 high false (not_empty body e) e n.2))

    run_all_none : (ms : Lines) (x : Input) (p : Place) (u : Option ℕ) (low high : ℕ) → LinesIn members ms low high → NoParts (enter_all ms (run x) p u)
    run_all_none no_lines x p u low high n = refl
    run_all_none (and_line m ms) x p u low high n =
        none_both (enter m (run x) p 0 u) (enter_all ms (run x) p u) (run_none m x p 0 u low n.0 false (not_empty m n.2) n.2 n.1)
        (run_all_none ms x p u n.0 high n.3)

  mutual
    pub open_none : (l : Line) (x : LineFlow) (p : Place) (t : ℕ) (u : Option ℕ) (low high : ℕ) → IsOpen p → LineIn members l low high
        → NoParts (enter l x p t u)
    open_none stop x p t u low high o n = stop_none p t o
    open_none (step k rest) (run x) p t u low high o n = refl
    open_none (step k rest) (skips f) p t u low high o n = open_none rest (skips f) p (no_of k) u n.0 high o n.2
    open_none (step k rest) (raise f) p t u low high o n =
        none_both (callbacks (errbacks_of k) (id_input (no_of k)) u) (enter rest (skips f) p (no_of k) u)
        (callbacks_none (errbacks_of k) (id_input (no_of k)) u) (open_none rest (skips f) p (no_of k) u n.0 high o n.2)
    open_none (group_end g ms) x p t u low high o n = open_all_none ms x (in_group g) u low high tt n.0
    open_none (chord_end g ms body) (run x) p t u low high o n =
        none_both (enter_all ms (run x) (members_place g ms body p) u) (when_empty ms (enter body (run (list_input [])) p 0 u))
        (run_all_none ms x (members_place g ms body p) u low n.0 n.1)
        (empty_none ms (enter body (run (list_input [])) p 0 u) (open_none body (run (list_input [])) p 0 u n.0 high o n.2))
    open_none (chord_end g ms body) (skips f) p t u low high o n =
        none_both (enter_all ms (skips f) nowhere u) (enter body (skips f) p 0 u) (open_all_none ms (skips f) nowhere u low n.0 tt n.1)
        (open_none body (skips f) p 0 u n.0 high o n.2)
    open_none (chord_end g ms body) (raise f) p t u low high o n =
        none_both (enter_all ms (raise f) nowhere u) (enter body (raise (header_fault ms f)) p 0 u) (open_all_none ms (raise f) nowhere u low n.0 tt n.1)
        (open_none body (raise (header_fault ms f)) p 0 u n.0 high o n.2)

    open_all_none : (ms : Lines) (x : LineFlow) (p : Place) (u : Option ℕ) (low high : ℕ) → IsOpen p → LinesIn members ms low high
        → NoParts (enter_all ms x p u)
    open_all_none no_lines x p u low high o n = refl
    open_all_none (and_line m ms) x p u low high o n =
        none_both (enter m x p 0 u) (enter_all ms x p u) (open_none m x p 0 u low n.0 o n.1) (open_all_none ms x p u n.0 high o n.3)

  -- a line whose end goes to a chord
  chord_shape : (l : Line) (x : LineFlow) (g : ℕ) (c : Carried) (t : ℕ) (u : Option ℕ) (low high : ℕ) (behind : Bool) → EndsInTask behind l
      → LineIn members l low high → Shape behind t (enter l x (in_chord g c) t u)
  chord_shape stop x g c t u low high behind e n = inr (g, t, c, refl, inl (e, refl))
  chord_shape (step k rest) (run x) g c t u low high behind e n = inl refl
  chord_shape (step k rest) (skips f) g c t u low high behind e n =
      shape_store behind t (no_of k) (Failure f) (enter rest (skips f) (in_chord g c) (no_of k) u)
      (chord_shape rest (skips f) g c (no_of k) u n.0 high true e n.2)
  chord_shape (step k rest) (raise f) g c t u low high behind e n =
      shape_store behind t (no_of k) (Failure f) (callbacks (errbacks_of k) (id_input (no_of k)) u ++ enter rest (skips f) (in_chord g c) (no_of k) u)
      (shape_after true (no_of k) (callbacks (errbacks_of k) (id_input (no_of k)) u) (enter rest (skips f) (in_chord g c) (no_of k) u)
      (callbacks_none (errbacks_of k) (id_input (no_of k)) u)
      (chord_shape rest (skips f) g c (no_of k) u n.0 high true e n.2))
  chord_shape (group_end h ms) x g c t u low high behind e n = elim e [ ]
  chord_shape (chord_end h ms body) (run x) g c t u low high behind e n = inl (run_none (chord_end h ms body) x (in_chord g c) t u low high behind not_stop e n)
    where
      not_stop : chord_end h ms body ≡ stop → ⊥
      not_stop s = cc
  chord_shape (chord_end h ms body) (skips f) g c t u low high behind e n =
      shape_any behind t _ (shape_after false 0 (enter_all ms (skips f) nowhere u) (enter body (skips f) (in_chord g c) 0 u)
      (open_all_none ms (skips f) nowhere u low n.0 tt n.1) (chord_shape body (skips f) g c 0 u n.0 high false e n.2))
  chord_shape (chord_end h ms body) (raise f) g c t u low high behind e n =
      shape_any behind t _ (shape_after false 0 (enter_all ms (raise f) nowhere u) (enter body (raise (header_fault ms f)) (in_chord g c) 0 u)
      (open_all_none ms (raise f) nowhere u low n.0 tt n.1)
      (chord_shape body (raise (header_fault ms f)) g c 0 u n.0 high false e n.2))

  pub enter_shape : (l : Line) (x : LineFlow) (p : Place) (t : ℕ) (u : Option ℕ) (low high : ℕ) (behind : Bool) → Lands members p behind t l
      → LineIn members l low high → Shape behind t (enter l x p t u)
  enter_shape l x nowhere t u low high behind e n = inl (open_none l x nowhere t u low high tt n)
  enter_shape l x (in_group g) t u low high behind e n = inl (open_none l x (in_group g) t u low high tt n)
  enter_shape l x (in_chord g c) t u low high behind e n = chord_shape l x g c t u low high behind e.0 n

  called_none : (m : Message) (o : Outcome) → NoParts (called m.links m.errbacks m.no o)
  called_none m (Success n) = callbacks_none m.links (number_input n) (Some m.no)
  called_none m (Failure f) = callbacks_none m.errbacks (id_input m.no) (Some m.no)

  pub ended_shape : (limit : ℕ) (m : Message) (o : Outcome) → Formed members limit m
      → Shape true m.no (called m.links m.errbacks m.no o ++ enter m.rest (after_outcome o) m.place m.no (Some m.no))
  ended_shape limit m o (a, b, c, one, top, i, j, r, q, s) =
      shape_after true m.no (called m.links m.errbacks m.no o) (enter m.rest (after_outcome o) m.place m.no (Some m.no)) (called_none m o)
      (enter_shape m.rest (after_outcome o) m.place m.no (Some m.no) b c true s r)

module _ (behaviour : Behaviour) (p : Plan) where
  abbrev Behind : List ℕ → Jobs → Type 0
  Behind us js = Backed (X behaviour p) us js

  after_stores : (js ys : Jobs) (us : List ℕ)
      → ((vs : List ℕ) → ((u : ℕ) → In u us → In u vs) → ((d : ℕ) (o : Outcome) → In (store d o) js → In d vs) → Behind vs ys)
      → Behind us (picked only_store js ++ ys)
  after_stores [] ys us f = f us (λ u i. i) (λ d o i. elim i [ ])
  after_stores (store t o ∷ js) ys us f = after_stores js ys (t ∷ us) (λ vs g h. f vs (λ u i. g u (inr i)) (λ d q i. head vs g h d q i))
    where
      task_same : (d : ℕ) (q : Outcome) → ◌≡◌ {A = AJob} (store d q) (store t o) → d ≡ t
      task_same d q e = cc

      head : (vs : List ℕ) → ((u : ℕ) → In u (t ∷ us) → In u vs) → ((d : ℕ) (o : Outcome) → In (store d o) js → In d vs) → (d : ℕ) (q : Outcome)
          → In (store d q) (store t o ∷ js) → In d vs
      head vs g h d q (inl e) = g d (inl (task_same d q e))
      head vs g h d q (inr i) = h d q i
  after_stores (publish m ∷ js) ys us f = after_stores js ys us (λ vs g h. f vs g (λ d q i. ⊎_elim (λ e. absurd (apart d q e)) (λ z. h d q z) i))
    where
      apart : (d : ℕ) (q : Outcome) → ◌≡◌ {A = AJob} (store d q) (publish m) → ⊥
      apart d q e = cc
  after_stores (part g t c ∷ js) ys us f = after_stores js ys us (λ vs k h. f vs k (λ d q i. ⊎_elim (λ e. absurd (apart d q e)) (λ z. h d q z) i))
    where
      apart : (d : ℕ) (q : Outcome) → ◌≡◌ {A = AJob} (store d q) (part g t c) → ⊥
      apart d q e = cc

  after_publishes : (js ys : Jobs) (us : List ℕ) → Behind us ys → Behind us (picked only_publish js ++ ys)
  after_publishes [] ys us b = b
  after_publishes (store t o ∷ js) ys us b = after_publishes js ys us b
  after_publishes (publish m ∷ js) ys us b = after_publishes js ys us b
  after_publishes (part g t c ∷ js) ys us b = after_publishes js ys us b

  backed_kind : (js : Jobs) (us : List ℕ) (behind : Bool) (t : ℕ) → (behind ≡ true → In t us) → Shape behind t js → Behind us (by_kind js)
  backed_kind js us behind t b s =
      after_stores js (picked only_publish js ++ picked only_part js) us (λ vs g h. after_publishes js (picked only_part js) vs (go vs g h s))
    where
      go : (vs : List ℕ) → ((u : ℕ) → In u us → In u vs) → ((d : ℕ) (o : Outcome) → In (store d o) js → In d vs) → Shape behind t js
          → Behind vs (picked only_part js)
      go vs g h (inl n) = subst (Behind vs) (sym n) tt
      go vs g h (inr (k, d, c, e, inl q)) = subst (Behind vs) (sym e) (subst (λ u. In u vs) (sym q.1) (g t (b q.0)), refl)
      go vs g h (inr (k, d, c, e, inr q)) = subst (Behind vs) (sym e) (h d q.0 q.1, refl)

  pub backs : Backs (X behaviour p) (form behaviour p)
  backs = record { ended = λ m o f. ended_backed m o f; completed = λ g t c fs f e. completed_backed g t c fs f }
    where
      called_none : (m : Message) (o : Outcome) → NoParts (called m.links m.errbacks m.no o)
      called_none m (Success n) = callbacks_none p.members m.links (number_input n) (Some m.no)
      called_none m (Failure f) = callbacks_none p.members m.errbacks (id_input m.no) (Some m.no)

      ended_backed : (m : Message) (o : Outcome) → Formed p.members p.limit m → Behind (m.no ∷ []) (after m o)
      ended_backed m o (a, b, c, one, top, i, j, r, q, s) =
          backed_kind (called m.links m.errbacks m.no o ++ enter m.rest (after_outcome o) m.place m.no (Some m.no)) (m.no ∷ []) true m.no (λ e. inl refl)
          (shape_after true m.no (called m.links m.errbacks m.no o) (enter m.rest (after_outcome o) m.place m.no (Some m.no)) (called_none m o)
          (enter_shape p.members m.rest (after_outcome o) m.place m.no (Some m.no) b c true s r))

      false_true : false ≡ true → ⊥
      false_true e = cc

      completed_backed : (g t : ℕ) (c : Carried) (fs : List (ℕ × Outcome)) → FormedPart p.members p.limit g t c → Behind [] (body_after c fs)
      completed_backed g t (carried n body q) fs (i, (from, upto, l, top, below, size, inside, behind, lands)) =
          backed_kind (enter body (header fs) q 0 None) [] false 0 (λ e. absurd (false_true e))
          (enter_shape p.members body (header fs) q 0 None from upto false lands inside)
