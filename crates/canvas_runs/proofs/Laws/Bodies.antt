-- The messages that a plan starts with are published by its start, and those that a chord's body starts with, after a header with members, by the header's
-- completion.
use Rattle.std.proofs.Common.{◌≡◌, ℕ, suc, ◌<◌, ◌≤◌, true, List, [], ◌∷◌, ◌++◌, map, Option, Some, None, refl, sym, ap, subst, ◌∙◌, inl, inr, ⊎_elim, arith}
use Rattle.canvas_task.specs.Apply.{Behaviour}
use Rattle.canvas_task.specs.declared.outcome.Outcome.{Outcome}
use Rattle.canvas_semantics.specs.FileOrder.{TaskIn}
use Rattle.canvas_semantics.specs.Bodies.{starts, all_starts, bodies, all_bodies}
use Rattle.canvas_semantics.specs.Line.{Line, stop, step, group_end, chord_end, Lines, no_lines, and_line, no_of, count_line, members}
use Rattle.canvas_semantics.specs.Tree.{Task, task}
use Rattle.canvas_rewrite.specs.Planned.{IsPlan}
use Rattle.canvas_history.specs.Lists.{In}
use Rattle.canvas_envelope.specs.Content.{Content, number_of}
use Rattle.canvas_effects.specs.Events.{Event, start, end_of_line, completion, DoesIn, flow_outcome, parent_of}
use Rattle.canvas_effects.specs.Flowing.{Input, no_input, list_input, id_input, LineFlow, run, skips, raise, after_outcome}
use Rattle.canvas_effects.specs.Job.{store, publish}
use Rattle.canvas_runs.proofs.Plans.Carrying.{content}
use Rattle.canvas_runs.proofs.Plans.Evaluation.{Items, joined, header_place, body_event, result, out, outs, ran, ran_all, items, items_all}
use Rattle.canvas_runs.proofs.Plans.Effects.{message}
use Rattle.canvas_runs.proofs.Plans.PlanLines.{plan_numbered}
use Rattle.canvas_runs.proofs.Laws.Facts.{published, does_on}
use Rattle.canvas_runs.proofs.Plans.FileOrder.{LineIn, LinesIn}
use Rattle.canvas_runs.proofs.Plans.Messages.{Place, nowhere, in_group, errbacks_of, Message, after_member}
use Rattle.canvas_runs.proofs.Plans.Order.{task_span, line_span, lines_span}
use Rattle.canvas_runs.proofs.Plans.Rising.{Next, Rises, rises_span, rises_unique, item_key, items_rise, items_all_rise, ran_rises, errbacks_rise}
use Rattle.canvas_runs.proofs.Plans.Trees.{AJob}
use Rattle.canvas_runs.proofs.Lists.Words.{in_left, in_right, in_append_cases}

-- ---- keys in rising order lie between the bounds

module _ {X : Type 0} (key : X → Option ℕ) where
  between : (low : ℕ) (xs : List X) (high : ℕ) → Rises key low xs high → (x : X) (k : ℕ) → In x xs → key x ≡ Some k → (low ≤ k) × (k < high)
  between low [] high r x k i e = elim i [ ]
  between low (y ∷ xs) high r x k (inl same) e = go (key y) (sym (ap key same) ∙ e) r
    where
      go : (o : Option ℕ) → o ≡ Some k → Next key o low (λ l. Rises key l xs high) → (low ≤ k) × (k < high)
      go None f r = absurd (cc)
      go (Some j) f r =
          let q : j ≡ k = cc in
          let s = rises_span key (suc j) xs high r.1 in (omega (arith, r.0), omega arith)
  between low (y ∷ xs) high r x k (inr i) e = go (key y) r (λ l s. between l xs high s x k i e)
    where
      go : (o : Option ℕ) → Next key o low (λ l. Rises key l xs high) → ((l : ℕ) → Rises key l xs high → (l ≤ k) × (k < high)) → (low ≤ k) × (k < high)
      go None r f = f low r
      go (Some j) r f = let q = f (suc j) r.1 in (omega (arith, r.0, q.0), q.1)

-- ---- what a line and its bodies start with lies in the line

in_pairs : (g h k : ℕ) (ks : List ℕ) → In {X = ℕ × ℕ} (h, k) (map (λ j. (g, j)) ks) → (h ≡ g) × In k ks
in_pairs g h k [] i = elim i [ ]
in_pairs g h k (j ∷ ks) (inl e) = (ap (λ q. q.0) e, inl (ap (λ q. q.1) e))
in_pairs g h k (j ∷ ks) (inr i) = let r = in_pairs g h k ks i in (r.0, inr r.1)

module _ (members : ℕ → List ℕ) where
  abbrev Inside : ℕ → ℕ → ℕ → Type 0
  Inside low k high = (low ≤ k) × (k < high)

  inside_left : (low k middle high : ℕ) → middle ≤ high → Inside low k middle → Inside low k high
  inside_left low k middle high l s = (s.0, omega (arith, s.1))

  inside_right : (low k middle high : ℕ) → low ≤ middle → Inside middle k high → Inside low k high
  inside_right low k middle high l s = (omega (arith, s.0), s.1)

  mutual
    starts_inside : (l : Line) (low high k : ℕ) → LineIn members l low high → In k (starts l) → Inside low k high
    starts_inside stop low high k n i = elim i [ ]
    starts_inside (step t rest) low high k (middle, a, b) (inl e) =
        let s = task_span t low middle a in
        let z = line_span members rest middle high b in
        (omega (arith, s.0), omega (arith, s.1))
    starts_inside (step t rest) low high k (middle, a, b) (inr i) = elim i [ ]
    starts_inside (group_end g ms) low high k n i = all_starts_inside ms low high k n.0 i
    starts_inside (chord_end g no_lines body) low high k (middle, a, b, same) i =
        inside_right low k middle high a (starts_inside body middle high k b i)
    starts_inside (chord_end g (and_line m ms) body) low high k (middle, a, b, same) i =
        inside_left low k middle high (line_span members body middle high b) (all_starts_inside (and_line m ms) low middle k a i)

    all_starts_inside : (ms : Lines) (low high k : ℕ) → LinesIn members ms low high → In k (all_starts ms) → Inside low k high
    all_starts_inside no_lines low high k n i = elim i [ ]
    all_starts_inside (and_line m ms) low high k (middle, a, e, b) i =
        ⊎_elim (λ j. inside_left low k middle high (lines_span members ms middle high b) (starts_inside m low middle k a j))
        (λ j. inside_right low k middle high (line_span members m low middle a) (all_starts_inside ms middle high k b j))
        (in_append_cases (starts m) (all_starts ms) k i)

  mutual
    bodies_inside : (l : Line) (low high g k : ℕ) → LineIn members l low high → In (g, k) (bodies l) → Inside low k high
    bodies_inside stop low high g k n i = elim i [ ]
    bodies_inside (step t rest) low high g k (middle, a, b) i =
        let s = task_span t low middle a in
        inside_right low k middle high (omega (arith, s.0, s.1)) (bodies_inside rest middle high g k b i)
    bodies_inside (group_end h ms) low high g k n i = all_bodies_inside ms low high g k n.0 i
    bodies_inside (chord_end h no_lines body) low high g k (middle, a, b, same) i =
        inside_right low k middle high a (bodies_inside body middle high g k b i)
    bodies_inside (chord_end h (and_line m ms) body) low high g k (middle, a, b, same) i =
        ⊎_elim
        (λ j. ⊎_elim
        (λ q. inside_right low k middle high (lines_span members (and_line m ms) low middle a)
        (starts_inside body middle high k b (in_pairs h g k (starts body) q).1))
        (λ q. inside_left low k middle high (line_span members body middle high b) (all_bodies_inside (and_line m ms) low middle g k a q))
        (in_append_cases (map (λ k. (h, k)) (starts body)) (all_bodies (and_line m ms)) (g, k) j))
        (λ j. inside_right low k middle high (lines_span members (and_line m ms) low middle a) (bodies_inside body middle high g k b j))
        (in_append_cases (map (λ k. (h, k)) (starts body) ++ all_bodies (and_line m ms)) (bodies body) (g, k) i)

    all_bodies_inside : (ms : Lines) (low high g k : ℕ) → LinesIn members ms low high → In (g, k) (all_bodies ms) → Inside low k high
    all_bodies_inside no_lines low high g k n i = elim i [ ]
    all_bodies_inside (and_line m ms) low high g k (middle, a, e, b) i =
        ⊎_elim (λ j. inside_left low k middle high (lines_span members ms middle high b) (bodies_inside m low middle g k a j))
        (λ j. inside_right low k middle high (line_span members m low middle a) (all_bodies_inside ms middle high g k b j))
        (in_append_cases (bodies m) (all_bodies ms) (g, k) i)

-- ---- only a header that runs has a body that runs

abbrev Runs : LineFlow → Type 0
Runs (run x) = Unit {0}
Runs (skips f) = ⊥
Runs (raise f) = ⊥

member_fails : (y : LineFlow) (t : ℕ) (z : LineFlow) → (Runs y → ⊥) → Runs (after_member t (flow_outcome y) z) → ⊥
member_fails (run x) t z d h = d tt
member_fails (skips f) t z d h = h
member_fails (raise f) t z d h = h

module _ (behaviour : Behaviour) where
  mutual
    out_runs : (l : Line) (x : LineFlow) → Runs (out behaviour l x) → Runs x
    out_runs stop x h = h
    out_runs (step t rest) (run x) h = tt
    out_runs (step t rest) (skips f) h = out_runs rest (skips f) h
    out_runs (step t rest) (raise f) h = out_runs rest (skips f) h
    out_runs (group_end g ms) x h = h
    out_runs (chord_end g ms body) x h = joined_runs ms x (out_runs body (joined x (outs behaviour ms x)) h)

    joined_runs : (ms : Lines) (x : LineFlow) → Runs (joined x (outs behaviour ms x)) → Runs x
    joined_runs no_lines (run x) h = tt
    joined_runs no_lines (skips f) h = h
    joined_runs no_lines (raise f) h = h
    joined_runs (and_line m ms) (run x) h = tt
    joined_runs (and_line m ms) (skips f) h = h
    joined_runs (and_line m ms) (raise f) h = member_fails (out behaviour m (raise f)) _ _ (out_runs m (raise f)) h

-- ---- by which event

no_store : {w v : Event} {m : Message} {k : ℕ} {o : Outcome} → ◌≡◌ {A = Event × AJob} (w, publish m) (v, store k o) → ⊥
no_store {m = m} {k = k} {o = o} e = let jobs : ◌≡◌ {A = AJob} (publish m) (store k o) = ap (λ q. q.1) e in cc

module _ (behaviour : Behaviour) (table : ℕ → List ℕ) where
  -- a message in what comes of a line has a number of this line
  in_items : (l : Line) (x : LineFlow) (p : Place) (t : ℕ) (v : Event) (low high : ℕ) → LineIn table l low high → (w : Event) (m : Message)
      → In (w, publish m) (items behaviour l x p t v) → (low ≤ m.no) × (m.no < high)
  in_items l x p t v low high n w m i =
      between (item_key true) low (items behaviour l x p t v) high (items_rise behaviour table true l x p t v low high n) (w, publish m) m.no i refl

  in_all_items : (ms : Lines) (x : LineFlow) (p : Place) (v : Event) (low high : ℕ) → LinesIn table ms low high → (w : Event) (m : Message)
      → In (w, publish m) (items_all behaviour ms x p v) → (low ≤ m.no) × (m.no < high)
  in_all_items ms x p v low high n w m i =
      between (item_key true) low (items_all behaviour ms x p v) high (items_all_rise behaviour table true ms x p v low high n) (w, publish m) m.no i refl

  in_errbacks : (t : Task) (v : Event) (low high : ℕ) → TaskIn t low high → (w : Event) (m : Message)
      → In (w, publish m) (ran_all behaviour (errbacks_of t) (id_input (no_of t)) v) → (suc (no_of t) ≤ m.no) × (m.no < high)
  in_errbacks t v low high n w m i =
      between (item_key true) (suc (no_of t)) (ran_all behaviour (errbacks_of t) (id_input (no_of t)) v) high
      (errbacks_rise behaviour table true t (id_input (no_of t)) v low high n) (w, publish m) m.no i refl

  -- what a line starts with is published by the event that flows into it, and only where that runs it
  mutual
    starts_by : (l : Line) (x : LineFlow) (p : Place) (t : ℕ) (v : Event) (low high : ℕ) → LineIn table l low high → (w : Event) (m : Message)
        → In m.no (starts l) → In (w, publish m) (items behaviour l x p t v) → (w ≡ v) × Runs x
    starts_by stop x p t v low high n w m k i = elim k [ ]
    starts_by (step (task j call links errbacks) rest) (run x) p t v low high n w m (inl e) i =
        let own : Message = message (task j call links errbacks) x (parent_of v) rest p in
        let same : ◌≡◌ {A = Event × AJob} (w, publish m) (v, publish own) =
        rises_unique (item_key true) low (items behaviour (step (task j call links errbacks) rest) (run x) p t v) high
        (items_rise behaviour table true (step (task j call links errbacks) rest) (run x) p t v low high n) (w, publish m) (v, publish own) j i (inl refl)
        (ap Some e) refl in
        (ap (λ q. q.0) same, tt)
    starts_by (step u rest) (run x) p t v low high n w m (inr k) i = elim k [ ]
    starts_by (step u rest) (skips f) p t v low high (middle, a, b) w m (inl e) (inl i) = absurd (no_store i)
    starts_by (step u rest) (skips f) p t v low high (middle, a, b) w m (inl e) (inr i) =
        let s = task_span u low middle a in
        let r = in_items rest (skips f) p (no_of u) v middle high b w m i in
        absurd (omega (arith, s.1, r.0))
    starts_by (step u rest) (skips f) p t v low high n w m (inr k) i = elim k [ ]
    starts_by (step u rest) (raise f) p t v low high (middle, a, b) w m (inl e) (inl i) = absurd (no_store i)
    starts_by (step u rest) (raise f) p t v low high (middle, a, b) w m (inl e) (inr i) =
        ⊎_elim (λ j. let r = in_errbacks u v low middle a w m j in absurd (omega (arith, r.0)))
        (λ j. let s = task_span u low middle a in let r = in_items rest (skips f) p (no_of u) v middle high b w m j in absurd (omega (arith, s.1, r.0)))
        (in_append_cases (ran_all behaviour (errbacks_of u) (id_input (no_of u)) v) (items behaviour rest (skips f) p (no_of u) v) (w, publish m) i)
    starts_by (step u rest) (raise f) p t v low high n w m (inr k) i = elim k [ ]
    starts_by (group_end g ms) x p t v low high n w m k i = all_starts_by ms x (in_group g) v low high n.0 w m k i
    starts_by (chord_end g no_lines body) (run x) p t v low high (middle, a, b, same) w m k i =
        ((starts_by body (joined (run x) []) p 0 v middle high b w m k i).0, tt)
    starts_by (chord_end g no_lines body) (skips f) p t v low high (middle, a, b, same) w m k i = starts_by body (skips f) p 0 v middle high b w m k i
    starts_by (chord_end g no_lines body) (raise f) p t v low high (middle, a, b, same) w m k i = starts_by body (raise f) p 0 v middle high b w m k i
    starts_by (chord_end g (and_line d ms) body) x p t v low high (middle, a, b, same) w m k i =
        let upto = header_place x g (and_line d ms) body p in
        let flow = joined x (outs behaviour (and_line d ms) x) in
        let by = body_event x (and_line d ms) g v in
        ⊎_elim (λ j. all_starts_by (and_line d ms) x upto v low middle a w m k j)
        (λ j. let s = all_starts_inside table (and_line d ms) low middle m.no a k in
        let r = in_items body flow p 0 by middle high b w m j in
        absurd (omega (arith, s.1, r.0)))
        (in_append_cases (items_all behaviour (and_line d ms) x upto v) (items behaviour body flow p 0 by) (w, publish m) i)

    all_starts_by : (ms : Lines) (x : LineFlow) (p : Place) (v : Event) (low high : ℕ) → LinesIn table ms low high → (w : Event) (m : Message)
        → In m.no (all_starts ms) → In (w, publish m) (items_all behaviour ms x p v) → (w ≡ v) × Runs x
    all_starts_by no_lines x p v low high n w m k i = elim k [ ]
    all_starts_by (and_line d ms) x p v low high (middle, a, e, b) w m k i =
        ⊎_elim
        (λ q. ⊎_elim (λ j. starts_by d x p 0 v low middle a w m q j)
        (λ j. let s = starts_inside table d low middle m.no a q in let r = in_all_items ms x p v middle high b w m j in absurd (omega (arith, s.1, r.0)))
        (in_append_cases (items behaviour d x p 0 v) (items_all behaviour ms x p v) (w, publish m) i))
        (λ q. ⊎_elim
        (λ j. let s = all_starts_inside table ms middle high m.no b q in let r = in_items d x p 0 v low middle a w m j in absurd (omega (arith, s.0, r.1)))
        (λ j. all_starts_by ms x p v middle high b w m q j)
        (in_append_cases (items behaviour d x p 0 v) (items_all behaviour ms x p v) (w, publish m) i))
        (in_append_cases (starts d) (all_starts ms) m.no k)

  -- the event that starts a body that runs is the completion of its header
  by_completion : (x : LineFlow) (d : Line) (ms : Lines) (g : ℕ) (v : Event) → Runs x → body_event x (and_line d ms) g v ≡ completion g
  by_completion (run x) d ms g v h = refl
  by_completion (skips f) d ms g v h = absurd h
  by_completion (raise f) d ms g v h = absurd h

  mutual
    bodies_by : (l : Line) (x : LineFlow) (p : Place) (t : ℕ) (v : Event) (low high : ℕ) → LineIn table l low high → (w : Event) (m : Message) (g : ℕ)
        → In (g, m.no) (bodies l) → In (w, publish m) (items behaviour l x p t v) → w ≡ completion g
    bodies_by stop x p t v low high n w m g k i = elim k [ ]
    bodies_by (step u rest) (run x) p t v low high (middle, a, b) w m g k i =
        let after = after_outcome (result behaviour u x) in
        ⊎_elim
        (λ j. let s = bodies_inside table rest middle high g m.no b k in
        let r = between (item_key true) low (ran behaviour u x v rest p) middle (ran_rises behaviour table true u x v rest p low middle a) (w, publish m) m.no j
        refl in
        absurd (omega (arith, s.0, r.1)))
        (λ j. bodies_by rest after p (no_of u) (end_of_line (no_of u)) middle high b w m g k j)
        (in_append_cases (ran behaviour u x v rest p) (items behaviour rest after p (no_of u) (end_of_line (no_of u))) (w, publish m) i)
    bodies_by (step u rest) (skips f) p t v low high (middle, a, b) w m g k (inl i) = absurd (no_store i)
    bodies_by (step u rest) (skips f) p t v low high (middle, a, b) w m g k (inr i) = bodies_by rest (skips f) p (no_of u) v middle high b w m g k i
    bodies_by (step u rest) (raise f) p t v low high (middle, a, b) w m g k (inl i) = absurd (no_store i)
    bodies_by (step u rest) (raise f) p t v low high (middle, a, b) w m g k (inr i) =
        ⊎_elim
        (λ j. let s = bodies_inside table rest middle high g m.no b k in let r = in_errbacks u v low middle a w m j in absurd (omega (arith, s.0, r.1)))
        (λ j. bodies_by rest (skips f) p (no_of u) v middle high b w m g k j)
        (in_append_cases (ran_all behaviour (errbacks_of u) (id_input (no_of u)) v) (items behaviour rest (skips f) p (no_of u) v) (w, publish m) i)
    bodies_by (group_end h ms) x p t v low high n w m g k i = all_bodies_by ms x (in_group h) v low high n.0 w m g k i
    bodies_by (chord_end h no_lines body) x p t v low high (middle, a, b, same) w m g k i =
        bodies_by body (joined x (outs behaviour no_lines x)) p 0 (body_event x no_lines h v) middle high b w m g k i
    bodies_by (chord_end h (and_line d ms) body) x p t v low high (middle, a, b, same) w m g k i =
        let upto = header_place x h (and_line d ms) body p in
        let flow = joined x (outs behaviour (and_line d ms) x) in
        let by = body_event x (and_line d ms) h v in
        let in_header : In (w, publish m) (items_all behaviour (and_line d ms) x upto v) → (low ≤ m.no) × (m.no < middle) =
        in_all_items (and_line d ms) x upto v low middle a w m in
        let in_body : In (w, publish m) (items behaviour body flow p 0 by) → (middle ≤ m.no) × (m.no < high) = in_items body flow p 0 by middle high b w m in
        ⊎_elim
        (λ c. ⊎_elim
        (λ q. let which = in_pairs h g m.no (starts body) q in
        ⊎_elim
        (λ j. let s = starts_inside table body middle high m.no b which.1 in let r = in_header j in absurd (omega (arith, s.0, r.1)))
        (λ j. let r = starts_by body flow p 0 by middle high b w m which.1 j in
        r.0 ∙ (by_completion x d ms h v (joined_runs behaviour (and_line d ms) x r.1) ∙ ap completion (sym which.0)))
        (in_append_cases (items_all behaviour (and_line d ms) x upto v) (items behaviour body flow p 0 by) (w, publish m) i))
        (λ q. ⊎_elim (λ j. all_bodies_by (and_line d ms) x upto v low middle a w m g q j)
        (λ j. let s = all_bodies_inside table (and_line d ms) low middle g m.no a q in let r = in_body j in absurd (omega (arith, s.1, r.0)))
        (in_append_cases (items_all behaviour (and_line d ms) x upto v) (items behaviour body flow p 0 by) (w, publish m) i))
        (in_append_cases (map (λ k. (h, k)) (starts body)) (all_bodies (and_line d ms)) (g, m.no) c))
        (λ q. ⊎_elim
        (λ j. let s = bodies_inside table body middle high g m.no b q in let r = in_header j in absurd (omega (arith, s.0, r.1)))
        (λ j. bodies_by body flow p 0 by middle high b w m g q j)
        (in_append_cases (items_all behaviour (and_line d ms) x upto v) (items behaviour body flow p 0 by) (w, publish m) i))
        (in_append_cases (map (λ k. (h, k)) (starts body) ++ all_bodies (and_line d ms)) (bodies body) (g, m.no) k)

    all_bodies_by : (ms : Lines) (x : LineFlow) (p : Place) (v : Event) (low high : ℕ) → LinesIn table ms low high → (w : Event) (m : Message) (g : ℕ)
        → In (g, m.no) (all_bodies ms) → In (w, publish m) (items_all behaviour ms x p v) → w ≡ completion g
    all_bodies_by no_lines x p v low high n w m g k i = elim k [ ]
    all_bodies_by (and_line d ms) x p v low high (middle, a, e, b) w m g k i =
        ⊎_elim
        (λ q. ⊎_elim (λ j. bodies_by d x p 0 v low middle a w m g q j)
        (λ j. let s = bodies_inside table d low middle g m.no a q in let r = in_all_items ms x p v middle high b w m j in absurd (omega (arith, s.1, r.0)))
        (in_append_cases (items behaviour d x p 0 v) (items_all behaviour ms x p v) (w, publish m) i))
        (λ q. ⊎_elim
        (λ j. let s = all_bodies_inside table ms middle high g m.no b q in let r = in_items d x p 0 v low middle a w m j in absurd (omega (arith, s.0, r.1)))
        (λ j. all_bodies_by ms x p v middle high b w m g q j)
        (in_append_cases (items behaviour d x p 0 v) (items_all behaviour ms x p v) (w, publish m) i))
        (in_append_cases (bodies d) (all_bodies ms) (g, m.no) k)

  -- each task that a line starts with is published where something flows into the line that runs it
  abbrev Sent : Event → ℕ → Items → Type 0
  Sent v k is = (m : Message) × (m.no ≡ k) × In (v, publish m) is

  sent_left : (v : Event) (k : ℕ) (is js : Items) → Sent v k is → Sent v k (is ++ js)
  sent_left v k is js (m, e, i) = (m, e, in_left is js (v, publish m) i)

  sent_right : (v : Event) (k : ℕ) (is js : Items) → Sent v k js → Sent v k (is ++ js)
  sent_right v k is js (m, e, i) = (m, e, in_right is js (v, publish m) i)

  mutual
    starts_sent : (l : Line) (x : Input) (p : Place) (t : ℕ) (v : Event) (k : ℕ) → In k (starts l) → Sent v k (items behaviour l (run x) p t v)
    starts_sent stop x p t v k i = elim i [ ]
    starts_sent (step (task j call links errbacks) rest) x p t v k (inl e) = (message (task j call links errbacks) x (parent_of v) rest p, sym e, inl refl)
    starts_sent (step u rest) x p t v k (inr i) = elim i [ ]
    starts_sent (group_end g ms) x p t v k i = all_starts_sent ms x (in_group g) v k i
    starts_sent (chord_end g no_lines body) x p t v k i = starts_sent body (list_input []) p 0 v k i
    starts_sent (chord_end g (and_line d ms) body) x p t v k i =
        sent_left v k (items_all behaviour (and_line d ms) (run x) (header_place (run x) g (and_line d ms) body p) v)
        (items behaviour body (joined (run x) (outs behaviour (and_line d ms) (run x))) p 0 (completion g))
        (all_starts_sent (and_line d ms) x (header_place (run x) g (and_line d ms) body p) v k i)

    all_starts_sent : (ms : Lines) (x : Input) (p : Place) (v : Event) (k : ℕ) → In k (all_starts ms) → Sent v k (items_all behaviour ms (run x) p v)
    all_starts_sent no_lines x p v k i = elim i [ ]
    all_starts_sent (and_line d ms) x p v k i =
        ⊎_elim (λ j. sent_left v k (items behaviour d (run x) p 0 v) (items_all behaviour ms (run x) p v) (starts_sent d x p 0 v k j))
        (λ j. sent_right v k (items behaviour d (run x) p 0 v) (items_all behaviour ms (run x) p v) (all_starts_sent ms x p v k j))
        (in_append_cases (starts d) (all_starts ms) k i)

-- ---- the whole plan

module _ (behaviour : Behaviour) (l : Line) (plan : IsPlan l) where
  -- the message of a task that a chord's body starts with is published by the completion of the chord's header
  pub body_by_completion : (g : ℕ) (v : Event) (c : Content) → In (g, number_of c.own) (bodies l) → DoesIn behaviour l v (publish c) → v ≡ completion g
  body_by_completion g v c k i =
      let r = published behaviour l plan v c i in
      let m : Message = r.0 in
      bodies_by behaviour (members l) l (run no_input) nowhere 0 start 1 (suc (count_line l)) (plan_numbered l plan) v m g
      (subst (λ n. In {X = ℕ × ℕ} (g, n) (bodies l)) (ap (λ (d : Content). number_of d.own) r.1) k) r.2

  -- each task that the plan starts with has a message, which the start publishes
  pub start_sends : (k : ℕ) → In k (starts l) → (c : Content) × (number_of c.own ≡ k) × DoesIn behaviour l start (publish c)
  start_sends k i =
      let r = starts_sent behaviour (members l) l no_input nowhere 0 start k i in
      (content r.0, r.1, does_on behaviour l plan start (publish r.0) r.2)
