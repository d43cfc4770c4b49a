-- What an event does lies later in the file than what it comes from.
use Rattle.std.proofs.Common.{◌≡◌, ℕ, suc, ◌<◌, ◌≤◌, Bool, true, false, List, [], length, Option, refl, sym, ap, subst, ◌∙◌, inl, inr, arith}
use Rattle.canvas_history.specs.Lists.{In, Each}
use Rattle.canvas_effects.specs.Job.{store, publish, part}
use Rattle.canvas_effects.specs.Flowing.{Input, list_input, id_input, LineFlow, run, skips, raise, parent_for}
use Rattle.canvas_semantics.specs.Line.{Line, stop, step, group_end, chord_end, Lines, no_lines, and_line, no_of}
use Rattle.canvas_semantics.specs.Tree.{Task, task, Tasks, no_tasks, and_task}
use Rattle.canvas_runs.proofs.Plans.Messages.{Place, nowhere, in_group, in_chord, Carried, carried, errbacks_of, lines_length, last_of, last_from, lasts}
use Rattle.canvas_runs.proofs.Plans.Effects.{Jobs, at_stop, members_place, callbacks, enter, enter_all, when_empty, header_fault, message}
use Rattle.canvas_semantics.specs.FileOrder.{TaskIn, TasksIn, EndsInTask}
use Rattle.canvas_runs.proofs.Plans.FileOrder.{LineIn, LinesIn, Lands, PlaceIn, CarriedIn, ParentIn, Formed, FormedPart}
use Rattle.canvas_runs.proofs.Lists.Words.{each_append}
use Rattle.canvas_runs.proofs.Plans.Trees.{AJob}

-- bounds

mutual
  pub task_span : (t : Task) (low high : ℕ) → TaskIn t low high → (low ≤ no_of t) × (no_of t < high)
  task_span (task k call links errbacks) low high (l, middle, a, b) =
      let x = tasks_span links (suc k) middle a in let y = tasks_span errbacks middle high b in (l, omega arith)

  pub tasks_span : (ts : Tasks) (low high : ℕ) → TasksIn ts low high → low ≤ high
  tasks_span no_tasks low high n = n
  tasks_span (and_task t ts) low high (middle, a, b) = let x = task_span t low middle a in let y = tasks_span ts middle high b in omega arith

module _ (members : ℕ → List ℕ) where
  mutual
    pub line_span : (l : Line) (low high : ℕ) → LineIn members l low high → low ≤ high
    line_span stop low high n = n
    line_span (step t rest) low high (middle, a, b) = let x = task_span t low middle a in let y = line_span rest middle high b in omega arith
    line_span (group_end g ms) low high n = lines_span ms low high n.0
    line_span (chord_end g ms body) low high (middle, a, b, e) = let x = lines_span ms low middle a in let y = line_span body middle high b in omega arith

    pub lines_span : (ms : Lines) (low high : ℕ) → LinesIn members ms low high → low ≤ high
    lines_span no_lines low high n = n
    lines_span (and_line m ms) low high (middle, a, e, b) = let x = line_span m low middle a in let y = lines_span ms middle high b in omega arith

  -- a line's last task
  pub last_below : (l : Line) (behind : Bool) (t low high : ℕ) → EndsInTask behind l → (behind ≡ true → t < low) → LineIn members l low high
      → last_from t l < high
  last_below stop behind t low high e before n = let x = before e in omega arith
  last_below (step k rest) behind t low high e before (middle, a, b) = last_below rest true (no_of k) middle high e (λ s. (task_span k low middle a).1) b
  last_below (group_end g ms) behind t low high e before n = elim e [ ]
  last_below (chord_end g ms body) behind t low high e before (middle, a, b, same) = last_below body false 0 middle high e (λ s. absurd (cc)) b

  lasts_below : (ms : Lines) (low high : ℕ) → LinesIn members ms low high → Each (λ u. u < high) (lasts ms)
  lasts_below no_lines low high n = tt
  lasts_below (and_line m ms) low high (middle, a, e, b) =
      let here = last_below m false 0 low middle e (λ s. absurd (cc)) a in
      let later = lines_span ms middle high b in
      (omega arith, lasts_below ms middle high b)

  length-lasts : (ms : Lines) → length (lasts ms) ≡ lines_length ms
  length-lasts no_lines = refl
  length-lasts (and_line m ms) = ap suc (length-lasts ms)

  carried_weaker : (limit : ℕ) (c : Carried) (g low lower : ℕ) → lower ≤ low → CarriedIn members limit c g low → CarriedIn members limit c g lower
  carried_weaker limit (carried n body q) g low lower l (from, upto, b, top, u, n', i, q', s) = (from, upto, omega arith, top, u, n', i, q', s)

module _ (members : ℕ → List ℕ) (limit : ℕ) where
  -- stores and publishes from b on, parts from d on
  abbrev pub AtLeast : ℕ → ℕ → AJob → Type 0
  AtLeast b d (store t o) = b ≤ t
  AtLeast b d (publish m) = (b ≤ m.no) × Formed members limit m
  AtLeast b d (part g t c) = (d ≤ t) × FormedPart members limit g t c

  message_formed : (k : Task) (x : Input) (u : Option ℕ) (rest : Line) (p : Place) (low middle high : ℕ) →
      ParentIn members limit (parent_for u x) → 1 ≤ low → high ≤ limit → TaskIn k low middle → LineIn members rest middle high → PlaceIn members limit p high
      → Lands members p true (no_of k) rest → Formed members limit (message k x u rest p)
  message_formed (task k call links errbacks) x u rest p low middle high v lo hi (l, a, i, j) r q s = (a, middle, high, (omega arith, v), hi, i, j, r, q, s)

  pub callbacks_after : (ts : Tasks) (x : Input) (u : Option ℕ) (b d low high : ℕ) → ParentIn members limit (parent_for u x) → b ≤ low → 1 ≤ low → high ≤ limit
      → TasksIn ts low high → Each (AtLeast b d) (callbacks ts x u)
  callbacks_after no_tasks x u b d low high v l lo hi n = tt
  callbacks_after (and_task t ts) x u b d low high v l lo hi (middle, i, j) =
      let span = task_span t low middle i in let more = tasks_span ts middle high j in (
        (omega arith, message_formed t x u stop nowhere low middle middle v lo (omega arith) i (omega arith) tt tt),
        callbacks_after ts x u b d middle high v (omega arith) (omega arith) hi j,
      )

  abbrev LandsAll : Place → Lines → Type 0
  LandsAll p no_lines = Unit
  LandsAll p (and_line m ms) = Lands members p false 0 m × LandsAll p ms

  lands_nowhere : (ms : Lines) → LandsAll nowhere ms
  lands_nowhere no_lines = tt
  lands_nowhere (and_line m ms) = (tt, lands_nowhere ms)

  lands_chord : (g : ℕ) (c : Carried) (ms : Lines) (low high : ℕ) → ((u : ℕ) → In u (lasts ms) → In u (members g)) → LinesIn members ms low high
      → LandsAll (in_chord g c) ms
  lands_chord g c no_lines low high f n = tt
  lands_chord g c (and_line m ms) low high f (middle, a, e, b) = ((e, f (last_of m) (inl refl)), lands_chord g c ms middle high (λ u i. f u (inr i)) b)

  lands_group : (g : ℕ) (ms : Lines) (low high : ℕ) → ((u : ℕ) → In u (lasts ms) → In u (members g)) → LinesIn members ms low high → LandsAll (in_group g) ms
  lands_group g no_lines low high f n = tt
  lands_group g (and_line m ms) low high f (middle, a, e, b) = ((e, f (last_of m) (inl refl)), lands_group g ms middle high (λ u i. f u (inr i)) b)

  -- where the members of a header that runs go
  place_lands : (g : ℕ) (ms : Lines) (body : Line) (p : Place) (low high : ℕ) → LinesIn members ms low high → members g ≡ lasts ms
      → LandsAll (members_place g ms body p) ms
  place_lands g no_lines body p low high n same = tt
  place_lands g (and_line m ms) body p low high n same =
      lands_chord g (carried (suc (lines_length ms)) body p) (and_line m ms) low high (λ u i. subst (In u) (sym same) i) n

  place_in : (g : ℕ) (ms : Lines) (body : Line) (p : Place) (low middle high : ℕ) → high ≤ limit → LinesIn members ms low middle → members g ≡ lasts ms →
      LineIn members body middle high → PlaceIn members limit p high → Lands members p false 0 body → PlaceIn members limit (members_place g ms body p) middle
  place_in g no_lines body p low middle high hi n same b q s = tt
  place_in g (and_line m ms) body p low middle high hi n same b q s = (
    middle,
    high,
    omega arith,
    hi,
    subst (Each (λ u. u < middle)) (sym same) (lasts_below members (and_line m ms) low middle n),
    sym (ap length same ∙ length-lasts members (and_line m ms)),
    b,
    q,
    s,
  )

  lands_body : (p : Place) (behind : Bool) (t g : ℕ) (ms : Lines) (body : Line) → Lands members p behind t (chord_end g ms body) → Lands members p false 0 body
  lands_body nowhere behind t g ms body s = tt
  lands_body (in_group h) behind t g ms body s = s
  lands_body (in_chord h c) behind t g ms body s = s

  lands_rest : (p : Place) (behind : Bool) (t : ℕ) (k : Task) (rest : Line) → Lands members p behind t (step k rest) → Lands members p true (no_of k) rest
  lands_rest nowhere behind t k rest s = tt
  lands_rest (in_group h) behind t k rest s = s
  lands_rest (in_chord h c) behind t k rest s = s

  stop_after : (p : Place) (behind : Bool) (t b d high : ℕ) → (behind ≡ true → d ≤ t) → PlaceIn members limit p high → Lands members p behind t stop
      → Each (AtLeast b d) (at_stop p t)
  stop_after nowhere behind t b d high f q s = tt
  stop_after (in_group g) behind t b d high f q s = tt
  stop_after (in_chord g c) behind t b d high f q s = ((f s.0, (s.1, carried_weaker members limit c g high 0 (omega arith) q)), tt)

  empty_after : (ms : Lines) (P : AJob → Type 0) (js : Jobs) → Each P js → Each P (when_empty ms js)
  empty_after no_lines P js a = a
  empty_after (and_line m ms) P js a = tt

  no_true : {A : Type 0} → false ≡ true → A
  no_true e = absurd (cc)

  place_weaker : (p : Place) (low high : ℕ) → low ≤ high → PlaceIn members limit p high → PlaceIn members limit p low
  place_weaker nowhere low high l q = tt
  place_weaker (in_group g) low high l q = tt
  place_weaker (in_chord g c) low high l q = carried_weaker members limit c g high low l q

  errbacks_after : (k : Task) (x : Input) (u : Option ℕ) (b d low middle : ℕ) → ParentIn members limit (parent_for u x) → b ≤ low → 1 ≤ low → middle ≤ limit
      → TaskIn k low middle → Each (AtLeast b d) (callbacks (errbacks_of k) x u)
  errbacks_after (task k call links errbacks) x u b d low middle v l lo hi (i, a, m, n) =
      let span = tasks_span links (suc k) a m in callbacks_after errbacks x u b d a middle v (omega arith) (omega arith) hi n

  -- the parent of what runs
  abbrev pub FlowIn : Option ℕ → LineFlow → Type 0
  FlowIn u (run x) = ParentIn members limit (parent_for u x)
  FlowIn u (skips e) = Unit
  FlowIn u (raise e) = Unit

  mutual
    pub enter_after : (l : Line) (x : LineFlow) (p : Place) (t : ℕ) (u : Option ℕ) (behind : Bool) (b d low high : ℕ) → b ≤ low → d ≤ b
        → (behind ≡ true → d ≤ t) → 1 ≤ low → high ≤ limit → ParentIn members limit u → FlowIn u x →
        LineIn members l low high → PlaceIn members limit p high → Lands members p behind t l → Each (AtLeast b d) (enter l x p t u)
    enter_after stop x p t u behind b d low high bl db f lo hi pu px n q s = stop_after p behind t b d high f q s
    enter_after (step k rest) (run x) p t u behind b d low high bl db f lo hi pu px (middle, i, j) q s =
        let span = task_span k low middle i in
        ((omega arith, message_formed k x u rest p low middle high px lo hi i j q (lands_rest p behind t k rest s)), tt)
    enter_after (step k rest) (skips e) p t u behind b d low high bl db f lo hi pu px (middle, i, j) q s =
        let span = task_span k low middle i in (
          omega arith,
          enter_after rest (skips e) p (no_of k) u true b d middle high (omega arith) db (λ y. omega arith) (omega arith) hi pu tt j q
              (lands_rest p behind t k rest s),
        )
    enter_after (step k rest) (raise e) p t u behind b d low high bl db f lo hi pu px (middle, i, j) q s =
        let span = task_span k low middle i in
        let more = line_span members rest middle high j in (
          omega arith,
          each_append (AtLeast b d) (callbacks (errbacks_of k) (id_input (no_of k)) u) _
              (errbacks_after k (id_input (no_of k)) u b d low middle (omega (arith, span.0), omega (arith, span.1)) bl lo (omega arith) i)
              (enter_after rest (skips e) p (no_of k) u true b d middle high (omega arith) db (λ y. omega arith) (omega arith) hi pu tt j q
              (lands_rest p behind t k rest s)),
        )
    enter_after (group_end g ms) x p t u behind b d low high bl db f lo hi pu px n q s =
        enter_all_after ms x (in_group g) u b d low high bl db lo hi pu px n.0 tt (lands_group g ms low high (λ u i. subst (In u) (sym n.1) i) n.0)
    enter_after (chord_end g ms body) (run x) p t u behind b d low high bl db f lo hi pu px (middle, i, j, same) q s =
        let span = lines_span members ms low middle i in
        let more = line_span members body middle high j in
        each_append (AtLeast b d) (enter_all ms (run x) (members_place g ms body p) u) _
        (enter_all_after ms (run x) (members_place g ms body p) u b d low middle bl db lo (omega arith) pu px i
        (place_in g ms body p low middle high hi i same j q (lands_body p behind t g ms body s)) (place_lands g ms body p low middle i same))
        (empty_after ms (AtLeast b d) _
        (enter_after body (run (list_input [])) p 0 u false b d middle high (omega arith) db (λ y. no_true y) (omega arith) hi pu pu j q
        (lands_body p behind t g ms body s)))
    enter_after (chord_end g ms body) (skips e) p t u behind b d low high bl db f lo hi pu px (middle, i, j, same) q s =
        let span = lines_span members ms low middle i in
        let more = line_span members body middle high j in
        each_append (AtLeast b d) (enter_all ms (skips e) nowhere u) _
        (enter_all_after ms (skips e) nowhere u b d low middle bl db lo (omega arith) pu tt i tt (lands_nowhere ms))
        (enter_after body (skips e) p 0 u false b d middle high (omega arith) db (λ y. no_true y) (omega arith) hi pu tt j q
        (lands_body p behind t g ms body s))
    enter_after (chord_end g ms body) (raise e) p t u behind b d low high bl db f lo hi pu px (middle, i, j, same) q s =
        let span = lines_span members ms low middle i in
        let more = line_span members body middle high j in
        each_append (AtLeast b d) (enter_all ms (raise e) nowhere u) _
        (enter_all_after ms (raise e) nowhere u b d low middle bl db lo (omega arith) pu tt i tt (lands_nowhere ms))
        (enter_after body (raise (header_fault ms e)) p 0 u false b d middle high (omega arith) db (λ y. no_true y) (omega arith) hi pu tt j q
        (lands_body p behind t g ms body s))

    pub enter_all_after : (ms : Lines) (x : LineFlow) (p : Place) (u : Option ℕ) (b d low high : ℕ) → b ≤ low → d ≤ b → 1 ≤ low → high ≤ limit
        → ParentIn members limit u → FlowIn u x →
        LinesIn members ms low high → PlaceIn members limit p high → LandsAll p ms → Each (AtLeast b d) (enter_all ms x p u)
    enter_all_after no_lines x p u b d low high bl db lo hi pu px n q s = tt
    enter_all_after (and_line m ms) x p u b d low high bl db lo hi pu px (middle, i, e, j) q s =
        let span = line_span members m low middle i in
        let more = lines_span members ms middle high j in
        each_append (AtLeast b d) (enter m x p 0 u) _
        (enter_after m x p 0 u false b d low middle bl db (λ y. no_true y) lo (omega arith) pu px i (place_weaker p middle high more q) s.0)
        (enter_all_after ms x p u b d middle high (omega arith) db (omega arith) hi pu px j q s.1)
