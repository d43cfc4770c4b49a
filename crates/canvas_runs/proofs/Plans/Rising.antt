-- What is done is in the order of the file, so each task is run once and stored once.
use Rattle.std.proofs.Common.{◌≡◌, ℕ, suc, ◌+◌, ◌<◌, ◌≤◌, Bool, true, false, cond, eqb, List, [], ◌∷◌, ◌++◌, Option, Some, None, refl, sym, ap, subst, ◌∙◌, inl, inr, ◌⊎◌, arith}
use Rattle.std.proofs.lemmas.Bool.{eqb-true}
use Rattle.canvas_task.specs.Apply.{Behaviour}
use Rattle.canvas_history.specs.Lists.{In, total}
use Rattle.canvas_effects.specs.Job.{store, publish, part}
use Rattle.canvas_effects.specs.Events.{Event, running, end_of_line, chosen}
use Rattle.canvas_effects.specs.Flowing.{Input, list_input, id_input, LineFlow, run, skips, raise, after_outcome}
use Rattle.canvas_semantics.specs.Line.{Line, stop, step, group_end, chord_end, Lines, no_lines, and_line, no_of}
use Rattle.canvas_semantics.specs.Tree.{Task, task, Tasks, no_tasks, and_task}
use Rattle.canvas_task.specs.declared.outcome.Outcome.{Outcome}
use Rattle.canvas_task.specs.declared.outcome.Outcome.TheVariants.{Success, Failure}
use Rattle.canvas_runs.proofs.Plans.Messages.{Place, nowhere, in_group, in_chord, errbacks_of, Message}
use Rattle.canvas_runs.proofs.Plans.Effects.{Jobs, at_stop, members_place, callbacks, enter, enter_all, when_empty, header_fault, message, by_kind, picked, only_store, only_publish, only_part}
use Rattle.canvas_runs.proofs.Plans.Evaluation.{Items, labelled, joined, header_place, body_event, result, outs, ran, ran_all, items, items_all}
use Rattle.canvas_semantics.specs.FileOrder.{TaskIn, TasksIn}
use Rattle.canvas_runs.proofs.Plans.FileOrder.{LineIn, LinesIn}
use Rattle.canvas_runs.proofs.Lists.Sums.{total-append}
use Rattle.canvas_runs.proofs.Plans.Trees.{AJob}
use Rattle.canvas_runs.proofs.Plans.Order.{task_span, tasks_span, line_span}

-- the keys are in rising order, from the first bound on and below the second
module _ {X : Type 0} (key : X → Option ℕ) where
  abbrev pub Next : Option ℕ → ℕ → (ℕ → Type 0) → Type 0
  Next None low R = R low
  Next (Some k) low R = (low ≤ k) × R (suc k)

  abbrev pub Rises : ℕ → List X → ℕ → Type 0
  Rises low [] high = low ≤ high
  Rises low (x ∷ xs) high = Next (key x) low (λ l. Rises l xs high)

  pub rises_span : (low : ℕ) (xs : List X) (high : ℕ) → Rises low xs high → low ≤ high
  rises_span low [] high r = r
  rises_span low (x ∷ xs) high r = go (key x) r (λ l. rises_span l xs high)
    where
      go : (k : Option ℕ) → Next k low (λ l. Rises l xs high) → ((l : ℕ) → Rises l xs high → l ≤ high) → low ≤ high
      go None r f = f low r
      go (Some k) r f = let x = f (suc k) r.1 in omega (arith, r.0)

  pub rises_lower : (lower low : ℕ) (xs : List X) (high : ℕ) → lower ≤ low → Rises low xs high → Rises lower xs high
  rises_lower lower low [] high l r = omega arith
  rises_lower lower low (x ∷ xs) high l r = go (key x) r (rises_lower lower low xs high l)
    where
      go : (k : Option ℕ) → Next k low (λ l. Rises l xs high) → (Rises low xs high → Rises lower xs high) → Next k lower (λ l. Rises l xs high)
      go None r f = f r
      go (Some k) r f = (omega (arith, r.0), r.1)

  pub rises_append : (low middle high : ℕ) (xs ys : List X) → Rises low xs middle → Rises middle ys high → Rises low (xs ++ ys) high
  rises_append low middle high [] ys r q = rises_lower low middle ys high r q
  rises_append low middle high (x ∷ xs) ys r q = go (key x) r (λ l s. rises_append l middle high xs ys s q)
    where
      go : (k : Option ℕ) → Next k low (λ l. Rises l xs middle) → ((l : ℕ) → Rises l xs middle → Rises l (xs ++ ys) high)
          → Next k low (λ l. Rises l (xs ++ ys) high)
      go None r f = f low r
      go (Some k) r f = (r.0, f (suc k) r.1)

  pub rises_higher : (low high higher : ℕ) (xs : List X) → high ≤ higher → Rises low xs high → Rises low xs higher
  rises_higher low high higher [] l r = omega arith
  rises_higher low high higher (x ∷ xs) l r = go (key x) r (λ m s. rises_higher m high higher xs l s)
    where
      go : (k : Option ℕ) → Next k low (λ l. Rises l xs high) → ((m : ℕ) → Rises m xs high → Rises m xs higher) → Next k low (λ l. Rises l xs higher)
      go None r f = f low r
      go (Some k) r f = (r.0, f (suc k) r.1)

  -- one that has key k, or none, before those above k
  pub rises_one : (low k high : ℕ) (x : X) (xs : List X) → low ≤ k → (key x ≡ Some k) ⊎ (key x ≡ None) → Rises (suc k) xs high → Rises low (x ∷ xs) high
  rises_one low k high x xs l (inl e) r = subst (λ o. Next o low (λ l. Rises l xs high)) (sym e) (l, r)
  rises_one low k high x xs l (inr e) r = subst (λ o. Next o low (λ l. Rises l xs high)) (sym e) (rises_lower low (suc k) xs high (omega arith) r)

  key_low : (low : ℕ) (xs : List X) (high : ℕ) → Rises low xs high → (x : X) (k : ℕ) → In x xs → key x ≡ Some k → low ≤ k
  key_low low [] high r x k i e = elim i [ ]
  key_low low (y ∷ xs) high r x k (inl same) e = go (key y) refl r
    where
      go : (o : Option ℕ) → key y ≡ o → Next o low (λ l. Rises l xs high) → low ≤ k
      go None f r = absurd (none_some (sym (ap key same ∙ f) ∙ e))
        where
          none_some : ◌≡◌ {A = Option ℕ} None (Some k) → ⊥
          none_some q = cc
      go (Some j) f r = let q : j ≡ k = some_same (sym f ∙ (sym (ap key same) ∙ e)) in omega (arith, r.0)
        where
          some_same : ◌≡◌ {A = Option ℕ} (Some j) (Some k) → j ≡ k
          some_same q = cc
  key_low low (y ∷ xs) high r x k (inr i) e = go (key y) r (λ l s. key_low l xs high s x k i e)
    where
      go : (o : Option ℕ) → Next o low (λ l. Rises l xs high) → ((l : ℕ) → Rises l xs high → l ≤ k) → low ≤ k
      go None r f = f low r
      go (Some j) r f = let q = f (suc j) r.1 in omega (arith, r.0)

  tail_rises : (low : ℕ) (y : X) (xs : List X) (high : ℕ) → Rises low (y ∷ xs) high → (l : ℕ) × Rises l xs high × ((k : ℕ) → key y ≡ Some k → k < l)
  tail_rises low y xs high r = go (key y) refl r
    where
      go : (o : Option ℕ) → key y ≡ o → Next o low (λ l. Rises l xs high) → (l : ℕ) × Rises l xs high × ((k : ℕ) → key y ≡ Some k → k < l)
      go None f r = (low, r, λ k e. absurd (none_some k (sym f ∙ e)))
        where
          none_some : (k : ℕ) → ◌≡◌ {A = Option ℕ} None (Some k) → ⊥
          none_some k q = cc
      go (Some j) f r = (suc j, r.1, λ k e. let q : j ≡ k = some_same k (sym f ∙ e) in omega arith)
        where
          some_same : (k : ℕ) → ◌≡◌ {A = Option ℕ} (Some j) (Some k) → j ≡ k
          some_same k q = cc

  -- one key, one element
  pub rises_unique : (low : ℕ) (xs : List X) (high : ℕ) → Rises low xs high → (x y : X) (k : ℕ) → In x xs → In y xs → key x ≡ Some k → key y ≡ Some k → x ≡ y
  rises_unique low [] high r x y k i j e f = elim i [ ]
  rises_unique low (z ∷ xs) high r x y k (inl i) (inl j) e f = i ∙ sym j
  rises_unique low (z ∷ xs) high r x y k (inl i) (inr j) e f =
      let t = tail_rises low z xs high r in
      let above = key_low t.0 xs high t.1 y k j f in
      let below : k < t.0 = t.2 k (sym (ap key i) ∙ e) in absurd (omega arith)
  rises_unique low (z ∷ xs) high r x y k (inr i) (inl j) e f =
      let t = tail_rises low z xs high r in
      let above = key_low t.0 xs high t.1 x k i e in
      let below : k < t.0 = t.2 k (sym (ap key j) ∙ f) in absurd (omega arith)
  rises_unique low (z ∷ xs) high r x y k (inr i) (inr j) e f =
      let t = tail_rises low z xs high r in rises_unique t.0 xs high t.1 x y k i j e f

-- the task that a job publishes, or the task that it stores
abbrev pub job_key : Bool → AJob → Option ℕ
job_key true (store t o) = None
job_key true (publish m) = Some m.no
job_key true (part g t c) = None
job_key false (store t o) = Some t
job_key false (publish m) = None
job_key false (part g t c) = None

abbrev pub item_key : Bool → Event × AJob → Option ℕ
item_key b x = job_key b x.1

stored_key : (b : Bool) (t : ℕ) (o : Outcome) → (job_key b (store t o) ≡ Some t) ⊎ (job_key b (store t o) ≡ None)
stored_key true t o = inr refl
stored_key false t o = inl refl

sent_key : (b : Bool) (m : Message) → (job_key b (publish m) ≡ Some m.no) ⊎ (job_key b (publish m) ≡ None)
sent_key true m = inl refl
sent_key false m = inr refl

module _ (behaviour : Behaviour) (members : ℕ → List ℕ) (b : Bool) where
  abbrev Up : ℕ → Items → ℕ → Type 0
  Up low is high = Rises (item_key b) low is high

  chosen_rises : (o : Outcome) (low middle high : ℕ) (xs ys : Items) → Up low xs middle → Up middle ys high → low ≤ middle → middle ≤ high
      → Up low (chosen o xs ys) high
  chosen_rises (Success n) low middle high xs ys r q l h = rises_higher (item_key b) low middle high xs h r
  chosen_rises (Failure f) low middle high xs ys r q l h = rises_lower (item_key b) low middle ys high l q

  -- a publish and a store of one task
  two_rise : (k low high : ℕ) (v w : Event) (m : Message) (o : Outcome) (is : Items) → m.no ≡ k → low ≤ k → Up (suc k) is high
      → Up low ((v, publish m) ∷ (w, store k o) ∷ is) high
  two_rise k low high v w m o is same l r = go b r
    where
      go : (d : Bool) → Rises (item_key d) (suc k) is high → Rises (item_key d) low ((v, publish m) ∷ (w, store k o) ∷ is) high
      go true r = (omega arith, subst (λ u. Rises (item_key true) (suc u) is high) (sym same) r)
      go false r = (l, r)

  mutual
    pub ran_rises : (t : Task) (x : Input) (v : Event) (rest : Line) (p : Place) (low high : ℕ) → TaskIn t low high → Up low (ran behaviour t x v rest p) high
    ran_rises (task k call links errbacks) x v rest p low high (l, middle, i, j) =
        two_rise k low high v (running k) _ _ _ refl l
        (chosen_rises _ (suc k) middle high _ _ (ran_all_rises links _ (end_of_line k) (suc k) middle i)
        (ran_all_rises errbacks (id_input k) (end_of_line k) middle high j)
        (tasks_span links (suc k) middle i) (tasks_span errbacks middle high j))

    ran_all_rises : (ts : Tasks) (x : Input) (v : Event) (low high : ℕ) → TasksIn ts low high → Up low (ran_all behaviour ts x v) high
    ran_all_rises no_tasks x v low high n = n
    ran_all_rises (and_task t ts) x v low high (middle, i, j) =
        rises_append (item_key b) low middle high (ran behaviour t x v stop nowhere) _ (ran_rises t x v stop nowhere low middle i)
        (ran_all_rises ts x v middle high j)

  stop_rises : (p : Place) (t : ℕ) (v : Event) (low high : ℕ) → low ≤ high → Up low (labelled v (at_stop p t)) high
  stop_rises nowhere t v low high l = l
  stop_rises (in_group g) t v low high l = l
  stop_rises (in_chord g c) t v low high l = go b
    where
      go : (d : Bool) → Rises (item_key d) low ((v, part g t c) ∷ []) high
      go true = l
      go false = l

  pub errbacks_rise : (k : Task) (x : Input) (v : Event) (low high : ℕ) → TaskIn k low high → Up (suc (no_of k)) (ran_all behaviour (errbacks_of k) x v) high
  errbacks_rise (task k call links errbacks) x v low high (l, middle, i, j) =
      rises_lower (item_key b) (suc k) middle (ran_all behaviour errbacks x v) high (tasks_span links (suc k) middle i)
      (ran_all_rises errbacks x v middle high j)

  mutual
    pub items_rise : (l : Line) (x : LineFlow) (p : Place) (t : ℕ) (v : Event) (low high : ℕ) → LineIn members l low high
        → Up low (items behaviour l x p t v) high
    items_rise stop x p t v low high n = stop_rises p t v low high n
    items_rise (step k rest) (run x) p t v low high (middle, i, j) =
        rises_append (item_key b) low middle high (ran behaviour k x v rest p) _ (ran_rises k x v rest p low middle i)
        (items_rise rest (after_outcome (result behaviour k x)) p (no_of k) (end_of_line (no_of k)) middle high j)
    items_rise (step k rest) (skips f) p t v low high (middle, i, j) =
        let span = task_span k low middle i in
        rises_one (item_key b) low (no_of k) high (v, store (no_of k) (Failure f)) _ span.0 (stored_key b (no_of k) (Failure f))
        (rises_lower (item_key b) (suc (no_of k)) middle _ high (omega arith) (items_rise rest (skips f) p (no_of k) v middle high j))
    items_rise (step k rest) (raise f) p t v low high (middle, i, j) =
        let span = task_span k low middle i in
        rises_one (item_key b) low (no_of k) high (v, store (no_of k) (Failure f)) _ span.0 (stored_key b (no_of k) (Failure f))
        (rises_append (item_key b) (suc (no_of k)) middle high (ran_all behaviour (errbacks_of k) (id_input (no_of k)) v) _
        (errbacks_rise k (id_input (no_of k)) v low middle i) (items_rise rest (skips f) p (no_of k) v middle high j))
    items_rise (group_end g ms) x p t v low high n = items_all_rise ms x (in_group g) v low high n.0
    items_rise (chord_end g ms body) x p t v low high (middle, i, j, same) =
        rises_append (item_key b) low middle high (items_all behaviour ms x (header_place x g ms body p) v) _
        (items_all_rise ms x (header_place x g ms body p) v low middle i)
        (items_rise body (joined x (outs behaviour ms x)) p 0 (body_event x ms g v) middle high j)

    pub items_all_rise : (ms : Lines) (x : LineFlow) (p : Place) (v : Event) (low high : ℕ) → LinesIn members ms low high
        → Up low (items_all behaviour ms x p v) high
    items_all_rise no_lines x p v low high n = n
    items_all_rise (and_line m ms) x p v low high (middle, i, e, j) =
        rises_append (item_key b) low middle high (items behaviour m x p 0 v) _ (items_rise m x p 0 v low middle i) (items_all_rise ms x p v middle high j)

module _ (members : ℕ → List ℕ) (b : Bool) where
  abbrev pub Sends : ℕ → Jobs → ℕ → Type 0
  Sends low js high = Rises (job_key b) low js high

  pub callbacks_rise : (ts : Tasks) (x : Input) (u : Option ℕ) (low high : ℕ) → TasksIn ts low high → Sends low (callbacks ts x u) high
  callbacks_rise no_tasks x u low high n = n
  callbacks_rise (and_task t ts) x u low high (middle, i, j) =
      let span = task_span t low middle i in
      rises_one (job_key b) low (no_of t) high (publish (message t x u stop nowhere)) (callbacks ts x u) span.0 (sent_key b (message t x u stop nowhere))
      (rises_lower (job_key b) (suc (no_of t)) middle (callbacks ts x u) high (omega arith) (callbacks_rise ts x u middle high j))

  at_stop_rises : (p : Place) (t : ℕ) (low high : ℕ) → low ≤ high → Sends low (at_stop p t) high
  at_stop_rises nowhere t low high l = l
  at_stop_rises (in_group g) t low high l = l
  at_stop_rises (in_chord g c) t low high l = go b
    where
      go : (d : Bool) → Rises (job_key d) low (part g t c ∷ []) high
      go true = l
      go false = l

  errbacks_sent : (k : Task) (x : Input) (u : Option ℕ) (low high : ℕ) → TaskIn k low high → Sends (suc (no_of k)) (callbacks (errbacks_of k) x u) high
  errbacks_sent (task k call links errbacks) x u low high (l, middle, i, j) =
      let span = tasks_span links (suc k) middle i in
      rises_lower (job_key b) (suc k) middle (callbacks errbacks x u) high (omega arith) (callbacks_rise errbacks x u middle high j)

  empty_rises : (ms : Lines) (js : Jobs) (low high : ℕ) → low ≤ high → Sends low js high → Sends low (when_empty ms js) high
  empty_rises no_lines js low high l r = r
  empty_rises (and_line m ms) js low high l r = l

  mutual
    pub enter_rises : (l : Line) (x : LineFlow) (p : Place) (t : ℕ) (u : Option ℕ) (low high : ℕ) → LineIn members l low high → Sends low (enter l x p t u) high
    enter_rises stop x p t u low high n = at_stop_rises p t low high n
    enter_rises (step k rest) (run x) p t u low high (middle, i, j) =
        let span = task_span k low middle i in let more = line_span members rest middle high j in
        rises_one (job_key b) low (no_of k) high (publish (message k x u rest p)) [] span.0 (sent_key b (message k x u rest p)) (omega arith)
    enter_rises (step k rest) (skips f) p t u low high (middle, i, j) =
        let span = task_span k low middle i in
        rises_one (job_key b) low (no_of k) high (store (no_of k) (Failure f)) _ span.0 (stored_key b (no_of k) (Failure f))
        (rises_lower (job_key b) (suc (no_of k)) middle (enter rest (skips f) p (no_of k) u) high (omega arith)
        (enter_rises rest (skips f) p (no_of k) u middle high j))
    enter_rises (step k rest) (raise f) p t u low high (middle, i, j) =
        let span = task_span k low middle i in
        rises_one (job_key b) low (no_of k) high (store (no_of k) (Failure f)) _ span.0 (stored_key b (no_of k) (Failure f))
        (rises_append (job_key b) (suc (no_of k)) middle high (callbacks (errbacks_of k) (id_input (no_of k)) u) _
        (errbacks_sent k (id_input (no_of k)) u low middle i) (enter_rises rest (skips f) p (no_of k) u middle high j))
    enter_rises (group_end g ms) x p t u low high n = enter_all_rises ms x (in_group g) u low high n.0
    enter_rises (chord_end g ms body) (run x) p t u low high (middle, i, j, same) =
        rises_append (job_key b) low middle high (enter_all ms (run x) (members_place g ms body p) u) _
        (enter_all_rises ms (run x) (members_place g ms body p) u low middle i)
        (empty_rises ms _ middle high (line_span members body middle high j) (enter_rises body (run (list_input [])) p 0 u middle high j))
    enter_rises (chord_end g ms body) (skips f) p t u low high (middle, i, j, same) =
        rises_append (job_key b) low middle high (enter_all ms (skips f) nowhere u) _
        (enter_all_rises ms (skips f) nowhere u low middle i) (enter_rises body (skips f) p 0 u middle high j)
    enter_rises (chord_end g ms body) (raise f) p t u low high (middle, i, j, same) =
        rises_append (job_key b) low middle high (enter_all ms (raise f) nowhere u) _
        (enter_all_rises ms (raise f) nowhere u low middle i) (enter_rises body (raise (header_fault ms f)) p 0 u middle high j)

    pub enter_all_rises : (ms : Lines) (x : LineFlow) (p : Place) (u : Option ℕ) (low high : ℕ) → LinesIn members ms low high
        → Sends low (enter_all ms x p u) high
    enter_all_rises no_lines x p u low high n = n
    enter_all_rises (and_line m ms) x p u low high (middle, i, e, j) =
        rises_append (job_key b) low middle high (enter m x p 0 u) _ (enter_rises m x p 0 u low middle i) (enter_all_rises ms x p u middle high j)

-- 1 where the job publishes the message of task k
abbrev pub sends : ℕ → AJob → ℕ
sends k (store t o) = 0
sends k (publish m) = cond (eqb m.no k) 1 0
sends k (part g t c) = 0

-- none below the bound, at most one in all
pub rising_once : (k low high : ℕ) (js : Jobs) → Rises (job_key true) low js high → (total (sends k) js ≤ 1) × (k < low → total (sends k) js ≡ 0)
rising_once k low high [] r = (omega arith, λ l. refl)
rising_once k low high (store t o ∷ js) r = let q = rising_once k low high js r in (omega (arith, q.0), λ l. let z = q.1 l in omega arith)
rising_once k low high (part g t c ∷ js) r = let q = rising_once k low high js r in (omega (arith, q.0), λ l. let z = q.1 l in omega arith)
rising_once k low high (publish m ∷ js) (l, r) = go (eqb m.no k) refl (rising_once k (suc m.no) high js r)
  where
    go : (d : Bool) → eqb m.no k ≡ d → (total (sends k) js ≤ 1) × (k < suc m.no → total (sends k) js ≡ 0)
        → (cond d 1 0 + total (sends k) js ≤ 1) × (k < low → cond d 1 0 + total (sends k) js ≡ 0)
    go true e q = let same : m.no ≡ k = eqb-true _ _ e in let z = q.1 (omega arith) in (omega arith, λ b. absurd (omega arith))
    go false e q = (omega (arith, q.0), λ b. let z = q.1 (omega arith) in omega arith)

-- the kinds apart have the same publishes
pub by_kind_sends : (k : ℕ) (js : Jobs) → total (sends k) (by_kind js) ≡ total (sends k) js
by_kind_sends k js =
    let s = stores js in let p = publishes js in let q = parts js in
    omega (
      arith,
      total-append (sends k) (picked only_store js) (picked only_publish js ++ picked only_part js),
      total-append (sends k) (picked only_publish js) (picked only_part js),
    )
  where
    stores : (xs : Jobs) → total (sends k) (picked only_store xs) ≡ 0
    stores [] = refl
    stores (store t o ∷ xs) = let r = stores xs in omega arith
    stores (publish m ∷ xs) = stores xs
    stores (part g t c ∷ xs) = stores xs

    publishes : (xs : Jobs) → total (sends k) (picked only_publish xs) ≡ total (sends k) xs
    publishes [] = refl
    publishes (store t o ∷ xs) = let r = publishes xs in omega arith
    publishes (publish m ∷ xs) = ap (λ n. cond (eqb m.no k) 1 0 + n) (publishes xs)
    publishes (part g t c ∷ xs) = let r = publishes xs in omega arith

    parts : (xs : Jobs) → total (sends k) (picked only_part xs) ≡ 0
    parts [] = refl
    parts (store t o ∷ xs) = parts xs
    parts (publish m ∷ xs) = parts xs
    parts (part g t c ∷ xs) = let r = parts xs in omega arith

-- the same for stores
abbrev pub keeps_of : ℕ → AJob → ℕ
keeps_of k (store t o) = cond (eqb t k) 1 0
keeps_of k (publish m) = 0
keeps_of k (part g t c) = 0

pub storing_once : (k low high : ℕ) (js : Jobs) → Rises (job_key false) low js high → (total (keeps_of k) js ≤ 1) × (k < low → total (keeps_of k) js ≡ 0)
storing_once k low high [] r = (omega arith, λ l. refl)
storing_once k low high (publish m ∷ js) r = let q = storing_once k low high js r in (omega (arith, q.0), λ l. let z = q.1 l in omega arith)
storing_once k low high (part g t c ∷ js) r = let q = storing_once k low high js r in (omega (arith, q.0), λ l. let z = q.1 l in omega arith)
storing_once k low high (store t o ∷ js) (l, r) = go (eqb t k) refl (storing_once k (suc t) high js r)
  where
    go : (d : Bool) → eqb t k ≡ d → (total (keeps_of k) js ≤ 1) × (k < suc t → total (keeps_of k) js ≡ 0) → (cond d 1 0 + total (keeps_of k) js ≤ 1)
        × (k < low → cond d 1 0 + total (keeps_of k) js ≡ 0)
    go true e q = let same : t ≡ k = eqb-true _ _ e in let z = q.1 (omega arith) in (omega arith, λ b. absurd (omega arith))
    go false e q = (omega (arith, q.0), λ b. let z = q.1 (omega arith) in omega arith)

pub by_kind_keeps : (k : ℕ) (js : Jobs) → total (keeps_of k) (by_kind js) ≡ total (keeps_of k) js
by_kind_keeps k js =
    let s = stores js in let p = publishes js in let q = parts js in
    omega (
      arith,
      total-append (keeps_of k) (picked only_store js) (picked only_publish js ++ picked only_part js),
      total-append (keeps_of k) (picked only_publish js) (picked only_part js),
    )
  where
    stores : (xs : Jobs) → total (keeps_of k) (picked only_store xs) ≡ total (keeps_of k) xs
    stores [] = refl
    stores (store t o ∷ xs) = ap (λ n. cond (eqb t k) 1 0 + n) (stores xs)
    stores (publish m ∷ xs) = let r = stores xs in omega arith
    stores (part g t c ∷ xs) = let r = stores xs in omega arith

    publishes : (xs : Jobs) → total (keeps_of k) (picked only_publish xs) ≡ 0
    publishes [] = refl
    publishes (store t o ∷ xs) = publishes xs
    publishes (publish m ∷ xs) = let r = publishes xs in omega arith
    publishes (part g t c ∷ xs) = publishes xs

    parts : (xs : Jobs) → total (keeps_of k) (picked only_part xs) ≡ 0
    parts [] = refl
    parts (store t o ∷ xs) = parts xs
    parts (publish m ∷ xs) = parts xs
    parts (part g t c ∷ xs) = let r = parts xs in omega arith
