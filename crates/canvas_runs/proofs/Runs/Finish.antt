-- A core run that ends between scripts has stored each message that it took, First or Again, and where it was first it has done all that this owes.
use Rattle.std.proofs.Common.{⊎_elim, ◌≡◌, ◌⊎◌, ℕ, zero, suc, Bool, true, false, cond, eqb, List, [], ◌∷◌, ◌++◌, length, slice_get, Option, Some, None, refl, sym, ap, subst, ◌∙◌, inl, inr, append_assoc}
use Rattle.std.proofs.lemmas.Bool.{eq-eqb}
use Rattle.canvas_task.specs.declared.outcome.Outcome.{Outcome}
use Rattle.canvas_history.specs.Lists.{In, Each, firsts}
use Rattle.canvas_history.specs.declared.stored.Stored.{Stored}
use Rattle.canvas_history.specs.declared.stored.Stored.TheVariants.{First, Again}
use Rattle.canvas_history.specs.Table as table
use Rattle.canvas_history.specs.Queue as queue
use Rattle.canvas_effects.specs.Job as job
use Rattle.canvas_effects.specs.Job.{publish}
use Rattle.canvas_runs.specs.Protocol.{Protocol}
use Rattle.canvas_runs.specs.Core.{to_table, from_queue, from_table, rested, acked, taking, resting, over, failed, owning, doing, reading, acking, Jobs, Doing, Asked, Answer, is_due, settled, ask, opens, reads_next, part_counted, answered, ReadsBack, IsCoreRun, left_after, Between}
use Rattle.canvas_effects.specs.Events.{Event}
use Rattle.canvas_runs.proofs.Runs.MoreAsks.{reads_cases}
use Rattle.canvas_runs.proofs.Runs.Meaning.{JobOf, Form, Ordered, Has, IsRun, IsSkipped, Evaluates}
use Rattle.canvas_runs.specs.Calls.{QueueAnswered, TableAnswered, broker_call, backend_call, broker_calls, backend_calls}
use Rattle.canvas_runs.specs.Run.{IsRead}
use Rattle.canvas_runs.proofs.Lists.Words.{in_left, in_right, in_each, each_weaker, each_left, each_right, cond_cases, call_same, reply_same, in_append_cases}
use Rattle.canvas_runs.proofs.Runs.GoodRuns.{GoodAnswer, GoodSoFar, GoodState, next_good, more_found, all_found}
use Rattle.canvas_runs.proofs.Runs.Right.{right_goods, right_closed}

pub at_in : {A : Type 0} (i : ℕ) (xs : List A) (x : A) → slice_get xs i ≡ Some x → In x xs
at_in i [] x e = absurd (cc)
at_in zero (y ∷ xs) x e = inl (cc)
at_in (suc i) (y ∷ xs) x e = inr (at_in i xs x e)

-- the tasks known to be stored after a part
abbrev pub counted_in : (ℕ → List ℕ) → ℕ → ℕ → List ℕ → List ℕ
counted_in members g n us = cond (eqb (suc n) (length (members g))) (members g ++ us) us

module _ (members : ℕ → List ℕ) where
  -- each part is of a member that this caller has stored
  abbrev pub Known : List ℕ → List TableAnswered → Type 0
  Known us [] = Unit
  Known us ((table.store t o, table.was b) ∷ cs) = Known (t ∷ us) cs
  Known us ((table.part g t, table.count n) ∷ cs) = In t us × In t (members g) × Known (counted_in members g n us) cs
  Known us (c ∷ cs) = Known us cs

  -- each read of a task known to be stored finds it
  abbrev pub Sound : List ℕ → List TableAnswered → Type 0
  Sound us [] = Unit
  Sound us ((table.store t o, table.was b) ∷ cs) = Sound (t ∷ us) cs
  Sound us ((table.part g t, table.count n) ∷ cs) = Sound (counted_in members g n us) cs
  Sound us ((table.read t, table.found x) ∷ cs) = (In t us → (o : Outcome) × (x ≡ Some o)) × Sound us cs
  Sound us (c ∷ cs) = Sound us cs

  pub sound_left : (us : List ℕ) (xs ys : List TableAnswered) → Sound us (xs ++ ys) → Sound us xs
  sound_left us [] ys s = tt
  sound_left us ((table.store t o, table.was b) ∷ xs) ys s = sound_left (t ∷ us) xs ys s
  sound_left us ((table.part g t, table.count n) ∷ xs) ys s = sound_left (counted_in members g n us) xs ys s
  sound_left us ((table.read t, table.found x) ∷ xs) ys s = (s.0, sound_left us xs ys s.1)
  sound_left us (c ∷ xs) ys s = sound_left us xs ys s

  known_reads : (us : List ℕ) (cs : List TableAnswered) → Each IsRead cs → Known us cs
  known_reads us [] r = tt
  known_reads us ((table.read t, table.found x) ∷ cs) r = known_reads us cs r.1
  known_reads us (c ∷ cs) r = elim (r.0) [ ]

module _ {E : Type 0} (X : Protocol E) where
  -- each part is the last job, of a task stored before
  abbrev pub Backed : List ℕ → Jobs X → Type 0
  Backed us [] = Unit
  Backed us (job.store t o ∷ js) = Backed (t ∷ us) js
  Backed us (publish m ∷ js) = Backed us js
  Backed us (job.part g t c ∷ js) = In t us × (js ≡ [])

  pub backed_more : (us vs : List ℕ) (js : Jobs X) → ((u : ℕ) → In u us → In u vs) → Backed us js → Backed vs js
  backed_more us vs [] f b = tt
  backed_more us vs (job.store t o ∷ js) f b = backed_more (t ∷ us) (t ∷ vs) js (λ u i. ⊎_elim (λ e. inl e) (λ k. inr (f u k)) i) b
  backed_more us vs (publish m ∷ js) f b = backed_more us vs js f b
  backed_more us vs (job.part g t c ∷ js) f b = (f t b.0, b.1)

  -- a store of another task leaves the part as it was
  not_due : (t : ℕ) (us : List ℕ) (js : Jobs X) → is_due t js ≡ false → Backed (t ∷ us) js → Backed us js
  not_due t us [] n b = tt
  not_due t us (job.store u o ∷ js) n b = not_due t (u ∷ us) js n (backed_more (u ∷ t ∷ us) (t ∷ u ∷ us) js swapped b)
    where
      swapped : (v : ℕ) → In v (u ∷ t ∷ us) → In v (t ∷ u ∷ us)
      swapped v (inl e) = inr (inl e)
      swapped v (inr (inl e)) = inl e
      swapped v (inr (inr i)) = inr (inr i)
  not_due t us (publish m ∷ js) n b = not_due t us js n b
  not_due t us (job.part g u c ∷ js) n (inl e, last) = absurd (true_false (sym (eq-eqb t u (sym e)) ∙ n))
    where
      true_false : true ≡ false → ⊥
      true_false e = cc
  not_due t us (job.part g u c ∷ js) n (inr i, last) = (i, last)

  nothing_in : (vs : List ℕ) (u : ℕ) → In u [] → In u vs
  nothing_in vs u i = elim i [ ]

  pub record Backs (F : Form X) : Type 0 where
    pub ended : (m : X.Message) (o : Outcome) → F.Formed m → Backed (X.no m ∷ []) (X.ended m o)
    pub completed : (g t : ℕ) (c : X.Carried) (fs : List (ℕ × Outcome)) → F.FormedPart g t c → firsts fs ≡ F.members g → Backed [] (X.completed c fs)

  module _ (F : Form X) (Does : Event → JobOf X → Type 0) (order : Ordered X F) (value : Evaluates X Does F) (backs : Backs F) where
    abbrev Good : Doing X → Type 0
    Good s = GoodState X (right_goods X F Does) s

    abbrev SoFar : ℕ → X.Carried → List (ℕ × Outcome) → Type 0
    SoFar g c fs = GoodSoFar X (right_goods X F Does) g c fs

    abbrev GoodReply : Asked X → Answer X → Type 0
    GoodReply a r = GoodAnswer X (right_goods X F Does) a r

    next : (s : Doing X) (r : Answer X) → Good s → GoodReply (ask X s) r → Good (answered X s r)
    next s r p g = next_good X (right_goods X F Does) (right_closed X F Does order value) s r p g

    -- a store that is an event's answers First
    abbrev pub IsFirst : TableAnswered → Type 0
    IsFirst (table.store t o, table.was b) = IsSkipped X Does t o → b ≡ First
    IsFirst c = Unit

    -- the parts still to come are of tasks known to be stored
    abbrev StateBacked : List ℕ → Doing X → Type 0
    StateBacked us (doing js b) = Backed us js
    StateBacked us s = Unit

    settled_backed : (us : List ℕ) (js : Jobs X) (b : Stored) → Backed us js → StateBacked us (settled X js b)
    settled_backed us [] b p = tt
    settled_backed us (job.store t o ∷ js) First p = p
    settled_backed us (job.store t o ∷ js) Again p = p
    settled_backed us (publish m ∷ js) First p = p
    settled_backed us (publish m ∷ js) Again p = p
    settled_backed us (job.part g t c ∷ js) First p = p
    settled_backed us (job.part g t c ∷ js) Again p = tt

    completed_backed : (us : List ℕ) (g : ℕ) (c : X.Carried) (fs : List (ℕ × Outcome)) → SoFar g c fs → eqb (length fs) (X.size c) ≡ true
        → Backed us (X.completed c fs)
    completed_backed us g c fs state full =
        backed_more [] us (X.completed c fs) (nothing_in us)
        (backs.completed g state.0 c fs (state.1.0) (all_found X (right_goods X F Does) (right_closed X F Does order value) g c fs state full))

    next_backed : (us : List ℕ) (g : ℕ) (c : X.Carried) (fs : List (ℕ × Outcome)) → StateBacked us (reads_next X g c fs)
    next_backed us g c fs = reads_cases X (StateBacked us) g c fs (λ e. tt) (λ t e. tt)

    known_step : (s : Doing X) (r : Answer X) (us : List ℕ) (rest : List TableAnswered) → Good s → StateBacked us s → GoodReply (ask X s) r →
        ((vs : List ℕ) → StateBacked vs (answered X s r) → Known F.members vs rest) → Known F.members us (backend_call (ask X s) r ++ rest)
    known_step taking (from_queue None) us rest p b g k = k us tt
    known_step taking (from_queue (Some e)) us rest p b g k = k us (go (X.opened e))
      where
        go : (x : Option X.Message) → StateBacked us (opens X x)
        go None = tt
        go (Some m) = tt
    known_step resting (rested true) us rest p b g k = k us tt
    known_step (owning m) (from_table (table.was First)) us rest p b g k =
        k (X.no m ∷ us) (settled_backed (X.no m ∷ us) (X.ended m (X.outcome m)) First
        (backed_more (X.no m ∷ []) (X.no m ∷ us) (X.ended m (X.outcome m)) (λ u i. ⊎_elim (λ e. inl e) (λ z. elim z [ ]) i) (backs.ended m (X.outcome m) p.0)))
    known_step (owning m) (from_table (table.was Again)) us rest p b g k = k (X.no m ∷ us) tt
    known_step (doing (job.store t o ∷ js) d) (from_table (table.was a)) us rest p b g k = k (t ∷ us) (settled_backed (t ∷ us) js (cond (is_due t js) a d) b)
    known_step (doing (publish m ∷ js) d) (from_queue None) us rest p b g k = k us (settled_backed us js d b)
    known_step (doing (job.part h t c ∷ js) d) (from_table (table.count i)) us rest p b g k = (
      b.0,
      order.member h t c p.0.0,
      k (counted_in F.members h i us) (cond_cases (StateBacked (counted_in F.members h i us)) (eqb (suc i) (X.size c)) _ _
          (λ e. next_backed (counted_in F.members h i us) h c []) (λ e. tt)),
    )
    known_step (reading h c t fs) (from_table (table.found (Some o))) us rest p b g k =
        let state = more_found X (right_goods X F Does) (right_closed X F Does order value) h c fs t o p.0 p.1 g in
        k us (cond_cases (StateBacked us) (eqb (length (fs ++ (t, o) ∷ [])) (X.size c)) _ _
        (λ full. settled_backed us (X.completed c (fs ++ (t, o) ∷ [])) Again (completed_backed us h c (fs ++ (t, o) ∷ []) state full))
        (λ e. next_backed us h c (fs ++ (t, o) ∷ [])))
    known_step (reading h c t fs) (from_table (table.found None)) us rest p b g k = k us tt
    known_step acking acked us rest p b g k = k us tt
    known_step s r us rest p b g k = k us tt

    pub known : (s : Doing X) (xs : List (Asked X × Answer X)) (us : List ℕ) (reads : List TableAnswered) → Each IsRead reads → Good s
        → StateBacked us s → IsCoreRun X s xs → Each (λ x. GoodReply x.0 x.1) xs →
        Known F.members us (backend_calls xs ++ reads)
    known s [] us reads only p b l g = known_reads F.members us reads only
    known s (x ∷ xs) us reads only p b l g =
        let mine : GoodReply (ask X s) x.1 = subst (λ a. GoodReply a x.1) l.0 g.0 in
        let step : Known F.members us (backend_call (ask X s) x.1 ++ (backend_calls xs ++ reads)) =
        known_step s x.1 us (backend_calls xs ++ reads) p b mine
        (λ vs c. known (answered X s x.1) xs vs reads only (next s x.1 p mine) c l.2 g.1) in
        subst (Known F.members us) (sym (append_assoc (backend_call x.0 x.1) (backend_calls xs) reads))
        (subst (λ a. Known F.members us (backend_call a x.1 ++ (backend_calls xs ++ reads))) (sym l.0) step)

    -- what is left of a core run, in a history whose calls are these
    module _ (broker : List (QueueAnswered E)) (backend : List TableAnswered) where
      abbrev Ready : List ℕ → Doing X → Type 0
      Ready us (doing js b) = Backed us js × ((b ≡ First) ⊎ Backed [] js)
      Ready us (reading g c t fs) = Each (λ u. In u us) (F.members g)
      Ready us s = Unit

      pub record Left (s : Doing X) : Type 0 where
        pub calls : List (Asked X × Answer X)
        pub known : List ℕ
        pub good : Good s
        pub ready : Ready known s
        pub core : IsCoreRun X s calls
        pub answers : Each (λ x. GoodReply x.0 x.1) calls
        pub sound : Sound F.members known (backend_calls calls)
        pub firsts : Each IsFirst (backend_calls calls)
        pub in_broker : (c : QueueAnswered E) → In c (broker_calls calls) → In c broker
        pub in_backend : (c : TableAnswered) → In c (backend_calls calls) → In c backend
        pub ends : Between (left_after X s calls)

      abbrev pub Done : JobOf X → Type 0
      Done (job.store t o) = In (table.store t o, table.was First) backend
      Done (publish m) = F.Formed m × X.Back m × In (queue.publish (X.sealed m), None) broker
      Done (job.part g t c) = (n : ℕ) × In (table.part g t, table.count n) backend × F.FormedPart g t c × Left (part_counted X g c n)

      -- the header is read, and all that its completion owes is done
      abbrev pub Completed : ℕ → X.Carried → Type 0
      Completed g c = (es : List (ℕ × Outcome)) × (firsts es ≡ F.members g) × Each (λ f. Has X Does f.0 f.1) es × Each Done (X.completed c es)

      abbrev pub Owed : Doing X → Type 0
      Owed taking = Unit
      Owed resting = Unit
      Owed over = Unit
      Owed failed = ⊥
      Owed (owning m) = (b : Stored) × In (table.store (X.no m) (X.outcome m), table.was b) backend
      Owed (doing js b) = Each Done js
      Owed acking = Unit
      Owed (reading g c t fs) = Completed g c

      pub next_owed : (g : ℕ) (c : X.Carried) (fs : List (ℕ × Outcome)) → Owed (reads_next X g c fs) → Completed g c
      next_owed g c fs = reads_cases X (λ s. Owed s → Completed g c) g c fs (λ e o. elim o [ ]) (λ t e o. o)

      next_ready : (us : List ℕ) (g : ℕ) (c : X.Carried) (fs : List (ℕ × Outcome)) → Each (λ u. In u us) (F.members g) → Ready us (reads_next X g c fs)
      next_ready us g c fs a = reads_cases X (Ready us) g c fs (λ e. tt) (λ t e. a)

      settled_ready : (us : List ℕ) (js : Jobs X) (b : Stored) → Backed us js → (b ≡ First) ⊎ Backed [] js → Ready us (settled X js b)
      settled_ready us [] b p h = tt
      settled_ready us (job.store t o ∷ js) First p h = (p, h)
      settled_ready us (job.store t o ∷ js) Again p h = (p, h)
      settled_ready us (publish m ∷ js) First p h = (p, h)
      settled_ready us (publish m ∷ js) Again p h = (p, h)
      settled_ready us (job.part g t c ∷ js) First p h = (p, h)
      settled_ready us (job.part g t c ∷ js) Again p h = tt

      -- where a store answered First
      first_due : (t : ℕ) (js : Jobs X) (a d : Stored) → a ≡ First → (d ≡ First) ⊎ Backed (t ∷ []) js → (cond (is_due t js) a d ≡ First) ⊎ Backed [] js
      first_due t js a d f h = go (is_due t js) refl h
        where
          go : (z : Bool) → is_due t js ≡ z → (d ≡ First) ⊎ Backed (t ∷ []) js → (cond z a d ≡ First) ⊎ Backed [] js
          go true e h = inl f
          go false e (inl same) = inl same
          go false e (inr b) = inr (not_due t [] js e b)

      settled_owed : (js : Jobs X) (b : Stored) → (b ≡ First) ⊎ Backed [] js → Owed (settled X js b) → Each Done js
      settled_owed [] b h d = tt
      settled_owed (job.store t o ∷ js) First h d = d
      settled_owed (job.store t o ∷ js) Again h d = d
      settled_owed (publish m ∷ js) First h d = d
      settled_owed (publish m ∷ js) Again h d = d
      settled_owed (job.part g t c ∷ js) First h d = d
      settled_owed (job.part g t c ∷ js) Again (inl e) d = absurd (cc)
      settled_owed (job.part g t c ∷ js) Again (inr b) d = elim (b.0) [ ]

      more : (g : ℕ) (c : X.Carried) (fs : List (ℕ × Outcome)) (t : ℕ) (o : Outcome) → SoFar g c fs → slice_get (F.members g) (length fs) ≡ Some t
          → Has X Does t o → SoFar g c (fs ++ (t, o) ∷ [])
      more g c fs t o p q h = more_found X (right_goods X F Does) (right_closed X F Does order value) g c fs t o p q h

      tail_step : (s : Doing X) (r : Answer X) (us : List ℕ) (rest : List TableAnswered) → Good s → Ready us s → GoodReply (ask X s) r →
          Sound F.members us (backend_call (ask X s) r ++ rest) → Each IsFirst (backend_call (ask X s) r) → (vs : List ℕ) × Ready vs (answered X s r)
          × Sound F.members vs rest
      tail_step taking (from_queue None) us rest p b g k f = (us, tt, k)
      tail_step taking (from_queue (Some e)) us rest p b g k f = (us, go (X.opened e), k)
        where
          go : (x : Option X.Message) → Ready us (opens X x)
          go None = tt
          go (Some m) = tt
      tail_step resting (rested true) us rest p b g k f = (us, tt, k)
      tail_step (owning m) (from_table (table.was First)) us rest p b g k f = (
        X.no m ∷ us,
        settled_ready (X.no m ∷ us) (X.ended m (X.outcome m)) First
            (backed_more (X.no m ∷ []) (X.no m ∷ us) (X.ended m (X.outcome m)) (λ u i. ⊎_elim (λ e. inl e) (λ z. elim z [ ]) i)
            (backs.ended m (X.outcome m) p.0)) (inl refl),
        k,
      )
      tail_step (owning m) (from_table (table.was Again)) us rest p b g k f = (X.no m ∷ us, tt, k)
      tail_step (doing (job.store t o ∷ js) d) (from_table (table.was a)) us rest p b g k f =
          (t ∷ us, settled_ready (t ∷ us) js (cond (is_due t js) a d) b.0 (first_due t js a d (f.0 p.0) b.1), k)
      tail_step (doing (publish m ∷ js) d) (from_queue None) us rest p b g k f = (us, settled_ready us js d b.0 b.1, k)
      tail_step (doing (job.part h t c ∷ js) d) (from_table (table.count i)) us rest p b g k f =
          (counted_in F.members h i us, go (eqb (suc i) (X.size c)) (eqb (suc i) (length (F.members h))) (ap (eqb (suc i)) (order.size h t c p.0.0)), k)
        where
          every : (ms vs : List ℕ) → Each (λ u. In u (ms ++ vs)) ms
          every [] vs = tt
          every (m ∷ ms) vs = (inl refl, each_weaker (λ u z. inr z) ms (every ms vs))

          go : (x y : Bool) → x ≡ y → Ready (cond y (F.members h ++ us) us) (cond x (reads_next X h c []) acking)
          go true true e = next_ready (F.members h ++ us) h c [] (every (F.members h) us)
          go true false e = absurd (cc)
          go false y e = tt
      tail_step (reading h c t fs) (from_table (table.found (Some o))) us rest p b g k f = (
        us,
        cond_cases (Ready us) (eqb (length (fs ++ (t, o) ∷ [])) (X.size c)) _ _
            (λ full. settled_ready us (X.completed c (fs ++ (t, o) ∷ [])) Again (completed_backed us h c (fs ++ (t, o) ∷ []) (more h c fs t o p.0 p.1 g) full)
            (inr (completed_backed [] h c (fs ++ (t, o) ∷ []) (more h c fs t o p.0 p.1 g) full))) (λ e. next_ready us h c (fs ++ (t, o) ∷ []) b),
        k.1,
      )
      tail_step (reading h c t fs) (from_table (table.found None)) us rest p b g k f = (us, tt, k.1)
      tail_step acking acked us rest p b g k f = (us, tt, k)
      tail_step s r us rest p b g k f = (us, tt, k)

      one_in : {A : Type 0} (xs ys : List A) (x : A) → In x xs → In x (xs ++ ys)
      one_in xs ys x i = in_left xs ys x i

      owed_step : (s : Doing X) (r : Answer X) (us : List ℕ) (rest : List TableAnswered) → Good s → Ready us s → GoodReply (ask X s) r →
          Sound F.members us (backend_call (ask X s) r ++ rest) → Each IsFirst (backend_call (ask X s) r) →
          ((c : QueueAnswered E) → In c (broker_call (ask X s) r) → In c broker)
          → ((c : TableAnswered) → In c (backend_call (ask X s) r) → In c backend) →
          Left (answered X s r) → Owed (answered X s r) → ReadsBack X s → Owed s
      owed_step taking r us rest p b g k f i j l o z = tt
      owed_step resting r us rest p b g k f i j l o z = tt
      owed_step over r us rest p b g k f i j l o z = tt
      owed_step failed r us rest p b g k f i j l o z = o
      owed_step acking r us rest p b g k f i j l o z = tt
      owed_step (owning m) (from_table (table.was First)) us rest p b g k f i j l o z =
          (First, j (table.store (X.no m) (X.outcome m), table.was First) (inl refl))
      owed_step (owning m) (from_table (table.was Again)) us rest p b g k f i j l o z =
          (Again, j (table.store (X.no m) (X.outcome m), table.was Again) (inl refl))
      owed_step (doing [] d) r us rest p b g k f i j l o z = tt
      owed_step (doing (job.store t w ∷ js) d) (from_table (table.was a)) us rest p b g k f i j l o z = (
        subst (λ e. In (table.store t w, table.was e) backend) (f.0 p.0) (j (table.store t w, table.was a) (inl refl)),
        settled_owed js (cond (is_due t js) a d) (first_due t js a d (f.0 p.0) b.1) o,
      )
      owed_step (doing (publish m ∷ js) d) (from_queue None) us rest p b g k f i j l o z =
          ((p.0.0, z, i (queue.publish (X.sealed m), None) (inl refl)), settled_owed js d b.1 o)
      owed_step (doing (job.part h t c ∷ js) d) (from_table (table.count n)) us rest p b g k f i j l o z =
          ((n, j (table.part h t, table.count n) (inl refl), p.0.0, l), subst (Each Done) (sym b.0.1) tt)
      owed_step (reading h c t fs) (from_table (table.found (Some w))) us rest p b g k f i j l o z = go (eqb (length (fs ++ (t, w) ∷ [])) (X.size c)) refl o
        where
          state : SoFar h c (fs ++ (t, w) ∷ [])
          state = more h c fs t w p.0 p.1 g

          go : (d : Bool) → eqb (length (fs ++ (t, w) ∷ [])) (X.size c) ≡ d
              → Owed (cond d (settled X (X.completed c (fs ++ (t, w) ∷ [])) Again) (reads_next X h c (fs ++ (t, w) ∷ []))) → Completed h c
          go true full o = (
            fs ++ (t, w) ∷ [],
            all_found X (right_goods X F Does) (right_closed X F Does order value) h c (fs ++ (t, w) ∷ []) state full,
            state.4,
            settled_owed (X.completed c (fs ++ (t, w) ∷ [])) Again (inr (completed_backed [] h c (fs ++ (t, w) ∷ []) state full)) o,
          )
          go false e o = next_owed h c (fs ++ (t, w) ∷ []) o
      owed_step (reading h c t fs) (from_table (table.found None)) us rest p b g k f i j l o z =
          absurd (none_some (k.0 (in_each (λ u. In u us) (F.members h) b t (at_in (length fs) (F.members h) t p.1))))
        where
          none_some : (w : Outcome) × (◌≡◌ {A = Option Outcome} None (Some w)) → ⊥
          none_some e = let same = e.1 in cc
      owed_step s r us rest p b g k f i j l o z = elim o [ ]

      none_left : (s : Doing X) → Between s → Owed s
      none_left taking b = tt
      none_left resting b = tt
      none_left over b = tt
      none_left s b = elim b [ ]

      record Headed (s : Doing X) (x : Asked X × Answer X) (xs : List (Asked X × Answer X)) (us : List ℕ) : Type 0 where
        good : Good s
        ready : Ready us s
        answer : GoodReply (ask X s) x.1
        sound : Sound F.members us (backend_call (ask X s) x.1 ++ backend_calls xs)
        firsts : Each IsFirst (backend_call (ask X s) x.1)
        in_broker : (c : QueueAnswered E) → In c (broker_call (ask X s) x.1) → In c broker
        in_backend : (c : TableAnswered) → In c (backend_call (ask X s) x.1) → In c backend
        later : Left (answered X s x.1)

      headed : (s : Doing X) (x : Asked X × Answer X) (xs : List (Asked X × Answer X)) (us : List ℕ) → Good s → Ready us s → IsCoreRun X s (x ∷ xs)
          → Each (λ y. GoodReply y.0 y.1) (x ∷ xs) →
          Sound F.members us (backend_calls (x ∷ xs)) → Each IsFirst (backend_calls (x ∷ xs)) →
          ((c : QueueAnswered E) → In c (broker_calls (x ∷ xs)) → In c broker)
          → ((c : TableAnswered) → In c (backend_calls (x ∷ xs)) → In c backend) →
          Between (left_after X s (x ∷ xs)) → Headed s x xs us
      headed s x xs us p b l g k f i j e =
          let asked : x.0 ≡ ask X s = l.0 in
          let mine : GoodReply (ask X s) x.1 = subst (λ a. GoodReply a x.1) asked g.0 in
          let sound : Sound F.members us (backend_call (ask X s) x.1 ++ backend_calls xs) =
          subst (λ a. Sound F.members us (backend_call a x.1 ++ backend_calls xs)) asked k in
          let first : Each IsFirst (backend_call (ask X s) x.1) =
          subst (λ a. Each IsFirst (backend_call a x.1)) asked (each_left IsFirst (backend_call x.0 x.1) (backend_calls xs) f) in
          let step = tail_step s x.1 us (backend_calls xs) p b mine sound first in
          record {
            good = p;
            ready = b;
            answer = mine;
            sound = sound;
            firsts = first;
            in_broker = λ c z. i c (in_left (broker_call x.0 x.1) (broker_calls xs) c (subst (λ a. In c (broker_call a x.1)) (sym asked) z));
            in_backend = λ c z. j c (in_left (backend_call x.0 x.1) (backend_calls xs) c (subst (λ a. In c (backend_call a x.1)) (sym asked) z));
            later = record {
              calls = xs;
              known = step.0;
              good = next s x.1 p mine;
              ready = step.1;
              core = l.2;
              answers = g.1;
              sound = step.2;
              firsts = each_right IsFirst (backend_call x.0 x.1) (backend_calls xs) f;
              in_broker = λ c z. i c (in_right (broker_call x.0 x.1) (broker_calls xs) c z);
              in_backend = λ c z. j c (in_right (backend_call x.0 x.1) (backend_calls xs) c z);
              ends = e;
            };
          }

      owed_by : (xs : List (Asked X × Answer X)) (s : Doing X) (us : List ℕ) → Good s → Ready us s → IsCoreRun X s xs
          → Each (λ y. GoodReply y.0 y.1) xs →
          Sound F.members us (backend_calls xs) → Each IsFirst (backend_calls xs) →
          ((c : QueueAnswered E) → In c (broker_calls xs) → In c broker) → ((c : TableAnswered) → In c (backend_calls xs) → In c backend) →
          Between (left_after X s xs) → Owed s
      unfolding headed
      owed_by [] s us p b l g k f i j e = none_left s e
      owed_by (x ∷ xs) s us p b l g k f i j e =
          let h = headed s x xs us p b l g k f i j e in
          let t = h.later in
          owed_step s x.1 us (backend_calls xs) p b h.answer h.sound h.firsts h.in_broker h.in_backend t
          (owed_by xs (answered X s x.1) t.known t.good t.ready l.2 g.1 t.sound t.firsts t.in_broker t.in_backend e) l.1.1

      -- a core run that ends between scripts has done what its state owes
      pub owed : (s : Doing X) → Left s → Owed s
      owed s l = owed_by l.calls s l.known l.good l.ready l.core l.answers l.sound l.firsts l.in_broker l.in_backend l.ends

      -- a take opens the script of its message
      opened_by : (s : Doing X) (r : Answer X) (e : E) (m : X.Message) → In (queue.take, Some e) (broker_call (ask X s) r) → X.opened e ≡ Some m
          → answered X s r ≡ owning m
      opened_by taking (from_queue (Some d)) e m (inl same) eq = ap (opens X) (subst (λ u. X.opened u ≡ Some m) (took_same same) eq)
        where
          took_same : ◌≡◌ {A = QueueAnswered E} (queue.take, Some e) (queue.take, Some d) → e ≡ d
          took_same q = cc (reply_same q)
      opened_by taking (from_queue None) e m i eq = elim i [ ]
      opened_by (doing (publish n ∷ js) b) (from_queue x) e m (inl same) eq = absurd (cc (call_same same))
      opened_by taking (from_queue x) e m (inr i) eq = elim i [ ]
      opened_by (doing (publish n ∷ js) b) (from_queue x) e m (inr i) eq = elim i [ ]
      opened_by (doing (job.store t o ∷ js) b) r e m i eq = no_keep r i
        where
          no_keep : (r : Answer X) → In (queue.take, Some e) (broker_call (to_table (table.store t o)) r)
              → answered X (doing (job.store t o ∷ js) b) r ≡ owning m
          no_keep r i = elim i [ ]
      opened_by s r e m i eq = elim i [ ]

      taken_owed : (xs : List (Asked X × Answer X)) (s : Doing X) (us : List ℕ) → Good s → Ready us s → IsCoreRun X s xs
          → Each (λ y. GoodReply y.0 y.1) xs →
          Sound F.members us (backend_calls xs) → Each IsFirst (backend_calls xs) →
          ((c : QueueAnswered E) → In c (broker_calls xs) → In c broker) → ((c : TableAnswered) → In c (backend_calls xs) → In c backend) →
          Between (left_after X s xs) → (e : E) (m : X.Message) → In (queue.take, Some e) (broker_calls xs) → X.opened e ≡ Some m → Owed (owning m)
      unfolding headed
      taken_owed [] s us p b l g k f i j n e m z eq = elim z [ ]
      taken_owed (x ∷ xs) s us p b l g k f i j n e m z eq =
          let h = headed s x xs us p b l g k f i j n in
          let t = h.later in
          ⊎_elim
          (λ here. subst Owed (opened_by s x.1 e m (subst (λ a. In (queue.take, Some e) (broker_call a x.1)) l.0 here) eq) (owed (answered X s x.1) t))
          (λ there. taken_owed xs (answered X s x.1) t.known t.good t.ready l.2 g.1 t.sound t.firsts t.in_broker t.in_backend n e m there eq)
          (in_append_cases (broker_call x.0 x.1) (broker_calls xs) (queue.take, Some e) z)

      -- each message taken is stored
      pub script_done : (s : Doing X) → (l : Left s) (e : E) (m : X.Message) → In (queue.take, Some e) (broker_calls l.calls) → X.opened e ≡ Some m
          → Owed (owning m)
      script_done s l e m z eq = taken_owed l.calls s l.known l.good l.ready l.core l.answers l.sound l.firsts l.in_broker l.in_backend l.ends e m z eq

      -- a store that was the first is a message's own, and then the whole script is done, or an event's
      abbrev pub FirstOwed : ℕ → Outcome → Type 0
      FirstOwed t o = ((m : X.Message) × (t ≡ X.no m) × (o ≡ X.outcome m) × IsRun X Does m × Each Done (X.ended m (X.outcome m))) ⊎ IsSkipped X Does t o

      first_step : (s : Doing X) (r : Answer X) (t : ℕ) (o : Outcome) → Good s → In (table.store t o, table.was First) (backend_call (ask X s) r)
          → Owed (answered X s r)
          → FirstOwed t o
      first_step (owning m) (from_table (table.was First)) t o p (inl e) w =
          let tasks : t ≡ X.no m = cc (call_same e) in
          let outs : o ≡ X.outcome m = cc (call_same e) in
          inl (m, tasks, outs, p.1, settled_owed (X.ended m (X.outcome m)) First (inl refl) w)
      first_step (owning m) (from_table (table.was Again)) t o p (inl e) w = absurd (cc (reply_same e))
      first_step (doing (job.store u x ∷ js) d) (from_table (table.was a)) t o p (inl e) w =
          let tasks : t ≡ u = cc (call_same e) in
          let outs : o ≡ x = cc (call_same e) in
          inr (subst (λ v. IsSkipped X Does v o) (sym tasks) (subst (λ v. IsSkipped X Does u v) (sym outs) p.0))
      first_step (doing (job.part h u c ∷ js) d) (from_table r) t o p (inl e) w = absurd (cc (call_same e))
      first_step (reading h c v fs) (from_table r) t o p (inl e) w = absurd (cc (call_same e))
      first_step (owning m) (from_table r) t o p (inl e) w = elim w [ ]
      first_step (doing (job.store u x ∷ js) d) (from_table r) t o p (inl e) w = elim w [ ]
      first_step (owning m) (from_table r) t o p (inr i) w = elim i [ ]
      first_step (doing (job.store u x ∷ js) d) (from_table r) t o p (inr i) w = elim i [ ]
      first_step (doing (job.part h u c ∷ js) d) (from_table r) t o p (inr i) w = elim i [ ]
      first_step (reading h c v fs) (from_table r) t o p (inr i) w = elim i [ ]
      first_step s r t o p i w = elim i [ ]

      first_owed : (xs : List (Asked X × Answer X)) (s : Doing X) (us : List ℕ) → Good s → Ready us s → IsCoreRun X s xs
          → Each (λ y. GoodReply y.0 y.1) xs →
          Sound F.members us (backend_calls xs) → Each IsFirst (backend_calls xs) →
          ((c : QueueAnswered E) → In c (broker_calls xs) → In c broker) → ((c : TableAnswered) → In c (backend_calls xs) → In c backend) →
          Between (left_after X s xs) → (t : ℕ) (o : Outcome) → In (table.store t o, table.was First) (backend_calls xs) → FirstOwed t o
      unfolding headed
      first_owed [] s us p b l g k f i j n t o z = elim z [ ]
      first_owed (x ∷ xs) s us p b l g k f i j n t o z =
          let h = headed s x xs us p b l g k f i j n in
          let a = h.later in
          ⊎_elim
          (λ here. first_step s x.1 t o p (subst (λ y. In (table.store t o, table.was First) (backend_call y x.1)) l.0 here) (owed (answered X s x.1) a))
          (λ there. first_owed xs (answered X s x.1) a.known a.good a.ready l.2 g.1 a.sound a.firsts a.in_broker a.in_backend n t o there)
          (in_append_cases (backend_call x.0 x.1) (backend_calls xs) (table.store t o, table.was First) z)

      pub first_done : (s : Doing X) → (l : Left s) (t : ℕ) (o : Outcome) → In (table.store t o, table.was First) (backend_calls l.calls) → FirstOwed t o
      first_done s l t o z = first_owed l.calls s l.known l.good l.ready l.core l.answers l.sound l.firsts l.in_broker l.in_backend l.ends t o z
