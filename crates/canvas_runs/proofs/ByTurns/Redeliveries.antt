-- Runs by turns with entries: each entry that is spent is a redelivery, and each point of a task's message spends one as long as there is one.
use Rattle.std.proofs.Common.{◌≡◌, ◌⊎◌, ℕ, suc, ◌+◌, Bool, true, false, cond, eqb, ◌||◌, List, [], ◌∷◌, ◌++◌, length, Option, Some, None, refl, sym, ap, ap₂, ◌∙◌, subst, inl, inr, append_assoc, append-nil, arith}
use Rattle.std.proofs.lemmas.Bool.{eqb-true, false≢true}
use Rattle.canvas_task.specs.Apply.{Behaviour}
use Rattle.canvas_task.specs.declared.outcome.Outcome.{Outcome}
use Rattle.canvas_semantics.specs.Line.{Line}
use Rattle.canvas_rewrite.specs.FrozenView.{PCarried}
use Rattle.canvas_envelope.specs.Content.{Content, number_of}
use Rattle.canvas_effects.specs.Job.{store, publish, part}
use Rattle.canvas_envelope.specs.declared.envelope.Envelope.{Envelope}
use Rattle.canvas_history.specs.declared.stored.Stored.{Stored}
use Rattle.canvas_history.specs.declared.stored.Stored.TheVariants.{First, Again}
use Rattle.canvas_history.specs.Table as table
use Rattle.canvas_runs.specs.Book.{book_of}
use Rattle.canvas_runs.specs.Calls.{held_by}
use Rattle.canvas_runs.specs.Core.{Reply, from_queue, from_table, refused, rested, acked, taking, resting, over, failed, owning, doing, reading, acking, ask, answered, Doing, Jobs, settled, opens, owned, part_counted, all_read, is_inside, is_due, Suits, Ask, ReadsBack, reads_next}
use Rattle.canvas_runs.specs.Law.{of_task, takes_one_of}
use Rattle.canvas_history.specs.Lists.{total}
use Rattle.canvas_runs.specs.declared.when.When.{When}
use Rattle.canvas_runs.specs.declared.when.When.TheVariants.{Early, Late}
use Rattle.canvas_runs.specs.Worker.{worker, opened}
use Rattle.canvas_runs.proofs.Runs.MoreAsks.{reads_cases}
use Rattle.canvas_runs.specs.Redeliveries.{Entry, same_when, is_for, has, without, wanted, spent, message_in, point_of, point, comes_to, TurnedAgain, no_turn, skips, takes, spends}
use Rattle.canvas_runs.specs.Turns.{Step, redelivery, Turned, all_taken, skips_turn, takes_turn, delivers_again, HasEnded, redeliveries_in, Answers, IsWorker, left, holds}
use Rattle.canvas_runs.proofs.ByTurns.TurnSums.{in_queue}

-- ---- lists of entries

-- how many are for the task and the point
abbrev pub entries_for : ℕ → When → List Entry → ℕ
entries_for k w es = total (λ e. cond (is_for k w e) 1 0) es

-- 1 at a point for this task
abbrev pub here : ℕ → When → Option Entry → ℕ
here k w None = 0
here k w (Some x) = cond (is_for k w x) 1 0

when_same : (v w : When) → same_when v w ≡ true → v ≡ w
when_same Early Early e = refl
when_same Late Late e = refl
when_same Early Late e = absurd (false≢true e)
when_same Late Early e = absurd (false≢true e)

-- an entry for what x says is for what x is for
for_same : (x e : Entry) → is_for x.0 x.1 e ≡ true → (k : ℕ) (w : When) → is_for k w e ≡ is_for k w x
for_same (a, v) (b, u) i k w = go (same_when u v) refl i
  where
    go : (c : Bool) → same_when u v ≡ c → cond c (eqb b a) false ≡ true → is_for k w (b, u) ≡ is_for k w (a, v)
    go true s j = let m : b ≡ a = eqb-true b a j in let n : u ≡ v = when_same u v s in ap₂ (λ y z. cond (same_when z w) (eqb y k) false) m n
    go false s j = absurd (false≢true j)

spent_one : (x : Entry) (es : List Entry) → has x.0 x.1 es ≡ true → (k : ℕ) (w : When)
    → entries_for k w es ≡ here k w (Some x) + entries_for k w (without x.0 x.1 es)
spent_one x [] h k w = absurd (false≢true h)
spent_one x (e ∷ es) h k w = go (is_for x.0 x.1 e) refl h (λ j. spent_one x es j k w)
  where
    go : (b : Bool) → is_for x.0 x.1 e ≡ b → (b || has x.0 x.1 es) ≡ true
        → (has x.0 x.1 es ≡ true → entries_for k w es ≡ here k w (Some x) + entries_for k w (without x.0 x.1 es))
        → entries_for k w (e ∷ es) ≡ here k w (Some x) + entries_for k w (cond b es (e ∷ without x.0 x.1 es))
    go true s j f = ap (λ c. cond c 1 0 + entries_for k w es) (for_same x e s k w)
    go false s j f = let r = f j in omega (arith, r)

pub spent_some : (x : Option Entry) (es : List Entry) → wanted x es ≡ true → (k : ℕ) (w : When) → entries_for k w es ≡ here k w x + entries_for k w (spent x es)
spent_some None es h k w = absurd (false≢true h)
spent_some (Some x) es h k w = spent_one x es h k w

without_length : (x : Entry) (es : List Entry) → has x.0 x.1 es ≡ true → length es ≡ suc (length (without x.0 x.1 es))
without_length x [] h = absurd (false≢true h)
without_length x (e ∷ es) h = at_head (is_for x.0 x.1 e) h (without_length x es)
  where
    at_head : (b : Bool) → (b || has x.0 x.1 es) ≡ true → (has x.0 x.1 es ≡ true → length es ≡ suc (length (without x.0 x.1 es)))
        → length (e ∷ es) ≡ suc (length (cond b es (e ∷ without x.0 x.1 es)))
    at_head true j f = refl
    at_head false j f = ap suc (f j)

pub spent_length : (x : Option Entry) (es : List Entry) → wanted x es ≡ true → length es ≡ suc (length (spent x es))
spent_length None es h = absurd (false≢true h)
spent_length (Some x) es h = without_length x es h

-- where none is wanted at a point for the task, there is none for it
none_for : (x : Entry) (es : List Entry) → has x.0 x.1 es ≡ false → entries_for x.0 x.1 es ≡ 0
none_for x [] h = refl
none_for x (e ∷ es) h = go (is_for x.0 x.1 e) h (none_for x es)
  where
    go : (b : Bool) → (b || has x.0 x.1 es) ≡ false → (has x.0 x.1 es ≡ false → entries_for x.0 x.1 es ≡ 0) → cond b 1 0 + entries_for x.0 x.1 es ≡ 0
    go true j f = absurd (false≢true (sym j))
    go false j f = let r = f j in omega (arith, r)

same_entry : (k : ℕ) (w : When) (x : Entry) → is_for k w x ≡ true → (x.0 ≡ k) × (x.1 ≡ w)
same_entry k w (a, v) i = go (same_when v w) refl i
  where
    go : (c : Bool) → same_when v w ≡ c → cond c (eqb a k) false ≡ true → (a ≡ k) × (v ≡ w)
    go true s j = (eqb-true a k j, when_same v w s)
    go false s j = absurd (false≢true j)

pub not_wanted : (x : Option Entry) (es : List Entry) → wanted x es ≡ false → (k : ℕ) (w : When) → (here k w x ≡ 0) ⊎ (entries_for k w es ≡ 0)
not_wanted None es h k w = inl refl
not_wanted (Some x) es h k w = go (is_for k w x) refl
  where
    go : (b : Bool) → is_for k w x ≡ b → (◌≡◌ {A = ℕ} (cond b 1 0) 0) ⊎ (entries_for k w es ≡ 0)
    go true i = let s = same_entry k w x i in inr (subst (λ v. entries_for k v es ≡ 0) s.1 (subst (λ j. entries_for j x.1 es ≡ 0) s.0 (none_for x es h)))
    go false i = inl refl

-- ---- such turns are turns

module _ (behaviour : Behaviour) (l : Line) (n : ℕ) where
  pub are_turns : (before : List Step) (es : List Entry) (us : List ℕ) (xs : List Step) (rest : List Entry) → TurnedAgain behaviour l n before es us xs rest
      → Turned behaviour l n before us xs
  are_turns before es [] [] rest no_turn = all_taken
  are_turns before es [] (x ∷ xs) rest t = elim t [ ]
  are_turns before es (p ∷ us) xs rest (skips e t) = skips_turn e (are_turns before es us xs rest t)
  are_turns before es (p ∷ us) (x ∷ xs) rest (takes f b e h t) = takes_turn b e h (are_turns (before ++ x ∷ []) es us xs rest t)
  are_turns before es (p ∷ us) (x ∷ y ∷ xs) rest (spends f w d b e h t) =
      delivers_again w d (takes_turn b e h (are_turns ((before ++ x ∷ []) ++ y ∷ []) (spent (comes_to behaviour l before p) es) us xs rest t))

-- ---- such turns put together

module _ (behaviour : Behaviour) (l : Line) (n : ℕ) where
  pub again_append : (before : List Step) (es : List Entry) (us vs : List ℕ) (xs ys : List Step) (mid rest : List Entry)
      → TurnedAgain behaviour l n before es us xs mid → TurnedAgain behaviour l n (before ++ xs) mid vs ys rest
      → TurnedAgain behaviour l n before es (us ++ vs) (xs ++ ys) rest
  again_append before es [] vs [] ys mid rest no_turn u = subst (λ b. TurnedAgain behaviour l n b es vs ys rest) (append-nil before) u
  again_append before es [] vs (x ∷ xs) ys mid rest t u = elim t [ ]
  again_append before es (p ∷ us) vs xs ys mid rest (skips e t) u = skips e (again_append before es us vs xs ys mid rest t u)
  again_append before es (p ∷ us) vs (x ∷ xs) ys mid rest (takes f b e h t) u =
      takes f b e h (again_append (before ++ x ∷ []) es us vs xs ys mid rest t
      (subst (λ z. TurnedAgain behaviour l n z mid vs ys rest) (sym (append_assoc before (x ∷ []) xs)) u))
  again_append before es (p ∷ us) vs (x ∷ y ∷ xs) ys mid rest (spends f w d b e h t) u =
      spends f w d b e h (again_append ((before ++ x ∷ []) ++ y ∷ []) (spent (comes_to behaviour l before p) es) us vs xs ys mid rest t
      (subst (λ z. TurnedAgain behaviour l n z mid vs ys rest) (sym (append_assoc (before ++ x ∷ []) (y ∷ []) xs ∙ append_assoc before (x ∷ []) (y ∷ xs))) u))

-- ---- one more turn

module _ (behaviour : Behaviour) (l : Line) (n : ℕ) (es : List Entry) (us : List ℕ) (xs : List Step) (rest : List Entry)
    (t : TurnedAgain behaviour l n [] es us xs rest) (p : ℕ) where
  -- of a worker that has ended
  pub again_skip : HasEnded behaviour l xs p → TurnedAgain behaviour l n [] es (us ++ p ∷ []) xs rest
  again_skip e = subst (λ z. TurnedAgain behaviour l n [] es (us ++ p ∷ []) z rest) (append-nil xs)
      (again_append behaviour l n [] es us (p ∷ []) xs [] rest rest t (skips e no_turn))

  -- with its step
  pub again_step : (a : Ask Envelope) (r : Reply Envelope) → wanted (comes_to behaviour l xs p) rest ≡ false
      → ReadsBack (worker behaviour l) (left behaviour l xs p) → a ≡ ask (worker behaviour l) (left behaviour l xs p) → Answers behaviour l n xs a r
      → TurnedAgain behaviour l n [] es (us ++ p ∷ []) (xs ++ (p, (a, r)) ∷ []) rest
  again_step a r f b e h = again_append behaviour l n [] es us (p ∷ []) xs ((p, (a, r)) ∷ []) rest rest t (takes f b e h no_turn)

  -- with a redelivery and its step
  pub again_spend : (d : Envelope) (a : Ask Envelope) (r : Reply Envelope) → wanted (comes_to behaviour l xs p) rest ≡ true → IsWorker n p
      → holds xs p ≡ Some d
      → ReadsBack (worker behaviour l) (left behaviour l (xs ++ redelivery p d ∷ []) p)
      → a ≡ ask (worker behaviour l) (left behaviour l (xs ++ redelivery p d ∷ []) p)
      → Answers behaviour l n (xs ++ redelivery p d ∷ []) a r
      → TurnedAgain behaviour l n [] es (us ++ p ∷ []) (xs ++ redelivery p d ∷ (p, (a, r)) ∷ []) (spent (comes_to behaviour l xs p) rest)
  again_spend d a r f w g b e h =
      again_append behaviour l n [] es us (p ∷ []) xs (redelivery p d ∷ (p, (a, r)) ∷ []) rest (spent (comes_to behaviour l xs p) rest) t
      (spends f w g b e h no_turn)

-- ---- without entries

nothing_wanted : (x : Option Entry) → wanted x [] ≡ false
nothing_wanted None = refl
nothing_wanted (Some x) = refl

module _ (behaviour : Behaviour) (l : Line) (n : ℕ) where
  pub no_entries : (before : List Step) (us : List ℕ) (xs : List Step) → Turned behaviour l n before us xs → redeliveries_in xs ≡ 0
      → TurnedAgain behaviour l n before [] us xs []
  no_entries before [] [] all_taken z = no_turn
  no_entries before us (x ∷ xs) (delivers_again w e t) z = absurd (omega (arith, z))
  no_entries before (p ∷ us) xs (skips_turn e t) z = skips e (no_entries before us xs t z)
  no_entries before (p ∷ us) ((q, (a, r)) ∷ xs) (takes_turn b e h t) z =
      takes (nothing_wanted (comes_to behaviour l before q)) b e h (no_entries (before ++ (q, (a, r)) ∷ []) us xs t (omega (arith, z)))

-- ---- a worker's step

module _ (behaviour : Behaviour) (l : Line) (k : ℕ) where
  abbrev pub is_owning : Doing (worker behaviour l) → Bool
  is_owning taking = false
  is_owning resting = false
  is_owning over = false
  is_owning failed = false
  is_owning (owning m) = true
  is_owning (doing js b) = false
  is_owning (reading g c t fs) = false
  is_owning acking = false

  -- a script that has yet to come to the point
  abbrev pub is_before : When → Doing (worker behaviour l) → Bool
  is_before Early s = is_owning s
  is_before Late s = is_inside s

  abbrev pub ahead : When → Doing (worker behaviour l) → Option Envelope → ℕ
  ahead w s h = cond (is_before w s) (of_task l k (message_in l h)) 0

  -- ---- states inside a script, past its first store

  abbrev pub Past : Doing (worker behaviour l) → Type 0
  Past s = (is_owning s ≡ false) × (is_inside s ≡ true)

  pub past_settled : (js : Jobs (worker behaviour l)) (b : Stored) → Past (settled (worker behaviour l) js b)
  past_settled [] b = (refl, refl)
  past_settled (part g t c ∷ js) First = (refl, refl)
  past_settled (part g t c ∷ js) Again = (refl, refl)
  past_settled (store t o ∷ js) b = (refl, refl)
  past_settled (publish m ∷ js) b = (refl, refl)

  pub past_owned : (m : Content) (b : Stored) → Past (owned (worker behaviour l) m b)
  past_owned m First = past_settled _ First
  past_owned m Again = (refl, refl)

  abbrev pub fails : Doing (worker behaviour l) → Bool
  fails failed = true
  fails s = false

  -- where a header is read on the core may fail, for want of a member
  next_owning : (g : ℕ) (c : PCarried) (fs : List (ℕ × Outcome)) → is_owning (reads_next (worker behaviour l) g c fs) ≡ false
  next_owning g c fs = reads_cases (worker behaviour l) (λ s. is_owning s ≡ false) g c fs (λ e. refl) (λ t e. refl)

  next_inside : (g : ℕ) (c : PCarried) (fs : List (ℕ × Outcome)) → fails (reads_next (worker behaviour l) g c fs) ≡ false
      → is_inside (reads_next (worker behaviour l) g c fs) ≡ true
  next_inside g c fs = reads_cases (worker behaviour l) (λ s. fails s ≡ false → is_inside s ≡ true) g c fs (λ e f. absurd (false≢true (sym f)))
      (λ t e f. refl)

  pub handed_owning : (g : ℕ) (c : PCarried) (i : ℕ) → is_owning (part_counted (worker behaviour l) g c i) ≡ false
  handed_owning g c i = go (eqb (suc i) c.size)
    where
      go : (b : Bool) → is_owning (cond b (reads_next (worker behaviour l) g c []) acking) ≡ false
      go true = next_owning g c []
      go false = refl

  handed_inside : (g : ℕ) (c : PCarried) (i : ℕ) → fails (part_counted (worker behaviour l) g c i) ≡ false
      → is_inside (part_counted (worker behaviour l) g c i) ≡ true
  handed_inside g c i = go (eqb (suc i) c.size)
    where
      go : (b : Bool) → fails (cond b (reads_next (worker behaviour l) g c []) acking) ≡ false
          → is_inside (cond b (reads_next (worker behaviour l) g c []) acking) ≡ true
      go true f = next_inside g c [] f
      go false f = refl

  pub read_owning : (g : ℕ) (c : PCarried) (fs : List (ℕ × Outcome)) → is_owning (all_read (worker behaviour l) g c fs) ≡ false
  read_owning g c fs = go (eqb (length fs) c.size)
    where
      go : (b : Bool) → is_owning (cond b (settled (worker behaviour l) ((worker behaviour l).completed c fs) Again) (reads_next (worker behaviour l) g c fs))
          ≡ false
      go true = (past_settled _ Again).0
      go false = next_owning g c fs

  read_inside : (g : ℕ) (c : PCarried) (fs : List (ℕ × Outcome)) → fails (all_read (worker behaviour l) g c fs) ≡ false
      → is_inside (all_read (worker behaviour l) g c fs) ≡ true
  read_inside g c fs = go (eqb (length fs) c.size)
    where
      go : (b : Bool)
          → fails (cond b (settled (worker behaviour l) ((worker behaviour l).completed c fs) Again) (reads_next (worker behaviour l) g c fs)) ≡ false
          → is_inside (cond b (settled (worker behaviour l) ((worker behaviour l).completed c fs) Again) (reads_next (worker behaviour l) g c fs)) ≡ true
      go true f = (past_settled _ Again).1
      go false f = next_inside g c fs f

  -- ---- a message is ahead of each of its points once

  abbrev Steps : When → Doing (worker behaviour l) → Option Envelope → Reply Envelope → Type 0
  Steps w s h r = in_queue behaviour l (takes_one_of l k) (ask (worker behaviour l) s, r) + ahead w s h ≡ here k w (point l s h)
      + ahead w (answered (worker behaviour l) s r) (held_by h (ask (worker behaviour l) s) r)

  none_here : (w v : When) → same_when v w ≡ false → (x : Option Content) → here k w (point_of l v x) ≡ 0
  none_here w v d None = refl
  none_here w v d (Some c) = ap (λ b. cond (cond b (eqb (number_of c.own) k) false) 1 0) d

  one_here : (w v : When) → same_when v w ≡ true → (x : Option Content) → here k w (point_of l v x) ≡ of_task l k x
  one_here w v d None = refl
  one_here w v d (Some c) = ap (λ b. cond (cond b (eqb (number_of c.own) k) false) 1 0) d

  -- where the script goes on past its first store
  goes_early : (s' : Doing (worker behaviour l)) (h : Option Envelope) → is_owning s' ≡ false → ahead Early s' h ≡ 0
  goes_early s' h e = ap (λ b. cond b (of_task l k (message_in l h)) 0) e

  goes_late : (s' : Doing (worker behaviour l)) (h : Option Envelope) → is_inside s' ≡ true → ahead Late s' h ≡ of_task l k (message_in l h)
  goes_late s' h e = ap (λ b. cond b (of_task l k (message_in l h)) 0) e

  step_early : (s : Doing (worker behaviour l)) (h : Option Envelope) (r : Reply Envelope) → Suits (ask (worker behaviour l) s) r → Steps Early s h r
  step_early taking h (from_queue None) u = refl
  step_early taking h (from_queue (Some e)) u = go (opened (book_of l) e)
    where
      go : (x : Option Content) → (of_task l k x + 0) + 0 ≡ 0 + cond (is_owning (opens (worker behaviour l) x)) (of_task l k x) 0
      go None = refl
      go (Some m) = omega arith
  step_early resting h (rested true) u = refl
  step_early resting h (rested false) u = refl
  step_early (owning m) h (from_table (table.was b)) u =
      let a = one_here Early Early refl (message_in l h) in
      let z = goes_early (owned (worker behaviour l) m b) h (past_owned m b).0 in omega (arith, a, z)
  step_early (doing (store t o ∷ js) b) h (from_table (table.was a)) u =
      let z = goes_early (settled (worker behaviour l) js (cond (is_due t js) a b)) h (past_settled js (cond (is_due t js) a b)).0 in omega (arith, z)
  step_early (doing (publish m ∷ js) b) h (from_queue None) u =
      let z = goes_early (settled (worker behaviour l) js b) h (past_settled js b).0 in omega (arith, z)
  step_early (doing (publish m ∷ js) b) h refused u = refl
  step_early (doing (part g t c ∷ js) b) h (from_table (table.count i)) u =
      let z = goes_early (part_counted (worker behaviour l) g c i) h (handed_owning g c i) in omega (arith, z)
  step_early (reading g c t fs) h (from_table (table.found (Some o))) u =
      let z = goes_early (all_read (worker behaviour l) g c (fs ++ (t, o) ∷ [])) h (read_owning g c (fs ++ (t, o) ∷ [])) in omega (arith, z)
  step_early (reading g c t fs) h (from_table (table.found None)) u = refl
  step_early acking h acked u = let z = none_here Early Late refl (message_in l h) in omega (arith, z)
  step_early s h r u = elim u [ ]

  step_late : (s : Doing (worker behaviour l)) (h : Option Envelope) (r : Reply Envelope) → Suits (ask (worker behaviour l) s) r
      → fails (answered (worker behaviour l) s r) ≡ false → Steps Late s h r
  step_late taking h (from_queue None) u f = refl
  step_late taking h (from_queue (Some e)) u f = go (opened (book_of l) e)
    where
      go : (x : Option Content) → (of_task l k x + 0) + 0 ≡ 0 + cond (is_inside (opens (worker behaviour l) x)) (of_task l k x) 0
      go None = refl
      go (Some m) = omega arith
  step_late resting h (rested true) u f = refl
  step_late resting h (rested false) u f = refl
  step_late (owning m) h (from_table (table.was b)) u f =
      let a = none_here Late Early refl (message_in l h) in
      let z = goes_late (owned (worker behaviour l) m b) h (past_owned m b).1 in omega (arith, a, z)
  step_late (doing (store t o ∷ js) b) h (from_table (table.was a)) u f =
      let z = goes_late (settled (worker behaviour l) js (cond (is_due t js) a b)) h (past_settled js (cond (is_due t js) a b)).1 in omega (arith, z)
  step_late (doing (publish m ∷ js) b) h (from_queue None) u f =
      let z = goes_late (settled (worker behaviour l) js b) h (past_settled js b).1 in omega (arith, z)
  step_late (doing (publish m ∷ js) b) h refused u f = absurd (false≢true (sym f))
  step_late (doing (part g t c ∷ js) b) h (from_table (table.count i)) u f =
      let z = goes_late (part_counted (worker behaviour l) g c i) h (handed_inside g c i f) in omega (arith, z)
  step_late (reading g c t fs) h (from_table (table.found (Some o))) u f =
      let z = goes_late (all_read (worker behaviour l) g c (fs ++ (t, o) ∷ [])) h (read_inside g c (fs ++ (t, o) ∷ []) f) in omega (arith, z)
  step_late (reading g c t fs) h (from_table (table.found None)) u f = omega arith
  step_late acking h acked u f = let a = one_here Late Late refl (message_in l h) in omega (arith, a)
  step_late s h r u f = elim u [ ]

  pub one_step : (w : When) (s : Doing (worker behaviour l)) (h : Option Envelope) (r : Reply Envelope) → Suits (ask (worker behaviour l) s) r
      → fails (answered (worker behaviour l) s r) ≡ false → Steps w s h r
  one_step Early s h r u f = step_early s h r u
  one_step Late s h r u f = step_late s h r u f

  -- a redelivery of the task's message spends an entry for the task
  pub redelivers : (s : Doing (worker behaviour l)) (h : Option Envelope) (e : Envelope) (es : List Entry) → h ≡ Some e → wanted (point l s h) es ≡ true
      → of_task l k (opened (book_of l) e) ≡ here k Early (point l s h) + here k Late (point l s h)
  redelivers (owning m) h e es d f = let a = one_here Early Early refl (message_in l h) in let b = none_here Late Early refl (message_in l h) in
      let c : of_task l k (message_in l h) ≡ of_task l k (opened (book_of l) e) = ap (λ x. of_task l k (message_in l x)) d in omega (arith, a, b, c)
  redelivers acking h e es d f = let a = one_here Late Late refl (message_in l h) in let b = none_here Early Late refl (message_in l h) in
      let c : of_task l k (message_in l h) ≡ of_task l k (opened (book_of l) e) = ap (λ x. of_task l k (message_in l x)) d in omega (arith, a, b, c)
  redelivers taking h e es d f = absurd (false≢true f)
  redelivers resting h e es d f = absurd (false≢true f)
  redelivers over h e es d f = absurd (false≢true f)
  redelivers failed h e es d f = absurd (false≢true f)
  redelivers (doing js b) h e es d f = absurd (false≢true f)
  redelivers (reading g c t fs) h e es d f = absurd (false≢true f)
