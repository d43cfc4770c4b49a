-- What a core run keeps: where all that it takes and reads is good, so is all that it sends, stores and hands in.
use Rattle.std.proofs.Common.{◌≡◌, ℕ, suc, ◌+◌, true, cond, eqb, List, [], ◌∷◌, ◌++◌, length, slice_get, Option, Some, None, refl, sym, ap, subst, ◌∙◌, arith, append_assoc, append-nil}
use Rattle.std.proofs.lemmas.Bool.{eqb-true}
use Rattle.std.proofs.lemmas.List.{length-append}
use Rattle.canvas_task.specs.declared.outcome.Outcome.{Outcome}
use Rattle.canvas_history.specs.declared.stored.Stored.{Stored}
use Rattle.canvas_history.specs.declared.stored.Stored.TheVariants.{First, Again}
use Rattle.canvas_history.specs.Table as table
use Rattle.canvas_history.specs.Queue as queue
use Rattle.canvas_effects.specs.Job as job
use Rattle.canvas_history.specs.Lists.{Each, firsts}
use Rattle.canvas_effects.specs.Job.{Job}
use Rattle.canvas_runs.specs.Protocol.{Protocol}
use Rattle.canvas_runs.specs.Core.{to_queue, to_table, from_queue, from_table, rested, acked, taking, resting, over, failed, owning, doing, reading, acking, Jobs, Doing, Asked, Answer, is_due, settled, ask, opens, reads_next, all_read, answered, ReadsBack, IsCoreRun}
use Rattle.canvas_runs.proofs.Runs.MoreAsks.{reads_cases}
use Rattle.canvas_runs.proofs.Lists.Words.{each_append, firsts-append, length-firsts, cond_cases, at_front}

-- a front of the same length is the whole
same_length : (xs ys zs : List ℕ) → xs ≡ ys ++ zs → length xs ≡ length ys → ys ≡ xs
same_length xs ys [] e l = sym (e ∙ append-nil ys)
same_length xs ys (z ∷ zs) e l = absurd (longer (ap length e ∙ length-append ys (z ∷ zs)))
  where
    longer : length xs ≡ length ys + length (z ∷ zs) → ⊥
    longer k = omega arith

-- what holds of messages taken, of outcomes found, of messages sent, of outcomes stored, of those that an event stores, and of parts handed in
pub record Goods {E : Type 0} (X : Protocol E) : Type 1 where
  pub Taken : X.Message → Type 0
  pub Found : ℕ → Outcome → Type 0
  pub Sent : X.Message → Type 0
  pub Kept : ℕ → Outcome → Type 0
  pub Skipped : ℕ → Outcome → Type 0
  pub Part : ℕ → ℕ → X.Carried → Type 0
  -- and the last tasks of a group's members
  pub members : ℕ → List ℕ

module _ {E : Type 0} (X : Protocol E) (Y : Goods X) where
  abbrev pub GoodJob : Job X.Message X.Carried Outcome → Type 0
  GoodJob (job.store t o) = Y.Skipped t o
  GoodJob (job.publish m) = Y.Sent m
  GoodJob (job.part g t c) = Y.Part g t c

  abbrev pub GoodAnswer : Asked X → Answer X → Type 0
  GoodAnswer (to_queue queue.take) (from_queue (Some e)) = (m : X.Message) → X.opened e ≡ Some m → Y.Taken m
  GoodAnswer (to_table (table.read t)) (from_table (table.found (Some o))) = Y.Found t o
  GoodAnswer a r = Unit

  abbrev pub GoodAsk : Asked X → Type 0
  GoodAsk (to_queue (queue.publish e)) = (m : X.Message) × (e ≡ X.sealed m) × X.Back m × Y.Sent m
  GoodAsk (to_table (table.store t o)) = Y.Kept t o
  GoodAsk (to_table (table.part g t)) = (c : X.Carried) × Y.Part g t c
  GoodAsk a = Unit

  -- each ask is good, as long as the answers before it are
  abbrev pub Careful : List (Asked X × Answer X) → Type 0
  Careful [] = Unit
  Careful (x ∷ xs) = GoodAsk x.0 × (GoodAnswer x.0 x.1 → Careful xs)

  pub record Closed : Type 0 where
    pub own : (m : X.Message) → Y.Taken m → Y.Kept (X.no m) (X.outcome m)
    pub skipped : (t : ℕ) (o : Outcome) → Y.Skipped t o → Y.Kept t o
    pub ended : (m : X.Message) → Y.Taken m → Each GoodJob (X.ended m (X.outcome m))
    pub completed : (g t : ℕ) (c : X.Carried) (fs : List (ℕ × Outcome)) → Y.Part g t c → firsts fs ≡ Y.members g → Each (λ f. Y.Found f.0 f.1) fs
        → Each GoodJob (X.completed c fs)
    pub size : (g t : ℕ) (c : X.Carried) → Y.Part g t c → X.size c ≡ length (Y.members g)
    pub place : (g i : ℕ) → X.member g i ≡ slice_get (Y.members g) i

  -- the outcomes found are good, of the first members of a chord whose part is
  abbrev pub GoodSoFar : ℕ → X.Carried → List (ℕ × Outcome) → Type 0
  GoodSoFar g c fs = (t : ℕ) × (Y.Part g t c) × (left : List ℕ) × (Y.members g ≡ firsts fs ++ left) × Each (λ f. Y.Found f.0 f.1) fs

  abbrev pub GoodState : Doing X → Type 0
  GoodState (owning m) = Y.Taken m
  GoodState (doing js b) = Each GoodJob js
  GoodState (reading g c t fs) = GoodSoFar g c fs × (slice_get (Y.members g) (length fs) ≡ Some t)
  GoodState s = Unit

  settled_good : (js : Jobs X) (b : Stored) → Each GoodJob js → GoodState (settled X js b)
  settled_good [] b p = tt
  settled_good (job.store t o ∷ js) First p = p
  settled_good (job.store t o ∷ js) Again p = p
  settled_good (job.publish m ∷ js) First p = p
  settled_good (job.publish m ∷ js) Again p = p
  settled_good (job.part g t c ∷ js) First p = p
  settled_good (job.part g t c ∷ js) Again p = tt

  module _ (k : Closed) where
    asks_good : (s : Doing X) → GoodState s → ReadsBack X s → GoodAsk (ask X s)
    asks_good taking p b = tt
    asks_good resting p b = tt
    asks_good over p b = tt
    asks_good failed p b = tt
    asks_good (owning m) p b = k.own m p
    asks_good (doing [] d) p b = tt
    asks_good (doing (job.store t o ∷ js) d) p b = k.skipped t o p.0
    asks_good (doing (job.publish m ∷ js) d) p b = (m, refl, b, p.0)
    asks_good (doing (job.part g t c ∷ js) d) p b = (c, p.0)
    asks_good (reading g c t fs) p b = tt
    asks_good acking p b = tt

    opens_good : (x : Option X.Message) → ((m : X.Message) → x ≡ Some m → Y.Taken m) → GoodState (opens X x)
    opens_good None p = tt
    opens_good (Some m) p = p m refl

    -- one more member found
    pub more_found : (g : ℕ) (c : X.Carried) (fs : List (ℕ × Outcome)) (t : ℕ) (o : Outcome) →
        GoodSoFar g c fs → slice_get (Y.members g) (length fs) ≡ Some t → Y.Found t o → GoodSoFar g c (fs ++ (t, o) ∷ [])
    more_found g c fs t o (m, p, left, e, goods) place good =
        let next : slice_get (firsts fs ++ left) (length (firsts fs)) ≡ Some t =
        subst (λ n. slice_get (firsts fs ++ left) n ≡ Some t) (sym (length-firsts fs)) (subst (λ l. slice_get l (length fs) ≡ Some t) e place) in
        let head = at_front (firsts fs) left t next in (
          m,
          p,
          head.0,
          e ∙ (ap (λ l. firsts fs ++ l) head.1
              ∙ (sym (append_assoc (firsts fs) (t ∷ []) head.0) ∙ ap (λ l. l ++ head.0) (sym (firsts-append fs ((t, o) ∷ []))))),
          each_append _ fs _ goods (good, tt),
        )

    -- where as many are found as the header has, they are its members
    pub all_found : (g : ℕ) (c : X.Carried) (fs : List (ℕ × Outcome)) → GoodSoFar g c fs → eqb (length fs) (X.size c) ≡ true
        → firsts fs ≡ Y.members g
    all_found g c fs (m, p, left, e, goods) full =
        same_length _ _ left e (sym (k.size g m c p) ∙ (sym (eqb-true _ _ full) ∙ sym (length-firsts fs)))

    next_read : (g : ℕ) (c : X.Carried) (fs : List (ℕ × Outcome)) → GoodSoFar g c fs → GoodState (reads_next X g c fs)
    next_read g c fs s = reads_cases X GoodState g c fs (λ e. tt) (λ t e. (s, sym (k.place g (length fs)) ∙ e))

    one_found : (g : ℕ) (c : X.Carried) (fs : List (ℕ × Outcome)) → GoodSoFar g c fs → GoodState (all_read X g c fs)
    one_found g c fs s = cond_cases GoodState (eqb (length fs) (X.size c)) _ _
        (λ full. settled_good _ Again (k.completed g s.0 c fs s.1 (all_found g c fs s full) s.4))
        (λ more. next_read g c fs s)

    pub next_good : (s : Doing X) (r : Answer X) → GoodState s → GoodAnswer (ask X s) r → GoodState (answered X s r)
    next_good taking (from_queue None) p g = tt
    next_good taking (from_queue (Some e)) p g = opens_good (X.opened e) g
    next_good resting (rested true) p g = tt
    next_good (owning m) (from_table (table.was First)) p g = settled_good _ First (k.ended m p)
    next_good (owning m) (from_table (table.was Again)) p g = tt
    next_good (doing (job.store t o ∷ js) b) (from_table (table.was a)) p g = settled_good js (cond (is_due t js) a b) p.1
    next_good (doing (job.publish m ∷ js) b) (from_queue None) p g = settled_good js b p.1
    next_good (doing (job.part n t c ∷ js) b) (from_table (table.count i)) p g =
        cond_cases GoodState (eqb (suc i) (X.size c)) _ _ (λ e. next_read n c [] (t, p.0, Y.members n, refl, tt)) (λ e. tt)
    next_good (reading n c t fs) (from_table (table.found (Some o))) p g = one_found n c _ (more_found n c fs t o p.0 p.1 g)
    next_good (reading n c t fs) (from_table (table.found None)) p g = tt
    next_good acking acked p g = tt
    next_good s r p g = tt

    -- from a good state on each ask is good, as long as the answers before it are
    pub keeps : (s : Doing X) (xs : List (Asked X × Answer X)) → GoodState s → IsCoreRun X s xs → Careful xs
    keeps s [] p run = tt
    keeps s (x ∷ xs) p run = (
      subst GoodAsk (sym run.0) (asks_good s p run.1.1),
      λ good. keeps (answered X s x.1) xs (next_good s x.1 p (subst (λ a. GoodAnswer a x.1) run.0 good)) run.2,
    )

  pub goods_from_careful : (xs : List (Asked X × Answer X)) → Careful xs → Each (λ x. GoodAnswer x.0 x.1) xs → Each (λ x. GoodAsk x.0) xs
  goods_from_careful [] k goods = tt
  goods_from_careful (x ∷ xs) k goods = (k.0, goods_from_careful xs (k.1 goods.0) goods.1)
