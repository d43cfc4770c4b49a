-- One more answered ask: of a key, of a core run, of a worker's scripts.
use Rattle.std.proofs.Common.{◌≡◌, ◌≢◌, ℕ, Option, Bool, true, false, cond, eqb, List, [], ◌∷◌, ◌++◌, length, Some, None, refl, ap, ◌∙◌, append-nil, eq-eqb, ne_eqb}
use Rattle.canvas_task.specs.declared.outcome.Outcome.{Outcome}
use Rattle.canvas_effects.specs.Job as job
use Rattle.canvas_history.specs.Queue as queue
use Rattle.canvas_runs.specs.Core.{Ask, Reply, to_queue, from_queue, CoreState, taking, ask, reading_of, reads_next, answered, left_after, Suits, ReadsBack, IsCoreRun, acking, over, failed, resting, owning, doing, reading}
use Rattle.canvas_runs.specs.Calls.{AskedAndAnswered, of_scripts, scripts_of, held_by, held_after}
use Rattle.canvas_history.specs.Lists.{by}
use Rattle.canvas_runs.specs.Protocol.{Protocol}

-- ---- one more entry of a key, or of another

module _ {A : Type 0} where
  pub by_append : (p : ℕ) (xs ys : List (ℕ × A)) → by p (xs ++ ys) ≡ by p xs ++ by p ys
  by_append p [] ys = refl
  by_append p (x ∷ xs) ys = go (eqb x.0 p) (by_append p xs ys)
    where
      go : (b : Bool) → by p (xs ++ ys) ≡ by p xs ++ by p ys → cond b (x.1 ∷ by p (xs ++ ys)) (by p (xs ++ ys)) ≡ cond b (x.1 ∷ by p xs) (by p xs) ++ by p ys
      go true e = ap (λ l. x.1 ∷ l) e
      go false e = e

  pub by_more : (p : ℕ) (xs : List (ℕ × A)) (y : A) → by p (xs ++ (p, y) ∷ []) ≡ by p xs ++ y ∷ []
  by_more p xs y = by_append p xs ((p, y) ∷ []) ∙ ap (λ b. by p xs ++ cond b (y ∷ []) []) (eq-eqb p p refl)

  pub by_other : (p q : ℕ) (xs : List (ℕ × A)) (y : A) → q ≢ p → by p (xs ++ (q, y) ∷ []) ≡ by p xs
  by_other p q xs y apart = by_append p xs ((q, y) ∷ []) ∙ (ap (λ b. by p xs ++ cond b (y ∷ []) []) (ne_eqb q p apart) ∙ append-nil (by p xs))

-- ---- one more answered ask of a core run

module _ {E : Type 0} (X : Protocol E) where
  pub left_more : (s : CoreState X.Message X.Carried) (xs : List (AskedAndAnswered E)) (x : AskedAndAnswered E)
      → left_after X s (xs ++ x ∷ []) ≡ answered X (left_after X s xs) x.1
  left_more s [] x = refl
  left_more s (y ∷ xs) x = left_more (answered X s y.1) xs x

  pub core_more : (s : CoreState X.Message X.Carried) (xs : List (AskedAndAnswered E)) (x : AskedAndAnswered E)
      → IsCoreRun X s xs → x.0 ≡ ask X (left_after X s xs) → Suits x.0 x.1 → ReadsBack X (left_after X s xs)
      → IsCoreRun X s (xs ++ x ∷ [])
  core_more s [] x run asks suits back = (asks, (suits, back), tt)
  core_more s (y ∷ xs) x run asks suits back = (run.0, run.1, core_more (answered X s y.1) xs x run.2 asks suits back)

-- ---- what follows where a header is read on

module _ {E : Type 0} (X : Protocol E) where
  -- the core fails where the chord has no member of the place, or else reads it
  pub reads_cases : (P : CoreState X.Message X.Carried → Type 0) (g : ℕ) (c : X.Carried) (fs : List (ℕ × Outcome))
      → (X.member g (length fs) ≡ None → P failed) → ((t : ℕ) → X.member g (length fs) ≡ Some t → P (reading g c t fs)) → P (reads_next X g c fs)
  reads_cases P g c fs none some = go (X.member g (length fs)) refl
    where
      go : (x : Option ℕ) → X.member g (length fs) ≡ x → P (reading_of X g c fs x)
      go None e = none e
      go (Some t) e = some t e

-- ---- a worker's steps and its core run

module _ {E : Type 0} where
  pub scripts_append : (xs ys : List (AskedAndAnswered E)) → scripts_of (xs ++ ys) ≡ scripts_of xs ++ scripts_of ys
  scripts_append [] ys = refl
  scripts_append (x ∷ xs) ys = go (of_scripts x.0) (scripts_append xs ys)
    where
      go : (b : Bool) → scripts_of (xs ++ ys) ≡ scripts_of xs ++ scripts_of ys
          → cond b (x ∷ scripts_of (xs ++ ys)) (scripts_of (xs ++ ys)) ≡ cond b (x ∷ scripts_of xs) (scripts_of xs) ++ scripts_of ys
      go true e = ap (λ l. x ∷ l) e
      go false e = e

  pub scripts_more : (xs : List (AskedAndAnswered E)) (a : Ask E) (r : Reply E) → of_scripts a ≡ true
      → scripts_of (xs ++ (a, r) ∷ []) ≡ scripts_of xs ++ (a, r) ∷ []
  scripts_more xs a r e = scripts_append xs ((a, r) ∷ []) ∙ ap (λ b. scripts_of xs ++ cond b ((a, r) ∷ []) []) e

  pub held_append : (h : Option E) (xs ys : List (AskedAndAnswered E)) → held_after h (xs ++ ys) ≡ held_after (held_after h xs) ys
  held_append h [] ys = refl
  held_append h (x ∷ xs) ys = held_append (held_by h x.0 x.1) xs ys

  -- each redelivery is of the envelope of the open script, and the queue took it
  abbrev pub delivers : Option E → Ask E → Reply E → Type 0
  delivers h (to_queue (queue.redeliver e)) (from_queue None) = h ≡ Some e
  delivers h (to_queue (queue.redeliver e)) r = ⊥
  delivers h a r = Unit

  abbrev pub DeliversHeld : Option E → List (AskedAndAnswered E) → Type 0
  DeliversHeld h [] = Unit
  DeliversHeld h (x ∷ xs) = delivers h x.0 x.1 × DeliversHeld (held_by h x.0 x.1) xs

  pub delivers_append : (h : Option E) (xs : List (AskedAndAnswered E)) (x : AskedAndAnswered E) → DeliversHeld h xs → delivers (held_after h xs) x.0 x.1
      → DeliversHeld h (xs ++ x ∷ [])
  delivers_append h [] x d k = (k, tt)
  delivers_append h (y ∷ xs) x d k = (d.0, delivers_append (held_by h y.0 y.1) xs x d.1 k)

module _ {E : Type 0} (X : Protocol E) where
  pub asks_of_scripts : (s : CoreState X.Message X.Carried) → of_scripts (ask X s) ≡ true
  asks_of_scripts taking = refl
  asks_of_scripts resting = refl
  asks_of_scripts over = refl
  asks_of_scripts failed = refl
  asks_of_scripts (owning m) = refl
  asks_of_scripts (doing [] b) = refl
  asks_of_scripts (doing (job.store t o ∷ js) b) = refl
  asks_of_scripts (doing (job.publish m ∷ js) b) = refl
  asks_of_scripts (doing (job.part g t c ∷ js) b) = refl
  asks_of_scripts (reading g c t fs) = refl
  asks_of_scripts acking = refl

  pub plain_ask : (s : CoreState X.Message X.Carried) (h : Option E) (r : Reply E) → delivers h (ask X s) r
  plain_ask taking h r = tt
  plain_ask resting h r = tt
  plain_ask over h r = tt
  plain_ask failed h r = tt
  plain_ask (owning m) h r = tt
  plain_ask (doing [] b) h r = tt
  plain_ask (doing (job.store t o ∷ js) b) h r = tt
  plain_ask (doing (job.publish m ∷ js) b) h r = tt
  plain_ask (doing (job.part g t c ∷ js) b) h r = tt
  plain_ask (reading g c t fs) h r = tt
  plain_ask acking h r = tt
