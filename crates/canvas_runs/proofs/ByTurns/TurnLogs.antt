-- The histories of a run by turns: worker 0 makes the workers and publishes the first messages, and then they have each step that is a call, by its worker.
use Rattle.std.proofs.Common.{◌≡◌, ◌≢◌, ℕ, zero, suc, ◌≤◌, true, false, ◌==◌, List, [], ◌∷◌, ◌++◌, refl, sym, ap, ◌∙◌, subst, ⊎_elim, arith}
use Rattle.std.proofs.lemmas.Bool.{false≢true, eqb-true, eqb-false, cases_Bool}
use Rattle.canvas_history.specs.History.{Entry, split, join, calls, among, live, live_from, state_from, Legal}
use Rattle.canvas_history.proofs.Histories.{In, in_left, in_right, in_append, in_here, in_later, in_cases, live_append, OnlyCalls}
use Rattle.canvas_history.specs.Answers.{entries_by, splits_of}
use Rattle.canvas_runs.specs.Turns.{round, IsWorker}
use Rattle.canvas_runs.proofs.Objects.Splits.{live_splits, split_more}

-- ---- the numbers 1 to n

pub in_round : (n p : ℕ) → In p (round n) → IsWorker n p
in_round zero p h = absurd (false≢true h)
in_round (suc n) p h =
    ⊎_elim (λ i. let k = in_round n p i in (k.0, omega (arith, k.1)))
    (λ i. ⊎_elim (λ (e : suc n ≡ p). (omega (arith, e), omega (arith, e))) (λ f. absurd (false≢true f)) (in_cases p (suc n) [] i))
    (in_append p (round n) (suc n ∷ []) h)

pub round_has : (n p : ℕ) → IsWorker n p → In p (round n)
round_has zero p h = absurd (omega (arith, h.0, h.1))
round_has (suc n) p h =
    ⊎_elim (λ (e : (p == suc n) ≡ true). let same : p ≡ suc n = eqb-true p (suc n) e in
    in_right p (round n) (suc n ∷ []) (subst (λ k. In p (k ∷ [])) same (in_here p [])))
    (λ (e : (p == suc n) ≡ false). in_left p (round n) (suc n ∷ []) (round_has n p (h.0, below e))) (cases_Bool (p == suc n))
  where
    below : (p == suc n) ≡ false → p ≤ n
    below e = let apart : p ≢ suc n = eqb-false p (suc n) e in omega (arith, apart, h.1)

-- ---- splits, and calls after them

module _ {C R : Type 0} where
  pub only_live : (cs : List ℕ) (es : List (Entry C R)) → OnlyCalls es → live_from cs es ≡ cs
  only_live cs [] o = refl
  only_live cs (split p q ∷ es) o = absurd o
  only_live cs (join p q ∷ es) o = absurd o
  only_live cs (calls p c r ∷ es) o = only_live cs es o

  pub only_append : (xs ys : List (Entry C R)) → OnlyCalls xs → OnlyCalls ys → OnlyCalls (xs ++ ys)
  only_append [] ys o u = u
  only_append (split p q ∷ xs) ys o u = absurd o
  only_append (join p q ∷ xs) ys o u = absurd o
  only_append (calls p c r ∷ xs) ys o u = only_append xs ys o u

  -- the workers were made, and calls are all that follows
  pub record Made (n : ℕ) (log : List (Entry C R)) : Type 0 where
    pub rest : List (Entry C R)
    pub is : log ≡ splits_of (round n) ++ rest
    pub only : OnlyCalls rest

  pub made_live : (n : ℕ) (log : List (Entry C R)) → Made n log → live log ≡ 0 ∷ round n
  made_live n log m =
      ap live m.is ∙ (live_append (0 ∷ []) (splits_of (round n)) m.rest
      ∙ (only_live (live (splits_of (round n))) m.rest m.only ∙ live_splits C R (0 ∷ []) (round n)))

  pub worker_lives : (n p : ℕ) (log : List (Entry C R)) → Made n log → IsWorker n p → among p (live log) ≡ true
  worker_lives n p log m w = subst (λ ls. In p ls) (sym (made_live n log m)) (in_later p 0 (round n) (round_has n p w))

  pub first_lives : (n : ℕ) (log : List (Entry C R)) → Made n log → among 0 (live log) ≡ true
  first_lives n log m = subst (λ ls. In 0 ls) (sym (made_live n log m)) (in_here 0 (round n))

-- no number past n is among them
not_past : (n : ℕ) → among (suc n) (round n) ≡ false
not_past n = ⊎_elim (λ (h : among (suc n) (round n) ≡ true). let k = in_round n (suc n) h in absurd (omega (arith, k.1)))
    (λ (h : among (suc n) (round n) ≡ false). h) (cases_Bool (among (suc n) (round n)))

module _ {C R S : Type 0} (first : S) (answer : S → C → R) (next : S → C → S) (May : List (Entry C R) → S → ℕ → C → Type 0) where
  pub splits_legal : (n : ℕ) → Legal first answer next May (splits_of (round n))
  splits_legal zero = tt
  splits_legal (suc n) = split_more first answer next May (round n) (suc n) (splits_legal n) (λ e. omega (arith, e)) (not_past n)

  pub splits_state : (s : S) (qs : List ℕ) → state_from first answer next May s (splits_of qs) ≡ s
  splits_state s [] = refl
  splits_state s (q ∷ qs) = splits_state s qs

pub entries_only : {C R : Type 0} (p : ℕ) (cs : List (C × R)) → OnlyCalls (entries_by p cs)
entries_only p [] = tt
entries_only p (c ∷ cs) = entries_only p cs
