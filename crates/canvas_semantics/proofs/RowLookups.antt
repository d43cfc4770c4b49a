-- A task's state is found at its number's place in the list of states.
use Rattle.std.proofs.Common.{◌≡◌, ℕ, zero, suc, ◌+◌, ◌-◌, ◌≤◌, ◌<◌, ◌==◌, if◌then◌else◌, true, false, List, [], ◌∷◌, Option, Some, None, refl, ap, sym, ◌∙◌, arith}
use Rattle.std.specs.Prelude.{slice_get}
use Rattle.std.proofs.lemmas.Bool.Decides.{nat_tests}
use Rattle.canvas_semantics.specs.Evaluation.{State, state_of}
use Rattle.canvas_semantics.specs.States.{rows_from}

abbrev pub flat : Option State → State
flat None = None
flat (Some s) = s

same_number : (k : ℕ) → (k == k) ≡ true
same_number k = grind (arith, nat_tests)

other_number : (j k : ℕ) → j < k → (j == k) ≡ false
other_number j k h = grind (arith, nat_tests)

-- the task i places after the first, whose number is j
at_place : (ss : List State) (i j k : ℕ) → k ≡ j + i → state_of k (rows_from j ss) ≡ flat (slice_get ss i)
at_place [] i j k e = refl
at_place (s ∷ ss) zero j k e =
    let same : j ≡ k = omega (arith, e) in
    ap (λ n. if n == k then s else state_of k (rows_from (suc j) ss)) same ∙ ap (λ b. if b then s else state_of k (rows_from (suc j) ss)) (same_number k)
at_place (s ∷ ss) (suc i) j k e =
    let below : j < k = omega (arith, e) in
    ap (λ b. if b then s else state_of k (rows_from (suc j) ss)) (other_number j k below) ∙ at_place ss i (suc j) k (omega (arith, e))

-- what a look-up at the number n of task k found, given as o
pub of_task : (ss : List State) (k n : ℕ) (found o : Option State) → n ≡ k → 1 ≤ n → found ≡ slice_get ss (n - 1) → found ≡ o
    → flat o ≡ state_of k (rows_from 1 ss)
of_task ss k n found o same some e is =
    ap flat (sym is ∙ e) ∙ sym (at_place ss (n - 1) 1 k (omega (arith, same, some)))
