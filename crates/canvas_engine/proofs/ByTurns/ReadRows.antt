-- Rows that are filled with the outcomes that are stored, one task after the other.
use Rattle.std.proofs.Common.{◌≡◌, ℕ, zero, suc, ◌+◌, ◌<◌, List, [], ◌∷◌, ◌++◌, length, map, take, sym, ap, ◌∙◌, add-one, arith}
use Rattle.std.proofs.Math.ListN.{set}
use Rattle.std.proofs.Math.Seq.{take-suc-set}
use Rattle.canvas_semantics.specs.Evaluation.{State}
use Rattle.canvas_semantics.specs.States.{numbers_from}
use Rattle.canvas_history.specs.Table.{Results}
use Rattle.canvas_engine.specs.steps.TurnRuns.{rows_of}

outcomes_more : (f : ℕ → State) (k n : ℕ) → map f (numbers_from k (suc n)) ≡ map f (numbers_from k n) ++ f (k + n) ∷ []
outcomes_more f k zero = let same : k ≡ k + 0 = omega arith in ap (λ m. f m ∷ []) same
outcomes_more f k (suc n) =
    let same : suc k + n ≡ k + suc n = omega arith in
    ap (λ r. f k ∷ r) (outcomes_more f (suc k) n) ∙ ap (λ m. f k ∷ (map f (numbers_from (suc k) n) ++ f m ∷ [])) same

-- one more row is filled
pub row_more : (results : Results) (rows : List State) (i : ℕ) (s : State) → i < length rows → s ≡ results.outcomes (i + 1) → take i rows ≡ rows_of i results
    → take (i + 1) (set rows i s) ≡ rows_of (i + 1) results
row_more results rows i s h is so_far =
    let same : i + 1 ≡ 1 + i = omega arith in
    ap (λ n. take n (set rows i s)) (add-one i)
    ∙ take-suc-set rows i s h
    ∙ ap (λ r. r ++ s ∷ []) so_far
    ∙ ap (λ x. rows_of i results ++ x ∷ []) (is ∙ ap results.outcomes same)
    ∙ sym (outcomes_more results.outcomes 1 i)
    ∙ ap (λ n. rows_of n results) (sym (add-one i))
