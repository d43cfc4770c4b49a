use Rattle.std.proofs.Common.{◌<◌, ◌==◌, ◌≡◌, false, length, arith, sym, eq-eqb, get_or, ℕ}
use Rattle.std.proofs.lemmas.List.Sums.{position_or_len_is}
use Rattle.canvas_celery.proofs.results.pieces.place_of.Goals as goal

pub returns-then-text-index : goal.returns-then-text-index
returns-then-text-index c =
    sym
    (position_or_len_is (λ b. b == c.args.byte) c.args.text.now c.loop-index.index 0 (omega arith) c.loop-index.invariant
    (λ h. eq-eqb _ _ c.if-text-index.true))

pub returns : goal.returns
returns c =
    let none : (k : ℕ) → k < length c.args.text.now → (get_or c.args.text.now k 0 == c.args.byte) ≡ false = λ k h. c.loop-index.invariant k (omega arith) in
    sym (position_or_len_is (λ b. b == c.args.byte) c.args.text.now (length c.args.text.now) 0 (omega arith) none (λ h. absurd (omega arith)))
