use Rattle.std.proofs.Common.{◌<◌, length, get_or, arith, rules}
use Rattle.std.specs.Int.{IsInRange}
use Rattle.std.proofs.lemmas.Grind.{common_steps}
use Rattle.canvas_sig.proofs.DigitTexts.{room_for_digit, one_more_digit}
use Rattle.canvas_sig.proofs.number.from_digits.Goals as goal

pub overflow_mul-n : goal.overflow_mul-n
overflow_mul-n c =
    let l = c.loop-byte in
    omega (arith, room_for_digit c.args.bytes.now l.byte-index l.n (omega arith) c.requires l.invariant.0 l.invariant.1)

pub overflow_add-n : goal.overflow_add-n
overflow_add-n c =
    let l = c.loop-byte in
    omega (arith, room_for_digit c.args.bytes.now l.byte-index l.n (omega arith) c.requires l.invariant.0 l.invariant.1, c.from.ensures)

pub loop-byte-preserved : goal.loop-byte-preserved
loop-byte-preserved c =
    let l = c.loop-byte in
    let lt : l.byte-index < length c.args.bytes.now = omega arith in
    let range : IsInRange 48 57 (get_or c.args.bytes.now l.byte-index 0) = first_of (search rules, grind (arith, common_steps)) in
    one_more_digit c.args.bytes.now l.byte-index l.n c.from.result lt l.invariant.0 l.invariant.1 range (omega (arith, c.from.ensures))
