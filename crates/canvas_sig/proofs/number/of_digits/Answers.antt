use Rattle.std.proofs.Common.{◌≡◌, Some, IfSome, refl, subst}
use Rattle.serde_json.specs.Data.{unsigned}
use Rattle.serde_json.specs.Read.{number_of}
use Rattle.canvas_sig.proofs.DigitTexts.{few_spelled}
use Rattle.canvas_sig.proofs.number.of_digits.Goals as goal

pub from_digits-requires : goal.from_digits-requires
from_digits-requires c = (c.if-are_few.ensures refl).1

pub returns-then-are_few : goal.returns-then-are_few
returns-then-are_few c =
    let few = c.if-are_few.ensures refl in
    subst (λ s. IfSome c.from_digits.result (λ n. number_of s ≡ Some (unsigned n))) c.as_bytes-bytes.ensures.value
    (few_spelled c.as_bytes-bytes.result.now c.from_digits.result few.0 few.1 c.from_digits.ensures)
