use Rattle.std.proofs.Common.{◌≡◌, ◌∙◌, ◌++◌, ◌∷◌, [], sym, arith, rules}
use Rattle.canvas_values.specs.steps.Reading.{number_reading}
use Rattle.canvas_sig.proofs.Each.{next_read}
use Rattle.canvas_sig.proofs.Json.{next_item}
use Rattle.canvas_sig.proofs.json_argument.read_numbers.Goals as goal

pub loop-value-preserved : goal.loop-value-preserved
loop-value-preserved c =
    let l = c.loop-value in
    let step = next_item c.args.values.now l.value-index c.value-item.result _ (omega (arith, c.loop-value-test.true)) (sym c.value-item.is) in
    let pushed : c.push.new.self.items ≡ l.numbers.items ++ c.in_ok-read_number.field-0 ∷ [] = search rules in
    l.invariant ∙ next_read number_reading l.numbers.items _ c.in_ok-read_number.field-0 _ _ _ pushed c.in_ok-read_number.ensures.reading step
