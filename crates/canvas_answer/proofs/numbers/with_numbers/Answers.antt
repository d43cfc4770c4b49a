use Rattle.std.proofs.Common.{map}
use Rattle.canvas_answer.specs.Stubbing.{numbered}
use Rattle.canvas_answer.proofs.Reading.{step}
use Rattle.canvas_answer.proofs.numbers.with_numbers.Goals as goal

pub loop-text-preserved : goal.loop-text-preserved
loop-text-preserved c =
    step (λ t. t.now) numbered c.args.texts.now c.loop-text.text-index _ (map (λ t. t.now) c.loop-text.found.items)
    (map (λ t. t.now) c.push_numbered.new.found.items) c.loop-text-test.true c.in_ok-push_numbered.ensures c.loop-text.invariant
