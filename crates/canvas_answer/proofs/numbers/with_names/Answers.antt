use Rattle.std.proofs.Common.{map}
use Rattle.canvas_answer.specs.Stubbing.{named}
use Rattle.canvas_answer.proofs.Reading.{step}
use Rattle.canvas_answer.proofs.numbers.with_names.Goals as goal

pub loop-text-preserved : goal.loop-text-preserved
loop-text-preserved c =
    step (λ t. t.now) named c.args.texts.now c.loop-text.text-index _ (map (λ t. t.now) c.loop-text.found.items)
    (map (λ t. t.now) c.push_named.new.found.items) c.loop-text-test.true c.in_ok-push_named.ensures c.loop-text.invariant
