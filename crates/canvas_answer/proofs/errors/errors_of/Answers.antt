use Rattle.std.proofs.Common.{map}
use Rattle.canvas_adapt.specs.Raising.{other_error}
use Rattle.canvas_answer.specs.Stubbing.{error_said}
use Rattle.canvas_answer.proofs.Reading.{step}
use Rattle.canvas_answer.proofs.errors.errors_of.Goals as goal

pub loop-text-preserved : goal.loop-text-preserved
loop-text-preserved c =
    step (λ t. t.now) other_error c.args.texts.now c.loop-text.text-index _ (map error_said c.loop-text.errors.items)
    (map error_said c.push_error.new.errors.items) c.loop-text-test.true c.in_ok-push_error.ensures c.loop-text.invariant
