use Rattle.std.proofs.Common.{◌∷◌, [], ◌∙◌, ◌++◌, ap, refl}
use Rattle.canvas_task.proofs.Turns.{put_on, put_all}
use Rattle.canvas_effects.specs.steps.Walks.{successes}
use Rattle.canvas_effects.proofs.Walked.{one_success}
use Rattle.canvas_effects.proofs.effects.header.numbers_of.Goals as goal

pub loop-ended-init : goal.loop-ended-init
loop-ended-init c = ap (λ ns. ns ++ successes c.args.outcomes.now) c.new-numbers.ensures.items

pub loop-ended-preserved : goal.loop-ended-preserved
loop-ended-preserved c =
    put_on successes c.args.outcomes.now c.loop-ended.ended-index c.ended-item.result (successes (c.ended-item.result ∷ [])) _ _ _ c.loop-ended-test.true
    c.ended-item.is (one_success c.ended-item.result _) c.loop-ended.invariant c.in_ok-put_number.ensures

pub returns : goal.returns
returns c =
    c.of.ensures ∙ put_all successes c.args.outcomes.now c.loop-ended.ended-index _ _ c.loop-ended-test.false refl c.loop-ended.invariant
