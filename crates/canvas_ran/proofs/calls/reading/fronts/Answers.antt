use Rattle.std.proofs.Common.{◌∙◌, ap}
use Rattle.canvas_rewrite.specs.FrozenView.{line_in}
use Rattle.canvas_semantics.specs.PlacedLine.{strip}
use Rattle.canvas_semantics.proofs.Numbered.{strip_bare}
use Rattle.canvas_ran.proofs.Called.Walks.{at_plan}
use Rattle.canvas_ran.proofs.calls.reading.fronts.Goals as goal

pub returns : goal.returns
returns c behaviour e =
    at_plan _ _ c.args.plan.now (line_in c.line.result.now) _ _ _ _ c.new-found.ensures.items c.in_ok-push_line.ensures
    (c.deref.ensures.value ∙ c.in_ok-fates.ensures.evaluated behaviour e)
    (ap strip c.line.ensures.value ∙ strip_bare c.args.plan.now) c.first.ensures
