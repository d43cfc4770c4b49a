use Rattle.std.proofs.Common.{◌∙◌, ap}
use Rattle.canvas_values.specs.steps.LineReach.{reach_of_line}
use Rattle.canvas_values.specs.SignatureView.{view}
use Rattle.canvas_values.proofs.ReachLemmas.{normal_reach, deep_by_reach}
use Rattle.canvas_values.proofs.limits.is_too_deep.Goals as goal

pub returns-else-not-nests_within : goal.returns-else-not-nests_within
returns-else-not-nests_within c =
    deep_by_reach _ _ _ (c.nests_within.ensures.0 c.if-not-nests_within.false)
    (c.whole.ensures ∙ ap reach_of_line c.onto_reach.ensures ∙ normal_reach (view c.args.node.now))
