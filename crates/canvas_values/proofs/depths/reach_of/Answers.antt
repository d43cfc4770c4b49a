use Rattle.std.proofs.Common.{◌∙◌, ap}
use Rattle.canvas_values.specs.steps.LineReach.{reach_of_line}
use Rattle.canvas_values.specs.SignatureView.{view}
use Rattle.canvas_values.proofs.ReachLemmas.{normal_reach}
use Rattle.canvas_values.proofs.Shallow.{uncapped}
use Rattle.canvas_values.proofs.depths.reach_of.Goals as goal

pub returns : goal.returns
returns c = uncapped _ _ c.requires (c.whole.ensures ∙ ap reach_of_line c.onto_reach.ensures ∙ normal_reach (view c.args.node.now))
