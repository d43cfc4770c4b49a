use Rattle.std.proofs.Common.{◌∙◌}
use Rattle.canvas_semantics.specs.PlacedLine.{p_nowhere}
use Rattle.canvas_effects.proofs.Begun.{members_stand}
use Rattle.canvas_effects.proofs.effects.first.standing_members.Goals as goal

pub returns-clause-stand : goal.returns-clause-stand
returns-clause-stand c = members_stand c.args.end.now _ p_nowhere (c.deref.ensures.value ∙ c.get.ensures) c.requires
