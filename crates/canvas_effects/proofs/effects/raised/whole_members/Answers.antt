use Rattle.std.proofs.Common.{◌∙◌}
use Rattle.canvas_effects.proofs.Raised.{members_there}
use Rattle.canvas_effects.proofs.effects.raised.whole_members.Goals as goal

pub returns-clause-whole : goal.returns-clause-whole
returns-clause-whole c = members_there c.args.end.now _ (c.deref.ensures.value ∙ c.get.ensures) c.requires
