use Rattle.canvas_rewrite.proofs.GrowingLines.{of_end_is}
use Rattle.canvas_rewrite.proofs.growing.Growing.of_end.Goals as goal

pub returns : goal.returns
returns c = of_end_is c.new.result.items c.in_ok-new.field-0 c.args.members.items c.of-members.result c.args.body c.new.ensures.items c.of-members.ensures
    c.in_ok-new.ensures.ok
