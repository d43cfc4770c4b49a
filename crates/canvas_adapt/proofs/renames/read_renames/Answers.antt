use Rattle.canvas_adapt.proofs.Naming.{one_more}
use Rattle.canvas_adapt.proofs.renames.read_renames.Goals as goal

pub loop-before-preserved : goal.loop-before-preserved
loop-before-preserved c =
    one_more c.args.texts.now c.loop-before.before _ c.loop-before.renames.items c.add_text.new.renames.items c.in-Ok.ensures.0 c.loop-before-test.true
    c.loop-before.invariant c.in-Ok.ensures.1 c.in-Ok.ensures.2
