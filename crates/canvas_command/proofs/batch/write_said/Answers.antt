use Rattle.canvas_command.proofs.Batches.{printed_one}
use Rattle.canvas_command.proofs.batch.write_said.Goals as goal

pub loop-slot-preserved : goal.loop-slot-preserved
loop-slot-preserved g c =
    printed_one (g.W.Write.contents c.args.out.now) (g.W.Write.contents c.loop-slot.out) (g.W.Write.contents c.write_line.new.out) c.loop-slot.yielded
    c.in-Some.slot c.in_ok-said.said c.loop-slot.failed c.loop-slot.invariant c.in_ok-said.was c.in_ok-write_line.ensures
