use Rattle.std.proofs.Common.{◌∙◌, length-set, arith}
use Rattle.canvas_backend.proofs.Homes.{moved_on, moved_all}
use Rattle.canvas_backend.proofs.roster.move_in.Goals as goal

pub loop-task-preserved : goal.loop-task-preserved
loop-task-preserved c = record {
  many = length-set _ _ _ ∙ c.loop-task.invariant.many;
  moved = moved_on c.args.members.now c.loop-task.task-index c.task-item.result c.get.result c.args.group c.loop-task.homes.items _
      c.loop-task-test.true c.task-item.is c.get.ensures.value c.loop-task.invariant.moved;
}

pub returns : goal.returns
returns c =
    moved_all c.args.members.now c.loop-task.task-index c.args.group c.loop-task.homes.items _ c.loop-task-test.false c.loop-task.invariant.moved

pub index_mut-requires : goal.index_mut-requires
index_mut-requires c =
    omega (
      arith,
      c.get.ensures.value,
      c.get.ensures.least,
      c.task-item.is,
      c.loop-task.invariant.many,
      c.requires c.loop-task.task-index c.task-item.result c.loop-task-test.true,
    )
