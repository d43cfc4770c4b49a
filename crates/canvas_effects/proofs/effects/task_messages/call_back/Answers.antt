use Rattle.std.proofs.Common.{arith}
use Rattle.canvas_effects.specs.steps.Walks.{input_seen}
use Rattle.canvas_effects.proofs.Begun.{callback_fits, callbacks_on}
use Rattle.canvas_effects.proofs.effects.task_messages.call_back.Goals as goal

pub message_of-requires : goal.message_of-requires
message_of-requires c =
    callback_fits c.args.tasks.now c.loop-task.task-index c.task-item.result c.args.parent.now (input_seen c.args.input.now)
    (omega (arith, c.loop-task-test.true)) c.task-item.is c.loop-task.invariant.0 c.requires.parent c.requires.input

pub loop-task-preserved : goal.loop-task-preserved
loop-task-preserved c =
    callbacks_on c.args.tasks.now c.loop-task.task-index c.task-item.result c.args.parent.now
    (input_seen c.args.input.now) c.loop-task.messages.items _ _ _ (omega (arith, c.loop-task-test.true)) c.task-item.is
    c.loop-task.invariant c.in_ok-message_of.ensures c.in_ok-push.ensures.items
