use Rattle.std.proofs.Common.{◌∙◌, ◌∷◌, [], ◌++◌, map, refl, sym, ap}
use Rattle.canvas_task.specs.declared.outcome.Outcome.TheVariants.{Failure}
use Rattle.canvas_task.proofs.Turns.{put_on, put_all}
use Rattle.canvas_rewrite.specs.FrozenView.{p_task_view}
use Rattle.canvas_envelope.specs.Content.{number_of}
use Rattle.canvas_effects.specs.steps.Walks.{skipped_tasks}
use Rattle.canvas_effects.proofs.Walked.{number_seen}
use Rattle.canvas_effects.proofs.effects.skipped.skip_tasks.Goals as goal

pub loop-task-init : goal.loop-task-init
loop-task-init c = refl

pub loop-task-preserved : goal.loop-task-preserved
loop-task-preserved c =
    put_on (λ ts. skipped_tasks c.args.fault.now (map p_task_view ts)) c.args.tasks.now c.loop-task.task-index c.task-item.result
    ((number_of (p_task_view c.task-item.result), Failure c.args.fault.now) ∷ []) _ _ _ c.loop-task-test.true c.task-item.is refl c.loop-task.invariant
    (c.in_ok-push.ensures.items ∙ ap (λ n. c.loop-task.stores.items ++ (n, Failure c.args.fault.now) ∷ []) (sym (number_seen c.task-item.result)))

pub returns : goal.returns
returns c =
    put_all (λ ts. skipped_tasks c.args.fault.now (map p_task_view ts)) c.args.tasks.now c.loop-task.task-index _ _ c.loop-task-test.false refl
    c.loop-task.invariant
