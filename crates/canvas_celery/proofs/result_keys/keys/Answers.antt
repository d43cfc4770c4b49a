use Rattle.std.proofs.Common.{◌≡◌, ◌+◌, ◌++◌, ◌∙◌, ap, ap₂, arith}
use Rattle.canvas_semantics.specs.Line.{count_line}
use Rattle.canvas_celery.specs.Keys.{key_line, result_keys}
use Rattle.canvas_celery.proofs.Pieces.{one_more}
use Rattle.canvas_celery.proofs.result_keys.keys.Goals as goal

pub loop-index-preserved : goal.loop-index-preserved
loop-index-preserved c =
    c.in_ok-push_task.ensures
    ∙ (ap₂ (λ xs k. xs ++ key_line c.args.run.now.digits c.args.prefix.now k) c.loop-index.invariant c.task_at.ensures
    ∙ one_more c.args.run.now.digits c.args.prefix.now c.loop-index.index)

pub task_at-requires : goal.task_at-requires
task_at-requires c = omega (arith, c.loop-index-test.true, c.tasks-index-end.ensures.value)

pub returns : goal.returns
returns c =
    let all : c.loop-index.index ≡ count_line c.args.plan.now =
    omega (arith, c.loop-index-test.false, c.loop-index.auto.index-end, c.tasks-index-end.ensures.value) in
    c.loop-index.invariant ∙ ap (result_keys c.args.run.now.digits c.args.prefix.now) all
