use Rattle.std.proofs.Common.{◌++◌, ap₂, codes}
use Rattle.canvas_celery.proofs.Pieces.{ok_as}
use Rattle.canvas_celery.proofs.result_keys.push_task.Goals as goal

pub returns : goal.returns
returns c =
    ok_as c.push_key.result c.push_key.new.out.items _ _
    (ap₂ (λ p i. c.args.out.now.items ++ (p ++ (codes "celery-task-meta-" ++ (i ++ codes "\n")))) c.as_bytes.ensures.value c.task_text-id.ensures.value) c.push_key.ensures
