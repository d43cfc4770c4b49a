use Rattle.std.proofs.Common.{◌∙◌, ◌++◌, ap, ap₂, codes}
use Rattle.canvas_celery.proofs.key.size_key.Goals as goal

pub returns : goal.returns
returns c =
    c.in_ok-push_key.ensures
    ∙ (ap (λ xs. xs ++ (c.as_bytes.result.now ++ (codes "celery-taskset-meta-" ++ (c.group_text-id.result ++ codes ".s")))) c.new-key.ensures.items
    ∙ ap₂ (λ p i. p ++ (codes "celery-taskset-meta-" ++ (i ++ codes ".s"))) c.as_bytes.ensures.value c.group_text-id.ensures.value)
