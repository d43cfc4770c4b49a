use Rattle.std.proofs.Common.{arith, ap, length, drop, ◌≡◌, ◌∙◌}
use Rattle.canvas_celery.proofs.Collected.Identifiers.{length-run_task, drop-run_task}
use Rattle.canvas_celery.proofs.results.named.number_in.Goals as goal

pub returns-then-id-lt28 : goal.returns-then-id-lt28
returns-then-id-lt28 c run k full small named =
    let as_long : length c.args.id.now ≡ 36 = ap length named ∙ length-run_task run k full in
    absurd (omega (arith, as_long))

pub returns : goal.returns
returns c run k full small named = c.number_of.ensures k small (c.split_at.ensures.back ∙ (ap (λ t. drop 28 t) named ∙ drop-run_task run k full))
