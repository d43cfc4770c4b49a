use Rattle.std.proofs.Common.{arith, sym}
use Rattle.canvas_celery.specs.Transaction.{size_command}
use Rattle.canvas_celery.specs.steps.Sizes.{size_view}
use Rattle.canvas_celery.proofs.Exported.Pieces.{next_command}
use Rattle.canvas_celery.proofs.commands.by_transaction.push_size_commands.Goals as goal

pub loop-size-preserved : goal.loop-size-preserved
loop-size-preserved c =
    let t = c.args.target.now in
    next_command (λ s. size_command c.args.run.now.digits t.prefix.now t.expires (size_view s)) c.args.sizes.now c.loop-size.size-index c.size-item.result _
    c.loop-size.out.items c.push_size.new.out.items c.args.out.now.items (omega (arith, c.loop-size-test.true))
    (sym c.size-item.is) c.in_ok-push_size.ensures c.loop-size.invariant
