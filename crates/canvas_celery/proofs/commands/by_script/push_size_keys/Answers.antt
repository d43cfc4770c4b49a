use Rattle.std.proofs.Common.{arith, sym}
use Rattle.canvas_celery.specs.Keys.{size_key}
use Rattle.canvas_celery.specs.steps.Sizes.{size_view}
use Rattle.canvas_celery.proofs.Exported.Words.{next_word}
use Rattle.canvas_celery.proofs.commands.by_script.push_size_keys.Goals as goal

pub loop-size-preserved : goal.loop-size-preserved
loop-size-preserved c =
    next_word (λ s. size_key c.args.run.now.digits c.args.prefix.now (size_view s).0) c.args.sizes.now c.loop-size.size-index c.size-item.result _
    c.loop-size.out.items c.push_size_key.new.out.items c.args.out.now.items (omega (arith, c.loop-size-test.true))
    (sym c.size-item.is) c.in_ok-push_size_key.ensures c.loop-size.invariant
