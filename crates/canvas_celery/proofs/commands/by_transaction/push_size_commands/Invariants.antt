use Rattle.std.proofs.Common.{◌≡◌, ◌++◌, map, drop}
use Rattle.canvas_celery.specs.Resp.{resp}
use Rattle.canvas_celery.specs.Transaction.{size_command}
use Rattle.canvas_celery.specs.steps.Sizes.{size_view}
use Rattle.canvas_celery.proofs.commands.by_transaction.push_size_commands.Given as goal

abbrev pub invariant-loop-size : goal.invariant-loop-size
invariant-loop-size l =
    l.out.items ++ resp (map (λ s. size_command l.run.digits l.target.prefix.now l.target.expires (size_view s)) (drop l.size-index l.sizes))
    ≡ l.fn.out.items ++ resp (map (λ s. size_command l.run.digits l.target.prefix.now l.target.expires (size_view s)) l.sizes)
