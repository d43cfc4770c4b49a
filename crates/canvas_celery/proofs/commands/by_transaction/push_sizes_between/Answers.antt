use Rattle.std.proofs.Common.{◌++◌, ◌∙◌, ap, sym, map}
use Rattle.canvas_celery.specs.Resp.{resp}
use Rattle.canvas_celery.specs.Transaction.{size_command, select_backend, select_broker}
use Rattle.canvas_celery.specs.steps.Sizes.{size_view}
use Rattle.canvas_celery.proofs.Exported.Pieces.{ok_as, three, maps}
use Rattle.canvas_celery.proofs.commands.by_transaction.push_sizes_between.Goals as goal

pub returns : goal.returns
returns c =
    let t = c.args.target.now in
    ok_as c.push_broker.result c.push_broker.new.out.items _ _
    (three c.args.out.now.items c.push_backend.new.out.items c.push_size_commands.new.out.items (select_backend t.databases)
    (map (λ s. size_command c.args.run.now.digits t.prefix.now t.expires (size_view s)) c.args.sizes.now) (select_broker t.databases)
    c.in_ok-push_backend.ensures c.in_ok-push_size_commands.ensures
    ∙ ap (λ m. c.args.out.now.items ++ resp (select_backend t.databases ++ (m ++ select_broker t.databases)))
    (sym (maps (λ s. size_command c.args.run.now.digits t.prefix.now t.expires s) size_view c.args.sizes.now)))
    c.push_broker.ensures
