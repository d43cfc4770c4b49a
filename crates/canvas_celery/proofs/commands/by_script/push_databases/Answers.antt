use Rattle.std.proofs.Common.{[], ◌∷◌}
use Rattle.canvas_celery.specs.steps.Words.{database_word}
use Rattle.canvas_celery.proofs.Exported.Words.{first_word, last_word}
use Rattle.canvas_celery.proofs.commands.by_script.push_databases.Goals as goal

pub returns : goal.returns
returns c =
    last_word c.push_database-2.result c.args.out.now.items c.push_database.new.out.items c.push_database-2.new.out.items (database_word c.args.backend ∷ [])
    (database_word c.args.broker)
    (first_word c.args.out.now.items c.push_database.new.out.items (database_word c.args.backend) c.in_ok-push_database.ensures) c.push_database-2.ensures
