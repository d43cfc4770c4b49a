-- What contracts see of the code's types.
use Rattle.canvas_task.specs.Text.{Text}
use Rattle.canvas_semantics.specs.Line.{Line, members}
use Rattle.canvas_celery.specs.Setting.{Setting}
use Rattle.canvas_celery.specs.Signatures.{Naming}
use Rattle.canvas_celery.specs.declared.commands.target.Target.{Target}
use Rattle.canvas_celery.specs.declared.commands.write.names.Names.{Names}

-- a run, with the places of a plan's line
abbrev pub naming_of : (run : Text) → Line → Naming
naming_of run l = record { run = run; lasts = λ g. members l g }

abbrev pub naming : Names → Naming
naming n = naming_of n.run.now.digits n.plan.now

abbrev pub setting : Target → Setting
setting t =
    record {
      queue = t.queue.now;
      prefix = t.prefix.now;
      expires = t.expires;
      databases = t.databases;
      by_script = t.by_script;
    }
