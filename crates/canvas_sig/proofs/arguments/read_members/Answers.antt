use Rattle.std.proofs.Common.{sym, subst}
use Rattle.canvas_task.specs.Entries.{named}
use Rattle.canvas_values.specs.Answers.{Gives}
use Rattle.canvas_sig.proofs.Datums.{object_kwargs}
use Rattle.canvas_sig.proofs.arguments.read_members.Goals as goal

pub returns-in-Object : goal.returns-in-Object
returns-in-Object c = subst (Gives (λ m. named m.entries) c.read_named.result) (sym (object_kwargs _ _ c.in-Object.is)) c.read_named.ensures
