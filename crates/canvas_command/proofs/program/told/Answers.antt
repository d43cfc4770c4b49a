use Rattle.std.proofs.Common.{map, string_bytes}
use Rattle.canvas_command.proofs.Wording.{words_answered}
use Rattle.canvas_command.proofs.program.told.Goals as goal

pub returns-in-Ok : goal.returns-in-Ok
returns-in-Ok g c = λ takes.
    words_answered (g.T.Tasks.behaviour c.args.tasks.now) (g.R.Read.remaining c.args.input.now) (map string_bytes c.args.words.now)
    c.in-Ok.field-0 c.told_asked.result c.in-Ok.ensures.ok c.told_asked.ensures
