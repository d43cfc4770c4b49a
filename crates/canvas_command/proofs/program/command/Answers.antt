use Rattle.canvas_command.proofs.program.command.Goals as goal

pub returns : goal.returns
returns g c = λ takes. (c.told.result, c.told.ensures takes, c.print.ensures.status)
