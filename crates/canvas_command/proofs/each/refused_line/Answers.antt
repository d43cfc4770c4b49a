use Rattle.canvas_command.proofs.each.refused_line.Goals as goal

pub returns-clause-canvas : goal.returns-clause-canvas
returns-clause-canvas c = λ own. c.is_of_item.ensures own c.if-not-is_of_item.false
