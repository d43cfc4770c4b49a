use Rattle.canvas_command.proofs.Batches.{own_of}
use Rattle.canvas_command.proofs.each.Flow.line_of_both.Goals as goal

pub returns-in-Ok : goal.returns-in-Ok
returns-in-Ok g c = λ has.
    let self = c.args.self.now in
    own_of (g.T.Tasks.behaviour self.tasks.now.tasks.now) self.setting.adapts c.in-Ok.answers _ self.each.has_tasks c.line_where.result has
    c.line_where.ensures
