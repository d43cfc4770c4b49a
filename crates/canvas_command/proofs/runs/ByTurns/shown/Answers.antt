use Rattle.std.proofs.Common.{None, inr, subst}
use Rattle.canvas_semantics.specs.Line.{tree_of}
use Rattle.canvas_semantics.specs.States.{states}
use Rattle.canvas_engine.specs.Correct.{IsRunFault}
use Rattle.canvas_answer.specs.Plans.{run_line}
use Rattle.canvas_command.proofs.runs.ByTurns.shown.Goals as goal

pub returns-in-Err : goal.returns-in-Err
returns-in-Err g c = λ plans.
    let behaviour = g.T.Tasks.behaviour c.args.source.now.tasks.now in
    let said = subst (λ l. IsRunFault c.args.self.now.workers c.args.self.now.turns.now (states behaviour (tree_of l)) c.in-Err.fault) c.run-plan.ensures
    c.in-Err.ensures.err in
    (None, (c.args.plans.now.shown, run_line c.args.plans.now, plans, inr (c.in-Err.fault, said, c.early.ensures)))
