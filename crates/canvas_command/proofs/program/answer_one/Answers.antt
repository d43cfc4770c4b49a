use Rattle.std.proofs.Common.{IfOk, sym, subst}
use Rattle.canvas_answer.specs.Asking.{asking}
use Rattle.canvas_command.specs.Asked.{IsAnswerTo}
use Rattle.canvas_command.specs.Runs.{IsByTurns}
use Rattle.canvas_command.proofs.program.answer_one.Goals as goal

pub returns-in-Run : goal.returns-in-Run
returns-in-Run g c =
    let source = c.args.source.now in
    subst (λ v. IfOk c.answer_run.result (IsAnswerTo (g.T.Tasks.behaviour source.tasks.now) (asking source.setting) source.text.now v)) (sym c.in-Run.is)
    c.answer_run.ensures

pub returns-in-Graph : goal.returns-in-Graph
returns-in-Graph g c =
    let source = c.args.source.now in
    subst (λ v. IfOk c.answer_graph.result (IsAnswerTo (g.T.Tasks.behaviour source.tasks.now) (asking source.setting) source.text.now v))
    (sym c.in-Graph.is) c.answer_graph.ensures

pub returns-in-Turns : goal.returns-in-Turns
returns-in-Turns g c =
    let source = c.args.source.now in
    let behaviour = g.T.Tasks.behaviour source.tasks.now in
    let output = c.in-Turns.output in
    let run =
    subst
    (λ ts. IfOk c.answer_turns.result
    (IsByTurns behaviour (asking source.setting) source.text.now c.in-Turns.workers ts c.in-Turns.steps output.form output.fails))
    c.deref.ensures.value c.answer_turns.ensures in
    subst (λ v. IfOk c.answer_turns.result (IsAnswerTo behaviour (asking source.setting) source.text.now v)) (sym c.in-Turns.is) run
