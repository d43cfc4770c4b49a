use Rattle.canvas_engine.specs.Correct.{IsRunFault}
use Rattle.canvas_engine.proofs.SameText.{ran_again, ran_fault}
use Rattle.canvas_engine.proofs.text.run_text_again.Goals as goal

pub returns-clause-ok : goal.returns-clause-ok
returns-clause-ok g c =
    let plan = c.in_ok-plan.ensures.ok in
    ran_again (g.T.Tasks.behaviour c.args.tasks.now) c.args.bytes.now plan.0 c.in_ok-plan.plan plan.1
    c.args.workers c.args.turns.now c.args.again.now c.plan_text.result c.plan_text.ensures.ok

pub returns-clause-err : goal.returns-clause-err
returns-clause-err g c =
    let plan = c.in_ok-plan.ensures.ok in
    ran_fault (g.T.Tasks.behaviour c.args.tasks.now) c.args.bytes.now plan.0 c.in_ok-plan.plan plan.1
    (IsRunFault c.args.workers c.args.turns.now) c.plan_text.result c.plan_text.ensures.err
