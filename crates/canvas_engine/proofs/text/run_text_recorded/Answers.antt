use Rattle.canvas_engine.specs.Evidence.{IsThreadFault}
use Rattle.canvas_engine.proofs.SameText.{ran_recorded, ran_fault}
use Rattle.canvas_engine.proofs.text.run_text_recorded.Goals as goal

pub returns-clause-ok : goal.returns-clause-ok
returns-clause-ok g c =
    let plan = c.in_ok-plan.ensures.ok in
    ran_recorded (g.T.Tasks.behaviour c.args.tasks.now) c.args.bytes.now plan.0 c.in_ok-plan.plan plan.1
    (g.G.Gate.may_want c.args.gate.now) c.args.workers c.plan_text_threads.result c.plan_text_threads.ensures.ok

pub returns-clause-err : goal.returns-clause-err
returns-clause-err g c =
    let plan = c.in_ok-plan.ensures.ok in
    ran_fault (g.T.Tasks.behaviour c.args.tasks.now) c.args.bytes.now plan.0 c.in_ok-plan.plan plan.1
    (IsThreadFault c.args.workers) c.plan_text_threads.result c.plan_text_threads.ensures.err
