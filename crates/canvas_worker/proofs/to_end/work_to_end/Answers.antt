use Rattle.std.proofs.Common.{rules, sym, subst}
use Rattle.canvas_worker.proofs.Polls.Finishing.{workers_finish}
use Rattle.canvas_worker.specs.Finished.{Finished}
use Rattle.canvas_worker.specs.Polls.{TellsOf, working_begun}
use Rattle.canvas_worker.proofs.to_end.work_to_end.Goals as goal

pub returns-in-Ok : goal.returns-in-Ok
returns-in-Ok g c =
    let plan = c.requires.plan in
    let shared = c.args.shared.now in
    let behaviour = g.T.Tasks.behaviour shared.tasks.now in
    let may_want = g.G.Gate.may_want shared.gate.now in
    let gives : TellsOf behaviour may_want (working_begun shared.broker.now shared.backend.now c.args.number c.args.pass c.args.seat) c.in-Ok.left =
    search rules in
    subst (λ p. Finished behaviour may_want p c.args.number c.args.pass c.args.seat c.in-Ok.left) (sym plan.2)
    (workers_finish behaviour may_want plan.0 plan.1 shared.broker.now shared.backend.now c.args.number c.args.pass c.args.seat plan.2 c.in-Ok.left gives)
