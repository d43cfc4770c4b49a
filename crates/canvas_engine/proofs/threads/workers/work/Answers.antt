use Rattle.std.proofs.Common.{rules, ◌≡◌, refl, sym, subst}
use Rattle.canvas_engine.specs.steps.WorkerSlots.{LeavesState}
use Rattle.canvas_engine.specs.declared.threads.slot.SlotState.TheVariants.{Ready, Done}
use Rattle.canvas_engine.proofs.threads.workers.work.Goals as goal

pub returns-in-Some : goal.returns-in-Some
returns-in-Some g c =
    let shared = c.args.shared.now in
    let behaviour = g.T.Tasks.behaviour shared.tasks.now in
    let may_want = g.G.Gate.may_want shared.gate.now in
    let state : c.args.slot.now.state ≡ Ready c.in-Ready.pass c.in-Ready.seat = search rules in
    (refl, subst (λ p. LeavesState behaviour may_want shared.backend.now.plan c.args.slot.now.number p (Done c.in-Some.left)) (sym state) c.in-Some.ensures)
