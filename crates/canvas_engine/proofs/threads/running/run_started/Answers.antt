use Rattle.std.proofs.Common.{rules, ◌≡◌, None, subst}
use Rattle.canvas_engine.specs.steps.Gathering.{HaveWorked}
use Rattle.canvas_engine.proofs.threads.running.run_started.Goals as goal

pub conclude-requires-clause-gathered : goal.conclude-requires-clause-gathered
conclude-requires-clause-gathered g c =
    let behaviour = g.T.Tasks.behaviour c.args.tasks.now in
    let may_want = g.G.Gate.may_want c.args.controls.now.gate.now in
    let none : c.in_ok-ended.early ≡ None = search rules in
    subst (λ x. HaveWorked behaviour may_want c.args.plan.now c.args.workers x c.in_ok-ended.ended) none c.in_ok-ended.ensures.ok
