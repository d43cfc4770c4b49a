use Rattle.std.proofs.Common.{rules, ◌≡◌, ℕ, Some}
use Rattle.canvas_task.specs.Apply.{Behaviour}
use Rattle.canvas_worker.specs.Polls.{WorkerView, TellsOf}
use Rattle.canvas_worker.proofs.Polls.Held.{held_back}
use Rattle.canvas_worker.proofs.Polls.PollsFollowed.{goes_first, ends_give, ready_one, of_one, pending, not_ready}
use Rattle.canvas_worker.proofs.worker.WorkerFuture.poll.Goals as goal

pub returns-in-Ok-clause-same : goal.returns-in-Ok-clause-same
returns-in-Ok-clause-same g c =
    let w : WorkerView = c.in-Some.working in
    let was : c.args.self.now.working ≡ Some w = search rules in
    let behaviour : Behaviour = g.T.Tasks.behaviour c.args.self.now.tasks.now in
    let may_want : ℕ → ℕ → Type 0 = g.G.Gate.may_want c.args.self.now.gate.now in
    pending c.yield_now-in-Ok.result _
    (λ r given. of_one c.args.self.now.working w (λ v. TellsOf behaviour may_want v r) was
    (goes_first behaviour (g.G.Gate.may_answer c.args.self.now.gate.now w.number) may_want w c.args.self.now.passed
    (ready_one c.args.self.now.working w was c.requires) c.turn.new.self c.turn.new.passed c.in-Ok.ensures.turned c.in-Ok.ensures.heeds r given))

pub returns-in-Ok-clause-polled : goal.returns-in-Ok-clause-polled
returns-in-Ok-clause-polled g c =
    let w : WorkerView = c.in-Some.working in
    let was : c.args.self.now.working ≡ Some w = search rules in
    let pends = c.yield_now-in-Ok.ensures.pending in
    of_one c.args.self.now.working w _ was (record {
      once = pending c.yield_now-in-Ok.result _ c.in-Ok.ensures.turned;
      last = not_ready c.yield_now-in-Ok.result _ pends;
      heeds = pending c.yield_now-in-Ok.result _ c.in-Ok.ensures.heeds;
      held_back =
          pending c.yield_now-in-Ok.result _
          (held_back (g.G.Gate.may_answer c.args.self.now.gate.now w.number) (g.G.Gate.may_want c.args.self.now.gate.now w.number)
          (g.T.Tasks.behaviour c.args.self.now.tasks.now) w c.args.self.now.passed c.turn.new.self c.turn.new.passed c.in-Ok.ensures.heeds);
      ends_heeding = not_ready c.yield_now-in-Ok.result _ pends;
    })

pub returns-in-Err-clause-value : goal.returns-in-Err-clause-value
returns-in-Err-clause-value g c =
    let w : WorkerView = c.in-Some.working in
    let was : c.args.self.now.working ≡ Some w = search rules in
    let behaviour : Behaviour = g.T.Tasks.behaviour c.args.self.now.tasks.now in
    let may_want : ℕ → ℕ → Type 0 = g.G.Gate.may_want c.args.self.now.gate.now in
    of_one c.args.self.now.working w (λ v. TellsOf behaviour may_want v c.leave.result) was
    (ends_give behaviour (g.G.Gate.may_answer c.args.self.now.gate.now w.number) may_want w c.args.self.now.passed
    (ready_one c.args.self.now.working w was c.requires) c.leave.result (c.in-Err.ensures.heeds c.leave.result c.leave.ensures))

pub returns-in-Err-clause-polled : goal.returns-in-Err-clause-polled
returns-in-Err-clause-polled g c =
    let w : WorkerView = c.in-Some.working in
    let was : c.args.self.now.working ≡ Some w = search rules in
    of_one c.args.self.now.working w _ was (record {
      once = tt;
      last = c.in-Err.ensures.turned c.leave.result c.leave.ensures;
      heeds = tt;
      held_back = tt;
      ends_heeding = c.in-Err.ensures.heeds c.leave.result c.leave.ensures;
    })
