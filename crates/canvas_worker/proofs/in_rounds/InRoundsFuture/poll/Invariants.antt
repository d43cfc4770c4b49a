use Rattle.futures.specs.Task.{Keeps}
use Rattle.canvas_worker.proofs.in_rounds.InRoundsFuture.poll.Given as goal

abbrev pub invariant-loop : goal.invariant-loop
invariant-loop g l =
    g.F.Future.can_poll l.self.future × Keeps l.initial.cx l.cx × ((x : _) → g.F.Future.gives l.self.future x → g.F.Future.gives l.initial.self.future x)
