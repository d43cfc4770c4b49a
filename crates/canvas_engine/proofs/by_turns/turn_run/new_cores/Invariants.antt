use Rattle.std.proofs.Common.{◌≡◌, length}
use Rattle.canvas_engine.specs.steps.TurnRuns.{AreNew}
use Rattle.canvas_engine.proofs.by_turns.turn_run.new_cores.Given as goal

abbrev pub invariant-loop-worker : goal.invariant-loop-worker
invariant-loop-worker l = (length l.cores.items ≡ l._worker) × AreNew l.cores.items
