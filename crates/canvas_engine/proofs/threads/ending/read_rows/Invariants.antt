use Rattle.std.proofs.Common.{◌≡◌, take}
use Rattle.canvas_runs.specs.Following.{Serves}
use Rattle.canvas_runs.specs.CallerRows.{reads_from}
use Rattle.canvas_engine.proofs.threads.ending.read_rows.Given as goal

abbrev pub invariant-loop-index : goal.invariant-loop-index
invariant-loop-index l = (l.seat.of ≡ l.backend.id) × Serves l.backend.plan l.fn.seat (reads_from 1 (take l.index l.rows)) l.seat
