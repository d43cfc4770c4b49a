use Rattle.std.proofs.Common.{◌≡◌, take}
use Rattle.canvas_backend.specs.Plain.{held}
use Rattle.canvas_engine.specs.steps.TurnRuns.{rows_of}
use Rattle.canvas_engine.proofs.by_turns.turn_run.TurnRun.read_rows.Given as goal

abbrev pub invariant-loop-index : goal.invariant-loop-index
invariant-loop-index l = take l.index l.rows ≡ rows_of l.index (held l.self.table)
