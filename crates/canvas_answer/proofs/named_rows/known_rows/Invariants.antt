use Rattle.std.proofs.Common.{◌≡◌, ◌++◌, drop}
use Rattle.canvas_answer.specs.Told.{known_states}
use Rattle.canvas_answer.proofs.named_rows.known_rows.Given as goal

-- the rows so far, and those to come
abbrev pub invariant-loop-state : goal.invariant-loop-state
invariant-loop-state l = l.rows.items ++ known_states (drop l.state-index l.state-items) ≡ known_states l.report.rows
