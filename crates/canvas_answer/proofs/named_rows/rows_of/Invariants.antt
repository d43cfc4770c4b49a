use Rattle.std.proofs.Common.{◌≡◌}
use Rattle.canvas_answer.specs.steps.Classes.{class_at}
use Rattle.canvas_answer.proofs.ShownRows.{AreSoFar}
use Rattle.canvas_answer.proofs.named_rows.rows_of.Given as goal

-- the rows of the tasks so far
abbrev pub invariant-loop-state : goal.invariant-loop-state
invariant-loop-state l = (l.state-items ≡ l.report.rows) × AreSoFar (λ k. class_at l.classes k) l.state-items l.rows.items l.state-index
