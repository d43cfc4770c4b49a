-- What one answered ask adds to a count of calls.
use Rattle.std.proofs.Common.{ℕ, [], ◌∷◌}
use Rattle.canvas_envelope.specs.declared.envelope.Envelope.{Envelope}
use Rattle.canvas_runs.specs.Calls.{QueueAnswered, TableAnswered, broker_calls, backend_calls}
use Rattle.canvas_history.specs.Lists.{total}
use Rattle.canvas_core.specs.Asks.{Asked, Answer}

-- of the queue, and of the table
abbrev pub of_queue : (QueueAnswered Envelope → ℕ) → Asked → Answer → ℕ
of_queue w a r = total w (broker_calls ((a, r) ∷ []))

abbrev pub of_table : (TableAnswered → ℕ) → Asked → Answer → ℕ
of_table w a r = total w (backend_calls ((a, r) ∷ []))
