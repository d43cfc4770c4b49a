-- Asks and answers by short names, for runs that are written out.
use Rattle.std.proofs.Common.{ℕ, Option, None}
use Rattle.canvas_task.specs.declared.outcome.Outcome.{Outcome}
use Rattle.canvas_envelope.specs.declared.envelope.Envelope.{Envelope}
use Rattle.canvas_history.specs.declared.stored.Stored.{Stored}
use Rattle.canvas_history.specs.Table as table
use Rattle.canvas_history.specs.Queue as queue
use Rattle.canvas_runs.specs.Core.{Ask, Reply, to_queue, to_table, from_queue, from_table}

abbrev pub take : Ask Envelope
take = to_queue queue.take

abbrev pub publish : Envelope → Ask Envelope
publish e = to_queue (queue.publish e)

abbrev pub store : ℕ → Outcome → Ask Envelope
store t o = to_table (table.store t o)

abbrev pub part : ℕ → ℕ → Ask Envelope
part g t = to_table (table.part g t)

abbrev pub read : ℕ → Ask Envelope
read t = to_table (table.read t)

abbrev pub taken : Option Envelope → Reply Envelope
taken x = from_queue x

abbrev pub sent : Reply Envelope
sent = from_queue None

abbrev pub stored : Stored → Reply Envelope
stored b = from_table (table.was b)

abbrev pub counted : ℕ → Reply Envelope
counted n = from_table (table.count n)

abbrev pub found : Option Outcome → Reply Envelope
found x = from_table (table.found x)
