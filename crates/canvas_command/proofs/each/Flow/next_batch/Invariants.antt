-- These items were read, as many as their places say.
use Rattle.std.proofs.Common.{◌≡◌, length}
use Rattle.std.specs.Io.Buffered.{reader_remaining}
use Rattle.canvas_command.specs.steps.Batches.{HasRead}
use Rattle.canvas_command.proofs.each.Flow.next_batch.Given as goal

abbrev pub invariant-loop-place : goal.invariant-loop-place
invariant-loop-place g l =
    (length l.batch.items ≡ l.place)
    × HasRead l.self.each.end (reader_remaining g.R.Read.remaining l.fn.reader) (reader_remaining g.R.Read.remaining l.reader) l.batch.items
