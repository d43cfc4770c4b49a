-- These items were read, and their lines are printed.
use Rattle.std.specs.Io.Buffered.{reader_remaining}
use Rattle.canvas_answer.specs.Asking.{asking}
use Rattle.canvas_command.specs.steps.Batches.{AreDone}
use Rattle.canvas_command.proofs.each.answer_each.Given as goal

abbrev pub invariant-loop : goal.invariant-loop
invariant-loop g l =
    AreDone (g.T.Tasks.behaviour l.flow.tasks.now.tasks.now) l.flow.tasks.now.stubs.items (asking l.flow.setting) l.flow.each.has_tasks l.flow.each.end
    (reader_remaining g.R.Read.remaining l.fn.reader) (reader_remaining g.R.Read.remaining l.reader)
    (g.W.Write.contents l.fn.out) (g.W.Write.contents l.out) l.failed
