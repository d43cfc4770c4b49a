use Rattle.std.proofs.Common.{◌≡◌, ◌+◌, drop}
use Rattle.canvas_celery.specs.Signatures.{index_of}
use Rattle.canvas_celery.proofs.commands.write.names.index_among.Given as goal

abbrev pub invariant-loop-index : goal.invariant-loop-index
invariant-loop-index l = index_of l.task l.tasks ≡ l.index + index_of l.task (drop l.index l.tasks)
