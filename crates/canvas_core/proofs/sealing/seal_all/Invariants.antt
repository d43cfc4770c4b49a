use Rattle.std.proofs.Common.{◌≡◌, ◌++◌, map}
use Rattle.canvas_core.specs.EnvelopeWorker.{envelope_of}
use Rattle.canvas_core.proofs.sealing.seal_all.Given as goal

abbrev pub invariant-loop-message : goal.invariant-loop-message
invariant-loop-message l = map (λ s. s.envelope) l.all.items ++ map envelope_of l.message-iterator.rest.items ≡ map envelope_of l.fn.messages.items
