-- The envelopes that a worker took and has not given to its core, and whether its next take is of
-- one envelope.
use Rattle.std.specs.Prelude.{Bool, true, false, List, []}
use Rattle.canvas_envelope.specs.declared.envelope.Envelope.{Envelope}
use Rattle.canvas_worker.specs.declared.source.Source.{Source}
use Rattle.canvas_worker.specs.declared.source.Source.TheVariants.{First, Batched, Alone}

abbrev pub held_in : Source → List Envelope
held_in (Batched b) = b
held_in s = []

abbrev pub alone_in : Source → Bool
alone_in First = true
alone_in Alone = true
alone_in s = false
