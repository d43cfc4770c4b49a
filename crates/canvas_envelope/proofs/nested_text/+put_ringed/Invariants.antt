use Rattle.std.proofs.Common.{length}
use Rattle.canvas_envelope.proofs.nested_text.+put_ringed.Given as goal

abbrev pub decreases-put_ringed : goal.decreases-put_ringed
decreases-put_ringed l = length l.rings.now
