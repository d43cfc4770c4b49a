use Rattle.std.proofs.Common.{◌-◌, length}
use Rattle.std.specs.Str.{IsCharBoundary}
use Rattle.canvas_sig.proofs.runs.numeral_len.Given as goal

abbrev pub invariant-bytes : goal.invariant-bytes
invariant-bytes l = IsCharBoundary l.text l.count

abbrev pub decreases-bytes : goal.decreases-bytes
decreases-bytes l = length l.bytes - l.count
