use Rattle.std.proofs.Common.{◌≡◌, ◌≤◌, length, take, drop}
use Rattle.std.specs.Str.{bytes_eq}
use Rattle.canvas_sig.proofs.plain.begins_with.Given as goal

abbrev pub invariant-bytes : goal.invariant-bytes
invariant-bytes l =
    (l.same ≡ bytes_eq (drop l.left l.name) (drop l.left (take (length l.name) l.text))) × (l.left ≤ length l.name)

abbrev pub decreases-bytes : goal.decreases-bytes
decreases-bytes l = l.left
