use Rattle.std.proofs.Common.{◌≡◌, ◌+◌, ◌-◌, ◌≤◌, length, drop}
use Rattle.std.specs.List.{prefix_len}
use Rattle.std.specs.Char.{is_ascii_digit}
use Rattle.canvas_sig.proofs.runs.digits_len.Given as goal

abbrev pub invariant-digits : goal.invariant-digits
invariant-digits l =
    (prefix_len is_ascii_digit l.bytes ≡ l.count + prefix_len is_ascii_digit (drop l.count l.bytes))
    × (l.count ≤ length l.bytes)

abbrev pub decreases-digits : goal.decreases-digits
decreases-digits l = length l.bytes - l.count
