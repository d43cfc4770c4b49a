use Rattle.std.proofs.Common.{◌≡◌, ◌+◌, ◌-◌, ◌≤◌, length, drop}
use Rattle.std.specs.List.{prefix_len}
use Rattle.json.specs.Run.{is_plain}
use Rattle.canvas_sig.proofs.runs.plain_len.Given as goal

abbrev pub invariant-parts : goal.invariant-parts
invariant-parts l =
    (prefix_len is_plain l.bytes ≡ l.at + prefix_len is_plain (drop l.at l.bytes)) × (l.at ≤ length l.bytes)

abbrev pub decreases-parts : goal.decreases-parts
decreases-parts l = length l.bytes - l.at
