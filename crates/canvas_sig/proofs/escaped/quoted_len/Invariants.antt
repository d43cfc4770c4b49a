use Rattle.std.proofs.Common.{◌≡◌, ◌+◌, ◌-◌, ◌≤◌, length, drop}
use Rattle.json.specs.Lex.{in_string, lex}
use Rattle.canvas_sig.proofs.escaped.quoted_len.Given as goal

-- a backslash may be the last byte
abbrev pub invariant-parts : goal.invariant-parts
invariant-parts l = (lex in_string (drop 1 l.text) ≡ lex in_string (drop l.at l.text)) × (l.at ≤ length l.text + 1)

abbrev pub decreases-parts : goal.decreases-parts
decreases-parts l = length l.bytes + 1 - l.at
