use Rattle.std.proofs.Common.{◌≡◌, ◌++◌}
use Rattle.canvas_envelope.proofs.kept.entries_of.Given as goal

-- the entries that are in the list, and those that are left
abbrev pub invariant-loop-entry : goal.invariant-loop-entry
invariant-loop-entry l = l.fn.map.entries ≡ l.entries.items ++ l.entry-iterator
