use Rattle.std.proofs.Common.{◌≡◌, List, String, Global, ◌++◌}
use Rattle.canvas_task.specs.Entries.{named}
use Rattle.canvas_task.specs.declared.arg.Arg.{Arg}
use Rattle.canvas_envelope.proofs.kept.map_of.Given as goal

-- the entries that are in the map, and those that are left
abbrev pub invariant-loop-name : goal.invariant-loop-name
invariant-loop-name l =
    (done : List (String Global × Arg)) × (l.fn.entries.items ≡ done ++ l.name-iterator.rest.items) × (named l.map.entries ≡ named done)
