use Rattle.std.proofs.Common.{◌≡◌, List, ◌++◌}
use Rattle.canvas_task.specs.Entries.{named}
use Rattle.canvas_task.proofs.Copies.{Entry}
use Rattle.canvas_task.proofs.arg.copy_entries.Given as goal

-- the entries so far, those that are left, and the copy of the former
abbrev pub invariant-loop-name : goal.invariant-loop-name
invariant-loop-name l =
    (done : List Entry) × (l.map.entries ≡ done ++ l.name-iterator) × (named l.copy.items ≡ named done)
