use Rattle.std.proofs.Common.{◌≡◌, ◌+◌, ◌++◌, map, drop}
use Rattle.canvas_values.specs.SignatureView.{task_view}
use Rattle.canvas_semantics.specs.steps.Numbering.{tasks_in}
use Rattle.canvas_adapt.specs.steps.Renaming.{tasks_renamed}
use Rattle.canvas_adapt.proofs.renaming.+tasks.Given as goal

-- the copies so far, with those still to come from the next number on, are all
abbrev pub invariant-rename_tasks-loop-sig : goal.invariant-rename_tasks-loop-sig
invariant-rename_tasks-loop-sig l =
    (l.next + tasks_in (map task_view (drop l.sig-index l.sigs)) ≡ l.fn.next + tasks_in (map task_view l.sigs))
    × (map task_view l.copies.items ++ tasks_renamed l.renames l.next (map task_view (drop l.sig-index l.sigs))
    ≡ tasks_renamed l.renames l.fn.next (map task_view l.sigs))
