use Rattle.std.proofs.Common.{◌≡◌, drop}
use Rattle.canvas_adapt.specs.Renamed.{name_for}
use Rattle.canvas_adapt.proofs.renames.name_of.Given as goal

abbrev pub invariant-loop-rename : goal.invariant-loop-rename
invariant-loop-rename l = name_for (drop l.rename-index l.renames) l.task ≡ name_for l.renames l.task
