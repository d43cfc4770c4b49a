use Rattle.std.proofs.Common.{◌≡◌, length, drop}
use Rattle.canvas_backend.specs.steps.Homes.{moved_in}
use Rattle.canvas_backend.proofs.roster.move_in.Given as goal

abbrev pub invariant-loop-task : goal.invariant-loop-task
invariant-loop-task l = record {
  many : length l.homes.items ≡ length l.fn.homes.items;
  moved : moved_in l.homes.items l.group (drop l.task-index l.members) ≡ moved_in l.fn.homes.items l.group l.members;
}
