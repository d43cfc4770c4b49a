use Rattle.std.proofs.Common.{◌≡◌, map, take}
use Rattle.canvas_task.specs.declared.arg.Arg.TheVariants.{Num}
use Rattle.canvas_values.proofs.task_sig.numbers_as_args.Given as goal

abbrev pub invariant-loop-number : goal.invariant-loop-number
invariant-loop-number l = l.args.items ≡ map Num (take l.number-index l.numbers)
