-- The refusals of a composed canvas (Celery's signatures): a text can have each of these faults
-- too, and is then refused for the same reason. The other refusals of a text are about its JSON.
use Rattle.std.specs.Prelude.{Bool, true, not, ◌&&◌, Option, Some, None, Result, Ok, Err}
use Rattle.std.specs.List.{list_all}
use Rattle.canvas_task.specs.Name.{name_ok}
use Rattle.canvas_task.specs.Numbers.{in_range}
use Rattle.canvas_task.specs.declared.arg.Arg.{Arg}
use Rattle.canvas_task.specs.declared.arg.Arg.TheVariants as arg
use Rattle.canvas_values.specs.declared.fault.SigFault.{SigFault}
use Rattle.canvas_values.specs.declared.fault.SigFault.TheVariants.{NotSignature, BadNumber, EmptyChain}
use Rattle.canvas_values.specs.LimitRefusals.{tree_fault}
use Rattle.canvas_values.specs.Answers.{◌or_else◌, fault_if}
use Rattle.canvas_semantics.specs.Tree.{Call, Task, task, Tasks, no_tasks, and_task, Tree, one, chain, group, chord, Trees, no_trees, and_tree}

-- the fault that a check found
abbrev pub refusal_of : Result (Unit {0}) SigFault → Option SigFault
refusal_of (Ok x) = None
refusal_of (Err e) = Some e

-- each number in it is in range
abbrev pub arg_ok : Arg → Bool
arg_ok (arg.Num n) = in_range n
arg_ok (arg.List ns) = list_all in_range ns
arg_ok (arg.Text s) = true

abbrev pub call_numbers_ok : Call → Bool
call_numbers_ok c = list_all arg_ok c.args && list_all (λ e. arg_ok e.1) c.kwargs

abbrev pub call_fault : Call → Option SigFault
call_fault c =
    fault_if (not (name_ok c.name)) NotSignature
    or_else fault_if (not (call_numbers_ok c)) BadNumber

abbrev pub its_call : Task → Call
its_call (task k call links errbacks) = call

-- A signature comes before those nested in it, and these in their order; the first with a fault
-- decides.
abbrev mutual
  pub task_fault : Task → Option SigFault
  task_fault (task k call links errbacks) =
      call_fault call or_else tasks_fault links or_else tasks_fault errbacks

  pub tasks_fault : Tasks → Option SigFault
  tasks_fault no_tasks = None
  tasks_fault (and_task t ts) = task_fault t or_else tasks_fault ts

abbrev mutual
  pub signatures_fault : Tree → Option SigFault
  signatures_fault (one t) = task_fault t
  signatures_fault (chain no_trees) = Some EmptyChain
  signatures_fault (chain (and_tree t ts)) = signatures_fault t or_else all_fault ts
  signatures_fault (group g ms) = all_fault ms
  signatures_fault (chord g h b) = all_fault h or_else signatures_fault b

  pub all_fault : Trees → Option SigFault
  all_fault no_trees = None
  all_fault (and_tree t ts) = signatures_fault t or_else all_fault ts

-- the first refusal of a composed canvas, or none
abbrev pub node_fault : Tree → Option SigFault
node_fault c = signatures_fault c or_else tree_fault c
