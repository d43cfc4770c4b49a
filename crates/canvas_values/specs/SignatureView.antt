-- The data that contracts see of signatures (Celery user guide, Canvas: signatures). Nothing is
-- numbered yet: each number is 0.
use Rattle.std.specs.Prelude.{ℕ, ℤ, List, [], ◌∷◌, map, false}
use Rattle.canvas_task.specs.declared.arg.Arg.TheVariants.{Num}
use Rattle.canvas_semantics.specs.Tree.{Task, task, Tasks, no_tasks, and_task, Tree, one, chain, group, chord, Trees, no_trees, and_tree}
use Rattle.canvas_values.specs.declared.task_sig.TaskSig.{TaskSig, fold-TaskSig}
use Rattle.canvas_values.specs.declared.task_sig.TaskSig.TheOpen.{TaskSig-F}
use Rattle.canvas_values.specs.declared.node.Node.{Node, fold-Node}
use Rattle.canvas_values.specs.declared.node.Node.TheOpen.{Node-F}

abbrev pub tasks_of : List Task → Tasks
tasks_of [] = no_tasks
tasks_of (t ∷ ts) = and_task t (tasks_of ts)

abbrev pub trees_of : List Tree → Trees
trees_of [] = no_trees
trees_of (t ∷ ts) = and_tree t (trees_of ts)

abbrev pub task_step : TaskSig-F Task → Task
task_step s =
    task 0 (record { name = s.name; args = s.args; kwargs = s.kwargs; immutable = s.immutable })
    (tasks_of s.links) (tasks_of s.errbacks)

abbrev pub task_view : TaskSig → Task
task_view = fold-TaskSig Task task_step

-- one level, with each nested signature already seen as its data
abbrev pub one_level : Node-F Tree → Tree
one_level (Node-F.Task t) = one (task_view t)
one_level (Node-F.Chain ns) = chain (trees_of ns)
one_level (Node-F.Group ns) = group 0 (trees_of ns)
one_level (Node-F.Chord header body) = chord 0 (trees_of header) body.value

abbrev pub view : Node → Tree
view = fold-Node Tree one_level

-- a call with only these numbers, as Celery's `s()` makes one
abbrev pub call_of : List ℕ → List ℤ → Task
call_of name numbers =
    task 0 (record { name = name; args = map Num numbers; kwargs = []; immutable = false }) no_tasks
    no_tasks
