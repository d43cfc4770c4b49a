-- The meaning of a canvas: a state for each task, and a flow out (Celery user guide, Canvas: a
-- result is the next task's first argument unless that is immutable; links run on a success, error
-- callbacks on a failure; a chord's body gets the list of its header's results, or a ChordError).
-- The behaviour of the tasks is a parameter.
use Rattle.std.specs.Prelude.{ℕ, ◌==◌, if◌then◌else◌, List, [], ◌∷◌, ◌++◌, map, Option, Some, None, ℤ}
use Rattle.canvas_task.specs.declared.arg.Arg.{Arg}
use Rattle.canvas_task.specs.declared.arg.Arg.TheVariants as arg
use Rattle.canvas_task.specs.declared.outcome.Why.{Why}
use Rattle.canvas_task.specs.declared.outcome.Why.TheVariants as why
use Rattle.canvas_task.specs.declared.outcome.Fault.{Fault}
use Rattle.canvas_task.specs.declared.outcome.Fault.TheVariants as fault
use Rattle.canvas_task.specs.declared.outcome.Outcome.{Outcome}
use Rattle.canvas_task.specs.declared.outcome.Outcome.TheVariants.{Success, Failure}
use Rattle.canvas_task.specs.Apply.{Behaviour}
use Rattle.canvas_task.specs.Identifiers.{task_text}
use Rattle.canvas_semantics.specs.Tree.{Call, Task, task, Tasks, no_tasks, and_task, Tree, one, chain, group, chord, Trees, no_trees, and_tree, numbered}

-- The input of an element: nothing, a number, a list of numbers, the identifier of a task as text,
-- an exception that skips, or an exception that is raised.
pub data Flow : Type 0 where
  nothing : Flow
  num : ℤ → Flow
  list : List ℤ → Flow
  id : ℕ → Flow
  skip : Fault → Flow
  raised : Fault → Flow

-- an outcome, or none while the task is pending
abbrev pub State : Type 0
State = Option Outcome

-- the states of tasks, each with its task's number
abbrev pub Rows : Type 0
Rows = List (ℕ × State)

-- the result of evaluating an element
pub record Meaning : Type 0 where
  pub rows : Rows
  pub out : Flow

-- ---- arguments

-- the value of a flow as an argument
abbrev pub value : Flow → List Arg
value nothing = []
value (num n) = arg.Num n ∷ []
value (list ns) = arg.List ns ∷ []
value (id k) = arg.Text (task_text k) ∷ []
value (skip f) = []
value (raised f) = []

-- the value of the flow and then a task's own arguments, or only these if the task is immutable
abbrev pub arguments : Call → Flow → List Arg
arguments call x = if call.immutable then call.args else value x ++ call.args

-- ---- one task

-- links run on the number of a success
abbrev pub to_links : State → Option Flow
to_links (Some (Success n)) = Some (num n)
to_links s = None

-- error callbacks run on the identifier of a task that failed and wasn't skipped
abbrev pub to_errbacks : ℕ → Option Flow → State → Option Flow
to_errbacks k (Some (skip f)) s = None
to_errbacks k x (Some (Failure f)) = Some (id k)
to_errbacks k x s = None

-- the flow out of a task
abbrev pub passed_on : State → Flow
passed_on (Some (Success n)) = num n
passed_on (Some (Failure f)) = skip f
passed_on None = nothing

-- the state of a task for a flow; a task that gets no flow is pending
abbrev pub state : Behaviour → Call → Option Flow → State
state behaviour call None = None
state behaviour call (Some (skip f)) = Some (Failure f)
state behaviour call (Some (raised f)) = Some (Failure f)
state behaviour call (Some x) = Some (behaviour call.name (arguments call x) call.kwargs)

module _ (behaviour : Behaviour) where
  abbrev mutual
    pub task_rows : Task → Option Flow → Rows
    task_rows (task k call links errbacks) x =
        (k, state behaviour call x) ∷ tasks_rows links (to_links (state behaviour call x))
        ++ tasks_rows errbacks (to_errbacks k x (state behaviour call x))

    pub tasks_rows : Tasks → Option Flow → Rows
    tasks_rows no_tasks x = []
    tasks_rows (and_task t ts) x = task_rows t x ++ tasks_rows ts x

  abbrev pub task_meaning : Task → Flow → Meaning
  task_meaning (task k call links errbacks) x =
      record {
        rows = task_rows (task k call links errbacks) (Some x);
        out = passed_on (state behaviour call (Some x));
      }

-- ---- the ends of an element, and the flow out of a group

-- the task, the ends of a chain's last element, of a group's members in order, or of a chord's body
abbrev mutual
  pub ends : Tree → List ℕ
  ends (one (task k call links errbacks)) = k ∷ []
  ends (chain ts) = last_ends ts
  ends (group g ms) = all_ends ms
  ends (chord g h b) = ends b

  pub last_ends : Trees → List ℕ
  last_ends no_trees = []
  last_ends (and_tree t no_trees) = ends t
  last_ends (and_tree t ts) = last_ends ts

  pub all_ends : Trees → List ℕ
  all_ends no_trees = []
  all_ends (and_tree t ts) = ends t ++ all_ends ts

-- the state of a task among the rows
abbrev pub state_of : ℕ → Rows → State
state_of k [] = None
state_of k (row ∷ rows) = if row.0 == k then row.1 else state_of k rows

abbrev pub with_states : Rows → List ℕ → Rows
with_states rows ks = map (λ k. (k, state_of k rows)) ks

abbrev pub why_of : Fault → Why
why_of (fault.Plain kind) = why.Plain kind
why_of (fault.Chord dep _) = why.Chord

-- prepends a number to a list that flows
abbrev pub in_front : ℤ → Flow → Flow
in_front n (list ns) = list (n ∷ ns)
in_front n x = x

-- The list of the results of the members' ends, in order. If one failed, a ChordError instead,
-- which names the first that failed and the kind of its exception.
abbrev pub gathered : Rows → Flow
gathered [] = list []
gathered ((k, Some (Success n)) ∷ es) = in_front n (gathered es)
gathered ((k, Some (Failure f)) ∷ es) = raised (fault.Chord k (why_of f))
gathered ((k, None) ∷ es) = gathered es

-- the flow out of a group that got the flow x, from its members' ends
abbrev pub group_value : Flow → Rows → Flow
group_value (skip f) es = skip f
group_value (raised f) [] = raised f
group_value x es = gathered es

-- ---- elements

-- a meaning with rows put in front of its own
abbrev pub behind : Rows → Meaning → Meaning
behind rows m = record { rows = rows ++ m.rows; out = m.out }

-- the flow out of the first goes into the next
abbrev pub and_then : Meaning → (Flow → Meaning) → Meaning
and_then first next = behind first.rows (next first.out)

-- the members as a group, with their rows
abbrev pub as_group : Flow → Trees → Rows → Meaning
as_group x ms rows = record { rows = rows; out = group_value x (with_states rows (all_ends ms)) }

module _ (behaviour : Behaviour) where
  abbrev mutual
    pub eval : Tree → Flow → Meaning
    eval (one t) x = task_meaning behaviour t x
    eval (chain ts) x = eval_chain ts x
    eval (group g ms) x = as_group x ms (member_rows ms x)
    eval (chord g h b) x = and_then (as_group x h (member_rows h x)) (eval b)

    pub eval_chain : Trees → Flow → Meaning
    eval_chain no_trees x = record { rows = []; out = x }
    eval_chain (and_tree t ts) x = and_then (eval t x) (eval_chain ts)

    -- each member gets the group's flow
    pub member_rows : Trees → Flow → Rows
    member_rows no_trees x = []
    member_rows (and_tree t ts) x = (eval t x).rows ++ member_rows ts x

  -- the states of a canvas by number, and its result
  abbrev pub meaning : Tree → Rows
  meaning c = (eval (numbered c) nothing).rows

  abbrev pub result : Tree → Rows
  result c = with_states (meaning c) (ends (numbered c))
