-- The states of a line's tasks, one after the other, and the tasks that the line ends in with their
-- states, as the walk finds them: the ends of a header say what flows into the body.
use Rattle.std.specs.Prelude.{ℕ, List, [], ◌∷◌, ◌++◌, Option, Some}
use Rattle.canvas_task.specs.Apply.{Behaviour}
use Rattle.canvas_task.specs.declared.outcome.Outcome.{Outcome}
use Rattle.canvas_semantics.specs.Tree.{Task, task, Tasks, no_tasks, and_task}
use Rattle.canvas_semantics.specs.Evaluation.{Flow, State, Rows, state, to_links, to_errbacks, passed_on, arguments, group_value}
use Rattle.canvas_semantics.specs.Line.{Line, stop, step, group_end, chord_end, Lines, no_lines, and_line, no_of}

module _ (behaviour : Behaviour) where
  -- the state of a task that is called with this
  abbrev pub called_state : Task → Flow → Outcome
  called_state (task k call links errbacks) x = behaviour call.name (arguments call x) call.kwargs

  abbrev pub own_state : Task → Option Flow → State
  own_state (task k call links errbacks) x = state behaviour call x

  -- a task, its links and its error callbacks
  abbrev mutual
    pub task_states : Task → Option Flow → List State
    task_states (task k call links errbacks) x =
        state behaviour call x ∷ tasks_states links (to_links (state behaviour call x))
        ++ tasks_states errbacks (to_errbacks k x (state behaviour call x))

    pub tasks_states : Tasks → Option Flow → List State
    tasks_states no_tasks x = []
    tasks_states (and_task t ts) x = task_states t x ++ tasks_states ts x

  -- what flows out of a task of a line
  abbrev pub next_flow : Task → Flow → Flow
  next_flow t x = passed_on (own_state t (Some x))

  abbrev mutual
    pub line_ends : Line → Flow → Rows
    line_ends stop x = []
    line_ends (step t stop) x = (no_of t, own_state t (Some x)) ∷ []
    line_ends (step t l) x = line_ends l (next_flow t x)
    line_ends (group_end g ms) x = lines_ends ms x
    line_ends (chord_end g ms b) x = line_ends b (group_value x (lines_ends ms x))

    pub lines_ends : Lines → Flow → Rows
    lines_ends no_lines x = []
    lines_ends (and_line m ms) x = line_ends m x ++ lines_ends ms x

  abbrev mutual
    pub line_states : Line → Flow → List State
    line_states stop x = []
    line_states (step t l) x = task_states t (Some x) ++ line_states l (next_flow t x)
    line_states (group_end g ms) x = lines_states ms x
    line_states (chord_end g ms b) x =
        lines_states ms x ++ line_states b (group_value x (lines_ends ms x))

    pub lines_states : Lines → Flow → List State
    lines_states no_lines x = []
    lines_states (and_line m ms) x = line_states m x ++ lines_states ms x

  -- ---- of lists

  abbrev pub callbacks_states : List Task → Option Flow → List State
  callbacks_states [] x = []
  callbacks_states (t ∷ ts) x = task_states t x ++ callbacks_states ts x

  -- tasks of a line, what flows out of the last, and the last of them
  abbrev pub front_states : List Task → Flow → List State
  front_states [] x = []
  front_states (t ∷ ts) x = task_states t (Some x) ++ front_states ts (next_flow t x)

  abbrev pub flow_behind : List Task → Flow → Flow
  flow_behind [] x = x
  flow_behind (t ∷ ts) x = flow_behind ts (next_flow t x)

  abbrev pub last_end : List Task → Flow → Option (ℕ × State) → Option (ℕ × State)
  last_end [] x z = z
  last_end (t ∷ ts) x z = last_end ts (next_flow t x) (Some (no_of t, own_state t (Some x)))

  abbrev pub all_states : List Line → Flow → List State
  all_states [] x = []
  all_states (l ∷ ls) x = line_states l x ++ all_states ls x

  abbrev pub all_ends : List Line → Flow → Rows
  all_ends [] x = []
  all_ends (l ∷ ls) x = line_ends l x ++ all_ends ls x
