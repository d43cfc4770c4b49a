-- What each task of a run comes after: the tasks whose ends its message waits for. A message
-- carries all that follows its task (Celery's task message protocol, version 2: `chain`,
-- `callbacks`, `errbacks` and `chord` of the body's embed), so a message is carried by all that
-- comes before it. A front has the last of these that are called: the task before it on its line,
-- the task whose link or error callback it is, and each last task of a header's members. All others
-- are those that these come after themselves: a chain of n tasks has n - 1 in all.
use Rattle.std.specs.Prelude.{ℕ, zero, suc, Bool, true, false, if◌then◌else◌, List, [], ◌∷◌, ◌++◌, Option, Some, None, slice_get}
use Rattle.canvas_task.specs.Apply.{Behaviour}
use Rattle.canvas_semantics.specs.Tree.{Task, task, Tasks, no_tasks, and_task}
use Rattle.canvas_semantics.specs.Line.{Line, stop, step, group_end, chord_end, Lines, no_lines, and_line, no_of}
use Rattle.canvas_report.specs.Fates.{Fates, fate_at}
use Rattle.canvas_report.specs.declared.fate.Fate.{Fate}
use Rattle.canvas_report.specs.declared.fate.Fate.TheVariants.{Ran, Skipped, Idle}
use Rattle.canvas_ran.specs.Ran.{fates}
use Rattle.canvas_ran.specs.declared.calls.front.Front.{Front}

abbrev pub has_run : Option Fate → Bool
has_run None = false
has_run (Some Ran) = true
has_run (Some (Skipped d)) = false
has_run (Some Idle) = false

abbrev pub was_called : Fates → ℕ → Bool
was_called fates k = has_run (fate_at fates k)

-- the front of the tasks that a run starts with
abbrev pub first_front : Front
first_front = record { after = []; header_after = None }

abbrev pub at_end : ℕ → Front
at_end k = record { after = k ∷ []; header_after = None }

-- these, or the others if there are none
abbrev pub or_else : List ℕ → List ℕ → List ℕ
or_else [] before = before
or_else (k ∷ ks) before = k ∷ ks

-- after a header that has this front, and whose members end after these tasks: none for an empty
-- header and for one that isn't called
abbrev pub beyond : List ℕ → Front → Front
beyond [] front = front
beyond (k ∷ ks) front = record { after = k ∷ ks; header_after = Some front.after }

module _ (fates : Fates) where
  -- after task k, which has this front
  abbrev pub behind : ℕ → Front → Front
  behind k front = if was_called fates k then at_end k else front

  abbrev pub own_end : ℕ → List ℕ → List ℕ
  own_end k before = if was_called fates k then k ∷ [] else before

  -- the tasks after whose ends the end of a line comes, if the line comes after these
  abbrev mutual
    pub line_end : Line → List ℕ → List ℕ
    line_end stop before = before
    line_end (step t rest) before = line_end rest (own_end (no_of t) before)
    line_end (group_end g ms) before = or_else (lines_end ms) before
    line_end (chord_end g ms body) before = line_end body (or_else (lines_end ms) before)

    pub lines_end : Lines → List ℕ
    lines_end no_lines = []
    lines_end (and_line m ms) = line_end m [] ++ lines_end ms

  -- the fronts of a task, its links and its error callbacks, in the order of the file
  abbrev mutual
    pub task_fronts : Task → Front → List Front
    task_fronts (task k call links errbacks) front =
        front ∷ tasks_fronts links (behind k front) ++ tasks_fronts errbacks (behind k front)

    pub tasks_fronts : Tasks → Front → List Front
    tasks_fronts no_tasks front = []
    tasks_fronts (and_task t ts) front = task_fronts t front ++ tasks_fronts ts front

  -- the fronts of the tasks of a line that has this front
  abbrev mutual
    pub line_fronts : Line → Front → List Front
    line_fronts stop front = []
    line_fronts (step t rest) front =
        task_fronts t front ++ line_fronts rest (behind (no_of t) front)
    line_fronts (group_end g ms) front = lines_fronts ms front
    line_fronts (chord_end g ms body) front =
        lines_fronts ms front ++ line_fronts body (beyond (lines_end ms) front)

    pub lines_fronts : Lines → Front → List Front
    lines_fronts no_lines front = []
    lines_fronts (and_line m ms) front = line_fronts m front ++ lines_fronts ms front

-- the fronts of a plan's tasks; the i-th is that of task i
abbrev pub fronts : Behaviour → Line → List Front
fronts behaviour l = line_fronts (fates behaviour l) l first_front

-- the front of a task
abbrev pub front_at : List Front → ℕ → Option Front
front_at found zero = None
front_at found (suc k) = slice_get found k

abbrev pub known_front : Option Front → Front
known_front None = first_front
known_front (Some front) = front

abbrev pub front_of : List Front → ℕ → Front
front_of found k = known_front (front_at found k)
