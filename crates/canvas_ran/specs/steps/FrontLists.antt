-- The fronts of lists of tasks and of lines, one after another.
use Rattle.std.specs.Prelude.{ℕ, List, [], ◌∷◌, ◌++◌, Option, Some, None, Box}
use Rattle.std.specs.declared.alloc.Global.{Global}
use Rattle.canvas_rewrite.specs.FrozenView.{end_in}
use Rattle.canvas_rewrite.specs.declared.frozen.FrozenEnd.{FrozenEnd}
use Rattle.canvas_semantics.specs.Tree.{Task}
use Rattle.canvas_semantics.specs.Line.{Line, no_of}
use Rattle.canvas_report.specs.Fates.{Fates}
use Rattle.canvas_ran.specs.Fronts.{behind, line_end, line_fronts, own_end, task_fronts}
use Rattle.canvas_ran.specs.declared.calls.front.Front.{Front}

module _ (fates : Fates) where
  abbrev pub callbacks_fronts : List Task → Front → List Front
  callbacks_fronts [] front = []
  callbacks_fronts (t ∷ ts) front = task_fronts fates t front ++ callbacks_fronts ts front

  abbrev pub front_behind : List Task → Front → Front
  front_behind [] front = front
  front_behind (t ∷ ts) front = front_behind ts (behind fates (no_of t) front)

  abbrev pub tasks_fronts_of : List Task → Front → List Front
  tasks_fronts_of [] front = []
  tasks_fronts_of (t ∷ ts) front =
      task_fronts fates t front ++ tasks_fronts_of ts (behind fates (no_of t) front)

  abbrev pub lines_fronts_of : List Line → Front → List Front
  lines_fronts_of [] front = []
  lines_fronts_of (l ∷ ls) front = line_fronts fates l front ++ lines_fronts_of ls front

  abbrev pub tail_fronts : Option (Box FrozenEnd Global) → Front → List Front
  tail_fronts None front = []
  tail_fronts (Some end) front = line_fronts fates (end_in end.value) front

  abbrev pub tasks_end : List Task → List ℕ → List ℕ
  tasks_end [] before = before
  tasks_end (t ∷ ts) before = tasks_end ts (own_end fates (no_of t) before)

  abbrev pub lines_ends : List Line → List ℕ
  lines_ends [] = []
  lines_ends (l ∷ ls) = line_end fates l [] ++ lines_ends ls
