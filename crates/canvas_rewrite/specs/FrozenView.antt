-- The data that contracts see of lines without numbers, and of numbered lines with their places
-- (Celery's `Signature.freeze`: identifiers, and where results go, before anything runs).
use Rattle.std.specs.Prelude.{ℕ, List, [], ◌∷◌, map, Option, Some, None, Box}
use Rattle.std.specs.declared.alloc.Global.{Global}
use Rattle.canvas_semantics.specs.Tree.{Task}
use Rattle.canvas_values.specs.SignatureView.{task_view}
use Rattle.canvas_semantics.specs.Line.{Line, stop, step, group_end, chord_end, Lines, no_lines, and_line}
use Rattle.canvas_semantics.specs.PlacedLine.{PTask, p_task, PTasks, no_p_tasks, and_p_task, PPlace, p_nowhere, p_group, p_chord, PLine, p_stop, p_step, p_group_end, p_chord_end, PLines, no_p_lines, and_p_line, strip_task, strip}
use Rattle.canvas_rewrite.specs.declared.line.Line as the_line
use Rattle.canvas_rewrite.specs.declared.line.LineEnd as the_end
use Rattle.canvas_rewrite.specs.declared.line.Line.TheOpen.{Line-F, LineEnd-F}
use Rattle.canvas_rewrite.specs.declared.frozen.FrozenTask as frozen_task
use Rattle.canvas_rewrite.specs.declared.frozen.FrozenLine as frozen_line
use Rattle.canvas_rewrite.specs.declared.frozen.FrozenEnd as frozen_end
use Rattle.canvas_rewrite.specs.declared.frozen.Carried.TheOpen.{FrozenTask-F, Place-F, Carried-F, FrozenLine-F, FrozenEnd-F}

-- ---- lines without numbers: each number is 0

abbrev pub steps_onto : List Task → Line → Line
steps_onto [] l = l
steps_onto (t ∷ ts) l = step t (steps_onto ts l)

abbrev pub lines_of : List Line → Lines
lines_of [] = no_lines
lines_of (l ∷ ls) = and_line l (lines_of ls)

abbrev pub tail_of : Option (Box Line Global) → Line
tail_of None = stop
tail_of (Some e) = e.value

abbrev pub ended : List Line → Option Line → Line
ended ms None = group_end 0 (lines_of ms)
ended ms (Some b) = chord_end 0 (lines_of ms) b

abbrev pub line_step : Line-F Line Line → Line
line_step l = steps_onto (map task_view l.tasks) (tail_of l.tail)

abbrev pub end_step : LineEnd-F Line Line → Line
end_step e = ended e.members e.body

abbrev pub line_of : the_line.Line → Line
line_of = the_line.fold-Line Line Line line_step end_step

abbrev pub end_of : the_end.LineEnd → Line
end_of = the_end.fold-LineEnd Line Line line_step end_step

-- ---- numbered lines

abbrev pub p_tasks_of : List PTask → PTasks
p_tasks_of [] = no_p_tasks
p_tasks_of (t ∷ ts) = and_p_task t (p_tasks_of ts)

abbrev pub p_steps : List PTask → PLine → PLine
p_steps [] l = l
p_steps (t ∷ ts) l = p_step t (p_steps ts l)

abbrev pub p_lines_of : List PLine → PLines
p_lines_of [] = no_p_lines
p_lines_of (l ∷ ls) = and_p_line l (p_lines_of ls)

abbrev pub p_tail_of : Option (Box PLine Global) → PLine
p_tail_of None = p_stop
p_tail_of (Some e) = e.value

abbrev pub p_ended : ℕ → List PLine → Option PLine → PLine
p_ended g ms None = p_group_end g (p_lines_of ms)
p_ended g ms (Some b) = p_chord_end g (p_lines_of ms) b

abbrev pub place_or : Option PPlace → PPlace
place_or None = p_nowhere
place_or (Some p) = p

-- the size and the body that a chord's member carries
pub record PCarried : Type 0 where
  pub size : ℕ
  pub body : PLine

abbrev pub place_carrying : ℕ → Option PCarried → PPlace
place_carrying g None = p_group g
place_carrying g (Some c) = p_chord g c.size c.body

abbrev pub carried_step : Carried-F PCarried PLine PLine PTask PPlace → PCarried
carried_step c = record { size = c.size; body = c.body.value }

abbrev pub p_end_step : FrozenEnd-F PCarried PLine PLine PTask PPlace → PLine
p_end_step e = p_ended e.group e.members e.body

abbrev pub p_line_step : FrozenLine-F PCarried PLine PLine PTask PPlace → PLine
p_line_step l = p_steps l.tasks (p_tail_of l.tail)

abbrev pub p_task_step : FrozenTask-F PCarried PLine PLine PTask PPlace → PTask
p_task_step t =
    p_task t.no
    (record { name = t.name; args = t.args; kwargs = t.kwargs; immutable = t.immutable })
    (p_tasks_of t.links) (p_tasks_of t.errbacks) (place_or t.place)

abbrev pub place_step : Place-F PCarried PLine PLine PTask PPlace → PPlace
place_step p = place_carrying p.group p.chord

abbrev pub p_task_view : frozen_task.FrozenTask → PTask
p_task_view =
    frozen_task.fold-FrozenTask PCarried PLine PLine PTask PPlace
    carried_step p_end_step p_line_step
    p_task_step place_step

abbrev pub p_line_view : frozen_line.FrozenLine → PLine
p_line_view =
    frozen_line.fold-FrozenLine PCarried PLine PLine PTask PPlace
    carried_step p_end_step p_line_step
    p_task_step place_step

abbrev pub p_end_view : frozen_end.FrozenEnd → PLine
p_end_view =
    frozen_end.fold-FrozenEnd PCarried PLine PLine PTask PPlace carried_step p_end_step p_line_step
    p_task_step place_step

-- without places
abbrev pub task_in : frozen_task.FrozenTask → Task
task_in t = strip_task (p_task_view t)

abbrev pub line_in : frozen_line.FrozenLine → Line
line_in l = strip (p_line_view l)

abbrev pub end_in : frozen_end.FrozenEnd → Line
end_in e = strip (p_end_view e)
