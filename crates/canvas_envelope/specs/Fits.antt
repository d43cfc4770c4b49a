-- The contents that a message can have: those that reading three texts can give (Celery's task
-- message protocol, version 2). They are rules about the line that begins with the message's own
-- task, so the rules for lines cover also its own place and the rest of its line.
use Rattle.std.specs.Prelude.{ℕ, ◌+◌, ◌^◌, max, Bool, true, false, not, ◌&&◌, List, [], ◌∷◌, Option, Some, None, nat_lt, nat_le}
use Rattle.std.specs.Ordering.{nat_cmp}
use Rattle.std.specs.declared.cmp.Ordering.{Ordering}
use Rattle.std.specs.declared.cmp.Ordering.TheVariants.{Less}
use Rattle.std.specs.Cmp.Lexicographic.{slice_cmp}
use Rattle.canvas_task.specs.Name.{name_ok}
use Rattle.canvas_task.specs.declared.arg.Arg.{Arg}
use Rattle.canvas_semantics.specs.Bounds.{most_reach, most_tasks}
use Rattle.canvas_values.specs.ComposedRefusals.{call_numbers_ok}
use Rattle.canvas_semantics.specs.Tree.{Call}
use Rattle.canvas_semantics.specs.Line.{in_group}
use Rattle.canvas_semantics.specs.PlacedLine.{PTask, p_task, PTasks, no_p_tasks, and_p_task, PPlace, p_nowhere, p_group, p_chord, PLine, p_stop, p_step, p_group_end, p_chord_end, PLines, no_p_lines, and_p_line, strip}
use Rattle.canvas_envelope.specs.Content.{Content, line, call_of}

-- the greatest number of members of a header: each is at least one task
abbrev pub most_members : ℕ
most_members = most_tasks

-- a number of a task, group or chord: from 1, in 32 bits
abbrev pub is_task_number : ℕ → Bool
is_task_number k = nat_lt 0 k && nat_lt k (2 ^ 32)

abbrev pub parent_ok : Option ℕ → Bool
parent_ok None = true
parent_ok (Some k) = is_task_number k

abbrev pub size_ok : ℕ → Bool
size_ok n = nat_lt 0 n && nat_le n most_members

-- the names of keyword arguments ascend, each once
abbrev pub is_less : Ordering → Bool
is_less Less = true
is_less o = false

abbrev pub is_below : List ℕ → List (List ℕ × Arg) → Bool
is_below k [] = true
is_below k (e ∷ es) = is_less (slice_cmp nat_cmp k e.0) && is_below k es

abbrev pub ascends : List (List ℕ × Arg) → Bool
ascends [] = true
ascends (e ∷ es) = is_below e.0 es && ascends es

abbrev pub call_ok : Call → Bool
call_ok c = name_ok c.name && call_numbers_ok c && ascends c.kwargs

abbrev pub how_many : PLines → ℕ
how_many no_p_lines = 0
how_many (and_p_line m ms) = 1 + how_many ms

-- Only the last task of a line may have a place: if the line ends in a chord, the last task of its
-- body. The lines of members have none yet: `last` says whether the line's end may have one.
abbrev mutual
  pub task_ok : (last : Bool) → PTask → Bool
  task_ok last (p_task k call links errbacks place) =
      is_task_number k && call_ok call && tasks_ok links && tasks_ok errbacks && place_ok last place

  -- links and error callbacks
  pub tasks_ok : PTasks → Bool
  tasks_ok no_p_tasks = true
  tasks_ok (and_p_task t ts) = task_ok false t && tasks_ok ts

  pub place_ok : (last : Bool) → PPlace → Bool
  place_ok last p_nowhere = true
  place_ok last (p_group g) = last && is_task_number g
  place_ok last (p_chord g size body) =
      last && is_task_number g && size_ok size && line_ok true body

  -- a line of at least one element
  pub line_ok : (last : Bool) → PLine → Bool
  line_ok last p_stop = false
  line_ok last (p_step t p_stop) = task_ok last t
  line_ok last (p_step t l) = task_ok false t && line_ok last l
  line_ok last (p_group_end g ms) = is_task_number g && members_ok ms
  line_ok last (p_chord_end g ms b) =
      is_task_number g && nat_le (how_many ms) most_members && members_ok ms && line_ok last b

  -- no member ends in a group
  pub members_ok : PLines → Bool
  members_ok no_p_lines = true
  members_ok (and_p_line m ms) = line_ok false m && not (in_group (strip m)) && members_ok ms

-- ---- the depth to which signatures are nested: c is the reach of what the last task of the line
-- carries

abbrev mutual
  pub task_reach : ℕ → PTask → ℕ
  task_reach c (p_task k call links errbacks place) =
      1 + max (max c (place_reach place)) (max (tasks_reach links) (tasks_reach errbacks))

  pub tasks_reach : PTasks → ℕ
  tasks_reach no_p_tasks = 0
  tasks_reach (and_p_task t ts) = max (task_reach 0 t) (tasks_reach ts)

  pub place_reach : PPlace → ℕ
  place_reach p_nowhere = 0
  place_reach (p_group g) = 0
  place_reach (p_chord g size body) = line_reach 0 body

  pub line_reach : ℕ → PLine → ℕ
  line_reach c p_stop = 0
  line_reach c (p_step t p_stop) = task_reach c t
  line_reach c (p_step t l) = 1 + max (task_reach 0 t) (greatest_reach c l)
  line_reach c (p_group_end g ms) = 1 + members_reach 0 ms
  line_reach c (p_chord_end g ms b) = 1 + max (line_reach c b) (members_reach (line_reach c b) ms)

  -- the greatest reach of a line's elements
  pub greatest_reach : ℕ → PLine → ℕ
  greatest_reach c p_stop = 0
  greatest_reach c (p_step t p_stop) = task_reach c t
  greatest_reach c (p_step t l) = max (task_reach 0 t) (greatest_reach c l)
  greatest_reach c (p_group_end g ms) = 1 + members_reach 0 ms
  greatest_reach c (p_chord_end g ms b) =
      1 + max (line_reach c b) (members_reach (line_reach c b) ms)

  pub members_reach : ℕ → PLines → ℕ
  members_reach c no_p_lines = 0
  members_reach c (and_p_line m ms) = max (line_reach c m) (members_reach c ms)

-- ---- messages

-- The input of a message's own task is among its arguments already, so it is not marked immutable.
abbrev pub fits : Content → Bool
fits c =
    parent_ok c.parent && not (call_of c.own).immutable && line_ok true (line c)
    && nat_le (line_reach 0 (line c)) most_reach
