-- Lines with places in their tasks, as messages carry them (Celery task message protocol, version
-- 2: `group_id` and `chord` of a signature).
use Rattle.std.specs.Prelude.{ℕ}
use Rattle.canvas_semantics.specs.Tree.{Call, Task, task, Tasks, no_tasks, and_task}
use Rattle.canvas_semantics.specs.Line.{Line, stop, step, group_end, chord_end, Lines, no_lines, and_line}

-- The place where the end of a line goes: nowhere, to a group, or to a chord, with its number of
-- members and its body. Only the last task of a line has one.
mutual
  pub data PTask : Type 0 where
    p_task : (number : ℕ) → Call → (links errbacks : PTasks) → PPlace → PTask

  pub data PTasks : Type 0 where
    no_p_tasks : PTasks
    and_p_task : PTask → PTasks → PTasks

  pub data PPlace : Type 0 where
    p_nowhere : PPlace
    p_group : ℕ → PPlace
    p_chord : ℕ → (size : ℕ) → (body : PLine) → PPlace

  pub data PLine : Type 0 where
    p_stop : PLine
    p_step : PTask → PLine → PLine
    p_group_end : (number : ℕ) → PLines → PLine
    p_chord_end : (number : ℕ) → (header : PLines) → (body : PLine) → PLine

  pub data PLines : Type 0 where
    no_p_lines : PLines
    and_p_line : PLine → PLines → PLines

-- a line with no places
abbrev mutual
  pub bare_task : Task → PTask
  bare_task (task k call links errbacks) =
      p_task k call (bare_tasks links) (bare_tasks errbacks) p_nowhere

  pub bare_tasks : Tasks → PTasks
  bare_tasks no_tasks = no_p_tasks
  bare_tasks (and_task t ts) = and_p_task (bare_task t) (bare_tasks ts)

abbrev mutual
  pub bare : Line → PLine
  bare stop = p_stop
  bare (step t l) = p_step (bare_task t) (bare l)
  bare (group_end g ms) = p_group_end g (all_bare ms)
  bare (chord_end g ms b) = p_chord_end g (all_bare ms) (bare b)

  pub all_bare : Lines → PLines
  all_bare no_lines = no_p_lines
  all_bare (and_line m ms) = and_p_line (bare m) (all_bare ms)

-- a line without its places
abbrev mutual
  pub strip_task : PTask → Task
  strip_task (p_task k call links errbacks place) =
      task k call (strip_tasks links) (strip_tasks errbacks)

  pub strip_tasks : PTasks → Tasks
  strip_tasks no_p_tasks = no_tasks
  strip_tasks (and_p_task t ts) = and_task (strip_task t) (strip_tasks ts)

abbrev mutual
  pub strip : PLine → Line
  strip p_stop = stop
  strip (p_step t l) = step (strip_task t) (strip l)
  strip (p_group_end g ms) = group_end g (strip_all ms)
  strip (p_chord_end g ms b) = chord_end g (strip_all ms) (strip b)

  pub strip_all : PLines → Lines
  strip_all no_p_lines = no_lines
  strip_all (and_p_line m ms) = and_line (strip m) (strip_all ms)
