-- The first tasks of a line, as far as none has a place (Celery's task message protocol, version 2:
-- only the last task has `group_id` and `chord` in its options). A task without a place refers only
-- to tasks.
--    is_unplaced    whether neither a task nor one nested in it has a place
--    greatest       the greatest number in a task: its own, and those of its links and error
--                   callbacks
--    EachFirst      each of the first tasks of a line has a property, or all of them if there
--                   are fewer
use Rattle.std.specs.Prelude.{◌≡◌, ◌≤◌, ℕ, zero, suc, max, Bool, true, false, ◌&&◌}
use Rattle.canvas_semantics.specs.PlacedLine.{PTask, p_task, PTasks, no_p_tasks, and_p_task, PPlace, p_nowhere, PLine, p_step}
use Rattle.canvas_envelope.specs.declared.unplaced.Unplaced.{Unplaced}

abbrev pub is_nowhere : PPlace → Bool
is_nowhere p_nowhere = true
is_nowhere p = false

abbrev mutual
  pub is_unplaced : PTask → Bool
  is_unplaced (p_task k call links errbacks place) =
      all_unplaced links && all_unplaced errbacks && is_nowhere place

  pub all_unplaced : PTasks → Bool
  all_unplaced no_p_tasks = true
  all_unplaced (and_p_task t ts) = is_unplaced t && all_unplaced ts

abbrev mutual
  pub greatest : PTask → ℕ
  greatest (p_task k call links errbacks place) =
      max k (max (greatest_in links) (greatest_in errbacks))

  pub greatest_in : PTasks → ℕ
  greatest_in no_p_tasks = 0
  greatest_in (and_p_task t ts) = max (greatest t) (greatest_in ts)

abbrev pub EachFirst : (PTask → Type 0) → (count : ℕ) → PLine → Type 0
EachFirst P zero l = Unit {0}
EachFirst P (suc n) (p_step t l) = P t × EachFirst P n l
EachFirst P (suc n) l = Unit {0}

-- a task without a place, in which no number is greater than `most`
abbrev pub IsUnplaced : (most : ℕ) → PTask → Type 0
IsUnplaced most t = (is_unplaced t ≡ true) × (greatest t ≤ most)

abbrev pub AreUnplaced : Unplaced → PLine → Type 0
AreUnplaced u l = EachFirst (IsUnplaced u.greatest) u.count l
