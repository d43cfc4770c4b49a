-- The forecast for each signature of a canvas, in file order: the expected outcome of its call, and
-- the points in which Celery 5 behaves differently (Celery user guide, Canvas: groups, chords,
-- error handling; docs/CELERY.md reports what its workers did).
use Rattle.std.specs.Prelude.{ℕ, zero, suc, Bool, true, false, not, ◌&&◌, ◌||◌, ◌==◌, nat_lt, List, [], ◌∷◌, ◌++◌}
use Rattle.canvas_task.specs.Apply.{Behaviour}
use Rattle.canvas_semantics.specs.Tree.{Task, task, Tasks, no_tasks, and_task, Tree, one, chain, group, chord, Trees, no_trees, and_tree}
use Rattle.canvas_check.specs.Calls.{expected}
use Rattle.canvas_check.specs.Positions.{start, before, of_elements, behind, of_member, of_body, of_callback}
use Rattle.canvas_check.specs.declared.forecast.Expected.{Expected}
use Rattle.canvas_check.specs.declared.forecast.Expected.TheVariants.{Answer, Unknown}
use Rattle.canvas_check.specs.declared.forecast.Forecast.{Forecast}
use Rattle.canvas_check.specs.declared.position.Input.{Input}
use Rattle.canvas_check.specs.declared.position.Input.TheVariants.{Number, Numbers, Identifier}
use Rattle.canvas_check.specs.declared.position.Position.{Position}

-- ---- outputs

abbrev mutual
  pub out_of : Tree → Input → Input
  out_of (one t) i = Number
  out_of (chain ts) i = out_of_each ts i
  out_of (group g ms) i = Numbers
  out_of (chord g h b) i = out_of b Numbers

  pub out_of_each : Trees → Input → Input
  out_of_each no_trees i = i
  out_of_each (and_tree t ts) i = out_of_each ts (out_of t i)

-- ---- one signature

-- a call with no other difference
abbrev pub of_call : Expected → Forecast
of_call e =
    record {
      expected = e;
      is_left_pending = false;
      is_nested_chord = false;
      is_unrolled = false;
      has_no_identifier = false;
      is_pending_body = false;
      loses_alarms = false;
      is_missed = false;
    }

abbrev pub is_unknown_call : Expected → Bool
is_unknown_call Unknown = true
is_unknown_call e = false

-- A task with n error callbacks. A body that something follows is the first of several tasks.
abbrev pub of_task : Expected → ℕ → Position → Forecast
of_task e n s =
    record (of_call e) {
      has_no_identifier = s.is_body && s.is_followed;
      loses_alarms = s.begins_body && nat_lt 0 n;
      is_missed = is_unknown_call e && (nat_lt 0 n || s.is_followed || s.is_in_header);
    }

-- a chain, which as a body is never stored: nothing gives it an identifier
abbrev pub of_chain : Position → Forecast
of_chain s = record (of_call Answer) { has_no_identifier = s.is_body }

-- A group of n members. Celery replaces a group of one in the middle of a chain by its member. A
-- group that something follows is a chord.
abbrev pub of_group : ℕ → Position → Forecast
of_group n s =
    record (of_call Answer) {
      is_left_pending = s.is_behind_task && nat_lt 1 n;
      is_nested_chord =
          s.is_in_header && s.is_followed && nat_lt 0 n
          && not (s.is_behind_task && s.is_followed && (n == 1));
      is_unrolled = s.is_behind_task && s.is_followed && (n == 1);
      is_pending_body = s.is_body && nat_lt 0 n;
    }

-- a chord with n members in its header
abbrev pub of_chord : ℕ → Position → Forecast
of_chord n s =
    record (of_call Answer) {
      is_left_pending = s.is_behind_task;
      is_nested_chord = s.is_in_header && nat_lt 0 n;
      is_pending_body = s.is_body && nat_lt 0 n;
    }

-- ---- all of them

abbrev pub trees_count : Trees → ℕ
trees_count no_trees = zero
trees_count (and_tree t ts) = suc (trees_count ts)

abbrev pub tasks_count : Tasks → ℕ
tasks_count no_tasks = zero
tasks_count (and_task t ts) = suc (tasks_count ts)

module _ (behaviour : Behaviour) where
  -- a task, its links, whose input is its result, and its error callbacks, whose input is its
  -- identifier
  abbrev mutual
    pub task_told : Task → Position → List Forecast
    task_told (task k call links errbacks) s =
        of_task (expected behaviour call s.input) (tasks_count errbacks) s
        ∷ tasks_told links (of_callback Number) ++ tasks_told errbacks (of_callback Identifier)

    pub tasks_told : Tasks → Position → List Forecast
    tasks_told no_tasks s = []
    tasks_told (and_task t ts) s = task_told t s ++ tasks_told ts s

  abbrev mutual
    pub told : Tree → Position → List Forecast
    told (one t) s = task_told t s
    told (chain ts) s = of_chain s ∷ elements_told ts (of_elements s)
    told (group g ms) s =
        of_group (trees_count ms) s ∷ members_told ms (of_member s.is_followed s)
    told (chord g h b) s =
        of_chord (trees_count h) s
        ∷ members_told h (of_member true s) ++ told b (of_body (trees_count h) s)

    pub elements_told : Trees → Position → List Forecast
    elements_told no_trees s = []
    elements_told (and_tree t ts) s =
        told t (before (trees_count ts) s) ++ elements_told ts (behind (out_of t s.input) s)

    pub members_told : Trees → Position → List Forecast
    members_told no_trees s = []
    members_told (and_tree t ts) s = told t s ++ members_told ts s

-- a whole canvas
abbrev pub forecasts : Behaviour → Tree → List Forecast
forecasts behaviour c = told behaviour c start
