-- The encoding of a message's contents, so that a type may have them as its value.
use Rattle.std.specs.Prelude.{◌≡◌, ℕ, zero, suc, false, [], Option, ◌⊎◌, refl}
use Rattle.std.proofs.Common.{inl, inr, ap, ap₂, ◌∙◌}
use Rattle.std.specs.Coded.{Coded, code_by, coded_ℕ, coded_option, coded×, coded⊎}
use Rattle.canvas_semantics.specs.codes.Nest.{Nest, leaf, branch, nest_code}
use Rattle.canvas_semantics.specs.Tree.{Call}
use Rattle.canvas_semantics.specs.codes.TreeCode.{call_code}
use Rattle.canvas_semantics.specs.PlacedLine.{PTask, p_task, PTasks, no_p_tasks, and_p_task, PPlace, p_nowhere, p_group, p_chord, PLine, p_stop, p_step, p_group_end, p_chord_end, PLines, no_p_lines, and_p_line}
use Rattle.canvas_envelope.specs.Content.{Content}

-- a task's number and call; a number; a number and a size
abbrev Label : Type 0
Label = (ℕ × Call) ⊎ (ℕ ⊎ (ℕ × ℕ))

abbrev label_code : Coded Label
label_code = coded⊎ (coded× coded_ℕ call_code) (coded⊎ coded_ℕ (coded× coded_ℕ coded_ℕ))

-- the label of two parts without a number
abbrev pair : Label
pair = inr (inl 0)

-- ---- lines as data with two parts at each place

abbrev mutual
  task_to : PTask → Nest Label
  task_to (p_task k call links errbacks place) =
      branch (inl (k, call)) (branch pair (tasks_to links) (tasks_to errbacks)) (place_to place)

  tasks_to : PTasks → Nest Label
  tasks_to no_p_tasks = leaf
  tasks_to (and_p_task t ts) = branch pair (task_to t) (tasks_to ts)

  place_to : PPlace → Nest Label
  place_to p_nowhere = leaf
  place_to (p_group g) = branch (inr (inl g)) leaf leaf
  place_to (p_chord g size body) = branch (inr (inr (g, size))) (line_to body) leaf

  line_to : PLine → Nest Label
  line_to p_stop = leaf
  line_to (p_step t l) = branch pair (task_to t) (line_to l)
  line_to (p_group_end g ms) = branch (inr (inr (g, 0))) (lines_to ms) leaf
  line_to (p_chord_end g ms b) = branch (inr (inr (g, 1))) (lines_to ms) (line_to b)

  lines_to : PLines → Nest Label
  lines_to no_p_lines = leaf
  lines_to (and_p_line m ms) = branch pair (line_to m) (lines_to ms)

abbrev nothing_called : Call
nothing_called = record { name = []; args = []; kwargs = []; immutable = false }

-- the value for codes of no task
abbrev no_task : PTask
no_task = p_task 0 nothing_called no_p_tasks no_p_tasks p_nowhere

-- a group, or a chord
abbrev ended : ℕ → ℕ → PLines → PLine → PLine
ended g zero ms b = p_group_end g ms
ended g (suc k) ms b = p_chord_end g ms b

abbrev mutual
  task_from : Nest Label → PTask
  task_from (branch (inl l) (branch m a b) c) =
      p_task l.0 l.1 (tasks_from a) (tasks_from b) (place_from c)
  task_from n = no_task

  tasks_from : Nest Label → PTasks
  tasks_from leaf = no_p_tasks
  tasks_from (branch l a b) = and_p_task (task_from a) (tasks_from b)

  place_from : Nest Label → PPlace
  place_from (branch (inr (inl g)) a b) = p_group g
  place_from (branch (inr (inr l)) a b) = p_chord l.0 l.1 (line_from a)
  place_from n = p_nowhere

  line_from : Nest Label → PLine
  line_from (branch (inr (inl g)) a b) = p_step (task_from a) (line_from b)
  line_from (branch (inr (inr l)) a b) = ended l.0 l.1 (lines_from a) (line_from b)
  line_from n = p_stop

  lines_from : Nest Label → PLines
  lines_from leaf = no_p_lines
  lines_from (branch l a b) = and_p_line (line_from a) (lines_from b)

mutual
  task_back : (t : PTask) → task_from (task_to t) ≡ t
  task_back (p_task k call links errbacks place) =
      ap₂ (λ a b. p_task k call a b (place_from (place_to place))) (tasks_back links)
      (tasks_back errbacks) ∙ ap (p_task k call links errbacks) (place_back place)

  tasks_back : (ts : PTasks) → tasks_from (tasks_to ts) ≡ ts
  tasks_back no_p_tasks = refl
  tasks_back (and_p_task t ts) = ap₂ and_p_task (task_back t) (tasks_back ts)

  place_back : (p : PPlace) → place_from (place_to p) ≡ p
  place_back p_nowhere = refl
  place_back (p_group g) = refl
  place_back (p_chord g size body) = ap (p_chord g size) (line_back body)

  pub line_back : (l : PLine) → line_from (line_to l) ≡ l
  line_back p_stop = refl
  line_back (p_step t l) = ap₂ p_step (task_back t) (line_back l)
  line_back (p_group_end g ms) = ap (p_group_end g) (lines_back ms)
  line_back (p_chord_end g ms b) = ap₂ (p_chord_end g) (lines_back ms) (line_back b)

  lines_back : (ls : PLines) → lines_from (lines_to ls) ≡ ls
  lines_back no_p_lines = refl
  lines_back (and_p_line m ms) = ap₂ and_p_line (line_back m) (lines_back ms)

abbrev Stored : Type 0
Stored = Option ℕ × (Nest Label × Nest Label)

abbrev to : Content → Stored
to c = (c.parent, (task_to c.own, line_to c.rest))

abbrev from : Stored → Content
from s = record { parent = s.0; own = task_from s.1.0; rest = line_from s.1.1 }

pub back : (c : Content) → from (to c) ≡ c
back c =
    ap₂ (λ t l. record { parent = c.parent; own = t; rest = l }) (task_back c.own)
    (line_back c.rest)

abbrev pub content_code : Coded Content
content_code =
    code_by Stored
    (coded× (coded_option coded_ℕ) (coded× (nest_code label_code) (nest_code label_code))) to from
    back
