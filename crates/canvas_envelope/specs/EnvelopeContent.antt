-- The contents of the JSON texts of an envelope, refused or not (Celery task message protocol,
-- version 2). For a member that is missing or of a wrong kind it is 0, nothing or an empty list;
-- `EnvelopeFaults` defines when that is a fault.
use Rattle.std.specs.Prelude.{ℕ, zero, suc, ℤ, pos, false, if◌then◌else◌, List, [], ◌∷◌, map, reverse, Option, Some, unwrap_or, codes}
use Rattle.serde_json.specs.Data.{Data, null, array, item, no_items}
use Rattle.canvas_values.specs.CanvasText.{json_of}
use Rattle.canvas_values.specs.Refusals.{named_of, spelled_call}
use Rattle.canvas_task.specs.Text.{Text}
use Rattle.canvas_values.specs.Fields.{field, subtype, option, tasks, header, body, link, link_error, listed, as_list, object_members, text_of, is_null}
use Rattle.canvas_values.specs.Grammar.{whole_number, argument_of, primitive_of}
use Rattle.canvas_values.specs.declared.primitive.Primitive.{Primitive}
use Rattle.canvas_values.specs.declared.primitive.Primitive.TheVariants as kind
use Rattle.canvas_rewrite.specs.FrozenView.{p_tasks_of, p_lines_of}
use Rattle.canvas_semantics.specs.PlacedLine.{PTask, p_task, no_p_tasks, PPlace, p_nowhere, p_group, p_chord, PLine, p_stop, p_step, p_group_end, p_chord_end}
use Rattle.canvas_envelope.specs.Content.{Content}
use Rattle.canvas_envelope.specs.FrozenGrammar.{task_of, group_of, is_chain, levels}

-- ---- identifiers and sizes

abbrev pub task_number : Data → ℕ
task_number d = unwrap_or (task_of d) 0

abbrev pub group_number : Data → ℕ
group_number d = unwrap_or (group_of d) 0

abbrev pub natural : ℤ → ℕ
natural (pos n) = n
natural z = 0

-- the number of members that a carried body names for its header
abbrev pub size_in : (body : Data) → ℕ
size_in d = natural (whole_number (field (codes "chord_size") d))

-- ---- frozen signatures: those of a canvas, with identifiers and places in their options

-- the place with a group's identifier and a chord's body; f gives the line of the body
abbrev pub place_from : (Data → PLine) → (group body : Data) → PPlace
place_from f group body =
    if is_null group then p_nowhere
    else (if is_null body then p_group (group_number group) else p_chord (group_number group)
    (size_in body) (f body))

-- a task, from the functions for its links and error callbacks and for the line of a carried body
abbrev pub task_from : (Data → PTask) → (Data → PLine) → Data → PTask
task_from t f d =
    p_task (task_number (option (codes "task_id") d)) (spelled_call d)
    (p_tasks_of (map t (as_list (link d)))) (p_tasks_of (map t (as_list (link_error d))))
    (place_from f (option (codes "group_id") d) (option (codes "chord") d))

-- the last element of a line, from its own task and the function for the lines in it
abbrev pub element_from : PTask → (Data → PLine) → Option Primitive → Data → PLine
element_from t f (Some kind.Group) d =
    p_group_end (group_number (option (codes "group_id") d)) (p_lines_of (map f (listed (tasks d))))
element_from t f (Some kind.Chord) d =
    p_chord_end (group_number (option (codes "group_id") d))
    (p_lines_of (map f (listed (header d))))
    (f (body d))
element_from t f p d = p_step t p_stop

-- the line of some elements; only the last may be something other than a task
abbrev pub line_from : (Data → PTask) → (Data → PLine) → List Data → PLine
line_from s e [] = p_stop
line_from s e (d ∷ []) = e d
line_from s e (d ∷ ds) = p_step (s d) (line_from s e ds)

abbrev mutual
  pub task_within : ℕ → Data → PTask
  task_within zero d = p_task 0 (spelled_call d) no_p_tasks no_p_tasks p_nowhere
  task_within (suc n) d = task_from (task_within n) (line_within n) d

  -- the last element of a line, as a line
  pub last_within : ℕ → Data → PLine
  last_within zero d = p_stop
  last_within (suc n) d =
      element_from (task_from (task_within n) (line_within n) d) (line_within n)
      (primitive_of (subtype d)) d

  -- a line: one element, or a chain
  pub line_within : ℕ → Data → PLine
  line_within zero d = p_stop
  line_within (suc n) d =
      if is_chain d then line_from (task_within n) (last_within n) (listed (tasks d))
      else element_from (task_from (task_within n) (line_within n) d) (line_within n)
      (primitive_of (subtype d)) d

-- ---- to any depth to which JSON is read

unfoldable pub task_in : Data → PTask
task_in d = task_within levels d

unfoldable pub last_in : Data → PLine
last_in d = last_within levels d

unfoldable pub line_in : Data → PLine
line_in d = line_within levels d

-- ---- the body: arguments, keyword arguments, and the embed

abbrev pub args_in : (body : Data) → Data
args_in (array (item a (item k (item e no_items)))) = a
args_in d = null

abbrev pub kwargs_in : (body : Data) → Data
kwargs_in (array (item a (item k (item e no_items)))) = k
kwargs_in d = null

abbrev pub embed_in : (body : Data) → Data
embed_in (array (item a (item k (item e no_items)))) = e
embed_in d = null

-- ---- messages

-- The task of the headers, called with the body's arguments. Its input is among these, so it is not
-- marked immutable.
abbrev pub own_in : (headers body : Data) → PTask
own_in h b =
    p_task (task_number (field (codes "id") h))
    (record {
      name = text_of (field (codes "task") h);
      args = map argument_of (listed (args_in b));
      kwargs = map named_of (object_members (kwargs_in b));
      immutable = false;
    })
    (p_tasks_of (map task_in (listed (field (codes "callbacks") (embed_in b)))))
    (p_tasks_of (map task_in (listed (field (codes "errbacks") (embed_in b)))))
    (place_from line_in (field (codes "group") h) (field (codes "chord") (embed_in b)))

-- the rest of the line is in `chain`, the last element first
abbrev pub content_in : (headers body : Data) → Content
content_in h b =
    record {
      parent = task_of (field (codes "parent_id") h);
      own = own_in h b;
      rest = line_from task_in last_in (reverse (listed (field (codes "chain") (embed_in b))));
    }

-- the JSON value of a text, null if there is none
abbrev pub json_in : Text → Data
json_in text = unwrap_or (json_of text) null

unfoldable pub content_said : (headers body : Text) → Content
content_said h b = content_in (json_in h) (json_in b)
