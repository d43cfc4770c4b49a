-- Messages read back from their texts, as `json.loads` and `base64.b64decode` read them: kombu's
-- envelope, whose member `body` holds a second JSON text (Celery's task message protocol, version
-- 2). A member that is missing or of another kind reads as 0, nothing or an empty list. No message
-- has a chord's size, so it reads as 0. The run, the queue, `group_index`, and what is the same in
-- all messages are left out.
use Rattle.std.specs.Prelude.{◌≡◌, ◌<◌, ◌^◌, ℕ, zero, suc, false, if◌then◌else◌, List, [], ◌∷◌, ◌++◌, length, map, reverse, Option, Some, None, option_and_then, unwrap_or, codes}
use Rattle.base64.specs.GeneralPurpose.{decoded_of}
use Rattle.base64.specs.Engines.{standard}
use Rattle.serde_json.specs.Data.{Data, string}
use Rattle.serde_json.specs.Read.{read}
use Rattle.canvas_task.specs.Text.{Text}
use Rattle.canvas_task.specs.Identifiers.{task_named, group_named}
use Rattle.canvas_values.specs.Fields.{field, subtype, option, tasks, header, body, link, link_error, listed, object_members, text_of, is_null}
use Rattle.canvas_values.specs.Grammar.{argument_of, primitive_of}
use Rattle.canvas_values.specs.Refusals.{named_of, spelled_call}
use Rattle.canvas_values.specs.declared.primitive.Primitive.{Primitive}
use Rattle.canvas_values.specs.declared.primitive.Primitive.TheVariants as kind
use Rattle.canvas_rewrite.specs.FrozenView.{p_tasks_of, p_lines_of}
use Rattle.canvas_semantics.specs.PlacedLine.{PTask, p_task, no_p_tasks, PPlace, p_nowhere, p_group, p_chord, PLine, p_stop, p_step, p_group_end, p_chord_end}
use Rattle.canvas_envelope.specs.Content.{Content}
use Rattle.canvas_envelope.specs.FrozenGrammar.{is_chain, levels}
use Rattle.canvas_envelope.specs.EnvelopeContent.{args_in, kwargs_in, embed_in}
use Rattle.canvas_celery.specs.Run.{piece}
use Rattle.canvas_celery.specs.Signatures.{Naming}

-- ---- identifiers: the mark of tasks or of groups and the number, without the run's digits

abbrev pub without_run : Text → Text
without_run text =
    codes "00000000-0000-8000-" ++ (piece 19 1 text ++ (codes "000-0000" ++ piece 28 8 text))

abbrev pub task_of : Data → Option ℕ
task_of (string s) = task_named (without_run s)
task_of d = None

abbrev pub task_number : Data → ℕ
task_number d = unwrap_or (task_of d) 0

abbrev pub group_of : Data → Option ℕ
group_of (string s) = group_named (without_run s)
group_of d = None

abbrev pub group_number : Data → ℕ
group_number d = unwrap_or (group_of d) 0

-- ---- signatures that haven't started, with those in them

-- the elements of a body that a place carries: its option `chain` has those after the first, the
-- last first
abbrev pub carried_elements : Data → List Data
carried_elements d = d ∷ reverse (listed (option (codes "chain") d))

abbrev pub place_from : (List Data → PLine) → (group body : Data) → PPlace
place_from f group body =
    if is_null group then p_nowhere
    else (if is_null body then p_group (group_number group)
    else p_chord (group_number group) 0 (f (carried_elements body)))

abbrev pub task_from : (Data → PTask) → (List Data → PLine) → Data → PTask
task_from t f d =
    p_task (task_number (option (codes "task_id") d)) (spelled_call d)
    (p_tasks_of (map t (listed (link d)))) (p_tasks_of (map t (listed (link_error d))))
    (place_from f (option (codes "group_id") d) (option (codes "chord") d))

-- the elements of a member: those of a chain, or itself
abbrev pub member_elements : Data → List Data
member_elements d = if is_chain d then listed (tasks d) else d ∷ []

-- A line from an element on. What follows a chord follows its body's first element.
abbrev pub line_at : (Data → PTask) → (List Data → PLine) → Option Primitive → Data
    → (behind : List Data) → (rest : PLine) → PLine
line_at t f (Some kind.Group) d ds l =
    p_group_end (group_number (option (codes "task_id") d))
    (p_lines_of (map (λ m. f (member_elements m)) (listed (tasks d))))
line_at t f (Some kind.Chord) d ds l =
    p_chord_end (group_number (option (codes "task_id") d))
    (p_lines_of (map (λ m. f (member_elements m)) (listed (header d))))
    (f (body d ∷ ds))
line_at t f p d ds l = p_step (t d) l

abbrev pub line_from : (Data → PTask) → (List Data → PLine) → List Data → PLine
line_from t f [] = p_stop
line_from t f (d ∷ ds) = line_at t f (primitive_of (subtype d)) d ds (line_from t f ds)

abbrev mutual
  pub task_within : ℕ → Data → PTask
  task_within zero d = p_task 0 (spelled_call d) no_p_tasks no_p_tasks p_nowhere
  task_within (suc n) d = task_from (task_within n) (line_within n) d

  pub line_within : ℕ → List Data → PLine
  line_within zero ds = p_stop
  line_within (suc n) ds = line_from (task_within n) (line_within n) ds

-- ---- messages, to any depth at which JSON is read

-- the headers' task, called with the body's arguments; its input is one of them, so it is not
-- marked immutable
abbrev pub own_in : (headers body : Data) → PTask
own_in h b =
    p_task (task_number (field (codes "id") h))
    (record {
      name = text_of (field (codes "task") h);
      args = map argument_of (listed (args_in b));
      kwargs = map named_of (object_members (kwargs_in b));
      immutable = false;
    })
    (p_tasks_of (map (task_within levels) (listed (field (codes "callbacks") (embed_in b)))))
    (p_tasks_of (map (task_within levels) (listed (field (codes "errbacks") (embed_in b)))))
    (place_from (line_within levels) (field (codes "group") h)
    (field (codes "chord") (embed_in b)))

-- the rest of the line is in `chain`, the last element first
abbrev pub content_in : (headers body : Data) → Content
content_in h b =
    record {
      parent = task_of (field (codes "parent_id") h);
      own = own_in h b;
      rest = line_within levels (reverse (listed (field (codes "chain") (embed_in b))));
    }

-- the body's text, in base64
abbrev pub body_text : (envelope : Data) → Option Text
body_text e = decoded_of standard (text_of (field (codes "body") e))

abbrev pub envelope_content : (envelope : Data) → Option Content
envelope_content e =
    option_and_then (λ b. Some (content_in (field (codes "headers") e) b))
    (option_and_then read (body_text e))

-- the values that a start is written with: a run's number of 22 digits, and groups of fewer than
-- 2^64 members, so that the index of a member is a number that JSON reads
abbrev pub IsSound : Naming → Type 0
IsSound n = (length n.run ≡ 22) × ((g : ℕ) → length (n.lasts g) < 2 ^ 64)

-- nothing if the text or the body isn't JSON, or the body isn't base64
abbrev pub read_message : Text → Option Content
read_message text = option_and_then envelope_content (read text)
