-- The refusals of an envelope, each by itself, and the first that holds (Celery task message
-- protocol, version 2).
use Rattle.std.specs.Prelude.{◌≡◌, ℕ, zero, suc, ℤ, pos, Bool, true, false, not, ◌&&◌, ◌||◌, ◌==◌, if◌then◌else◌, List, [], ◌∷◌, reverse, Option, Some, None, is_some, is_none, codes}
use Rattle.std.specs.List.{list_any}
use Rattle.serde_json.specs.Data.{Data, number, array, item, no_items}
use Rattle.serde_json.specs.Find.{get, as_i64}
use Rattle.canvas_values.specs.CanvasText.{json_of}
use Rattle.canvas_task.specs.Text.{Text}
use Rattle.canvas_values.specs.Fields.{field, subtype, option, tasks, header, body, link, link_error, listed, as_list, contents, is_null, is_list, is_object, is_list_or_null, is_object_or_null}
use Rattle.canvas_values.specs.Grammar.{own_fault, primitive_of, kind_ok, numbers_ok, is_name, is_text}
use Rattle.canvas_values.specs.declared.primitive.Primitive.{Primitive}
use Rattle.canvas_values.specs.declared.primitive.Primitive.TheVariants as kind
use Rattle.canvas_envelope.specs.Content.{Content}
use Rattle.canvas_envelope.specs.EnvelopeContent.{args_in, kwargs_in, embed_in, json_in, content_in, content_said}
use Rattle.canvas_envelope.specs.Fits.{size_ok, fits}
use Rattle.canvas_envelope.specs.FrozenGrammar.{task_of, group_of, but_a_place, is_chain, levels}
use Rattle.canvas_envelope.specs.declared.fault.MessageFault.{MessageFault}
use Rattle.canvas_envelope.specs.declared.fault.MessageFault.TheVariants.{NotJson, NotVersion2, BadId, BadContentType, BadBody, BadArgs, BadEmbed}

-- ---- frozen signatures: any fault of one gives the same refusal

abbrev pub is_size : Option ℤ → Bool
is_size (Some (pos n)) = size_ok n
is_size z = false

-- a size is a whole number of members that a header may have
abbrev pub bad_size : Data → Bool
bad_size (number n) = not (is_size (as_i64 n))
bad_size d = true

-- Without a group there is no place, so no body; a body needs its size. f says whether the body's
-- line is refused.
abbrev pub bad_place : (Data → Bool) → (group body : Data) → Bool
bad_place f group body =
    if is_null group then not (is_null body)
    else (is_none (group_of group)
    || (not (is_null body) && (bad_size (field (codes "chord_size") body) || f body)))

abbrev pub is_task : Option Primitive → Bool
is_task (Some kind.Task) = true
is_task p = false

-- a signature that is no task; or has a fault of its own, as in a canvas, except that it may have a
-- place; or has no identifier, or something refused in it
abbrev pub bad_task_by : (task line : Data → Bool) → Data → Bool
bad_task_by t f d =
    not (is_task (primitive_of (subtype d))) || is_some (but_a_place (own_fault false d))
    || is_none (task_of (option (codes "task_id") d))
    || list_any t (as_list (link d)) || list_any t (as_list (link_error d))
    || bad_place f (option (codes "group_id") d) (option (codes "chord") d)

-- a group or chord with a fault of its own, without an identifier, or with something refused in it;
-- a chord's header is a list
abbrev pub bad_group_by : (line : Data → Bool) → Data → Bool
bad_group_by f d =
    is_some (own_fault false d) || is_none (group_of (option (codes "group_id") d))
    || list_any f (listed (tasks d))

abbrev pub bad_chord_by : (line : Data → Bool) → Data → Bool
bad_chord_by f d =
    is_some (own_fault false d) || not (is_list (header d))
    || is_none (group_of (option (codes "group_id") d)) || list_any f (listed (header d))
    || f (body d)

-- the last element of a line: a task, a group or a chord
abbrev pub bad_last_by : (task line : Data → Bool) → Option Primitive → Data → Bool
bad_last_by t f (Some kind.Group) d = bad_group_by f d
bad_last_by t f (Some kind.Chord) d = bad_chord_by f d
bad_last_by t f p d = bad_task_by t f d

-- elements of which all but the last are tasks
abbrev pub bad_elements : (task last : Data → Bool) → List Data → Bool
bad_elements s e [] = false
bad_elements s e (d ∷ []) = e d
bad_elements s e (d ∷ ds) = s d || bad_elements s e ds

abbrev mutual
  pub bad_task_within : ℕ → Data → Bool
  bad_task_within zero d = true
  bad_task_within (suc n) d = bad_task_by (bad_task_within n) (bad_line_within n) d

  pub bad_last_within : ℕ → Data → Bool
  bad_last_within zero d = true
  bad_last_within (suc n) d =
      bad_last_by (bad_task_within n) (bad_line_within n) (primitive_of (subtype d)) d

  -- a line: one element, or a chain
  pub bad_line_within : ℕ → Data → Bool
  bad_line_within zero d = true
  bad_line_within (suc n) d =
      if is_chain d then is_some (own_fault false d)
      || bad_elements (bad_task_within n) (bad_last_within n) (listed (tasks d))
      else bad_last_by (bad_task_within n) (bad_line_within n) (primitive_of (subtype d)) d

unfoldable pub bad_task : Data → Bool
bad_task d = bad_task_within levels d

unfoldable pub bad_last : Data → Bool
bad_last d = bad_last_within levels d

unfoldable pub bad_line : Data → Bool
bad_line d = bad_line_within levels d

-- ---- the refusals

-- a text that isn't one JSON value in UTF-8
abbrev pub not_json : Text → Bool
not_json text = is_none (json_of text)

abbrev pub not_version_2 : (headers : Data) → Bool
not_version_2 h = not (is_object h) || not (is_name (field (codes "task") h))

abbrev pub same_task : Option ℕ → Option ℕ → Bool
same_task (Some j) (Some k) = j == k
same_task j k = false

-- a correlation's identifier, if there is one, is that of another task or of none
abbrev pub other_task : (task : Option ℕ) → (correlation : Option Data) → Bool
other_task k None = false
other_task k (Some d) = not (same_task (task_of d) k)

abbrev pub bad_id : (properties headers : Data) → Bool
bad_id p h =
    is_none (task_of (field (codes "id") h))
    || not (is_null (field (codes "group") h) || is_some (group_of (field (codes "group") h)))
    || not (is_object p)
    || other_task (task_of (field (codes "id") h)) (get (codes "correlation_id") p)

abbrev pub bad_content_type : (properties : Data) → Bool
bad_content_type p =
    not (is_text (codes "application/json") (field (codes "content_type") p))
    || not (is_text (codes "utf-8") (field (codes "content_encoding") p))

-- a body is a list of three
abbrev pub bad_body : (body : Data) → Bool
bad_body (array (item a (item k (item e no_items)))) = false
bad_body d = true

abbrev pub bad_argument : Data → Bool
bad_argument d = not (kind_ok d) || not (numbers_ok d)

abbrev pub bad_args : (body : Data) → Bool
bad_args b =
    not (is_list (args_in b)) || not (is_object_or_null (kwargs_in b))
    || list_any bad_argument (listed (args_in b))
    || list_any bad_argument (contents (kwargs_in b))

-- the embed in JSON: null, or an object with links, error callbacks, the place of the line, and the
-- rest of the line
abbrev pub bad_members : (group embed : Data) → Bool
bad_members group e =
    not (is_object_or_null e) || not (is_list_or_null (field (codes "callbacks") e))
    || not (is_list_or_null (field (codes "errbacks") e))
    || not (is_list_or_null (field (codes "chain") e))
    || list_any bad_task (listed (field (codes "callbacks") e))
    || list_any bad_task (listed (field (codes "errbacks") e))
    || bad_place bad_line group (field (codes "chord") e)
    || bad_elements bad_task bad_last (reverse (listed (field (codes "chain") e)))

-- A bad embed, or contents with places, sizes or a reach that no message has.
abbrev pub bad_embed : (headers body : Data) → Bool
bad_embed h b = bad_members (field (codes "group") h) (embed_in b) || not (fits (content_in h b))

-- ---- the first that holds

abbrev pub first_of : List (Bool × MessageFault) → Option MessageFault
first_of [] = None
first_of (row ∷ rows) = if row.0 then Some row.1 else first_of rows

abbrev pub refusals : (properties headers body : Data) → List (Bool × MessageFault)
refusals p h b =
    (not_version_2 h, NotVersion2) ∷ (bad_id p h, BadId) ∷ (bad_content_type p, BadContentType)
    ∷ (bad_body b, BadBody) ∷ (bad_args b, BadArgs)
    ∷ (bad_embed h b, BadEmbed) ∷ []

unfoldable pub envelope_fault : (properties headers body : Text) → Option MessageFault
envelope_fault p h b =
    first_of ((not_json p || not_json h || not_json b, NotJson) ∷ refusals (json_in p) (json_in h)
    (json_in b))

-- ---- messages

-- Nothing refuses the texts, and these are their contents.
abbrev pub Says : (properties headers body : Text) → Content → Type 0
Says p h b c = (envelope_fault p h b ≡ None) × (content_said h b ≡ c)
