-- The refusals and contents of a frozen signature follow from those of its parts, at any depth
-- (Celery task message protocol, version 2: `embed` of a body). JSON that can be read nests at most
-- `max_depth` deep, so the number of levels in the definitions leaves none out.
--    ReadsShallow                 a value that can be read is no deeper than that
--    RefusedByParts, SaidByParts  the definitions of refusals and of contents, without a number
--    SameWithin n                 n levels give the same for a signature
--    SameEnvelope n               and for the texts of an envelope
use Rattle.std.specs.Prelude.{◌≡◌, ◌≤◌, ℕ, Bool, false, not, ◌||◌, if◌then◌else◌, List, [], ◌∷◌, map, reverse, Option, Some, is_some, codes}
use Rattle.std.specs.List.{list_any}
use Rattle.serde_json.specs.Data.{Data, depth}
use Rattle.serde_json.specs.Read.{max_depth}
use Rattle.canvas_task.specs.Text.{Text}
use Rattle.canvas_values.specs.CanvasText.{json_of}
use Rattle.canvas_values.specs.Fields.{field, subtype, tasks, listed, object_members, text_of, is_list_or_null, is_object_or_null}
use Rattle.canvas_values.specs.Refusals.{named_of}
use Rattle.canvas_values.specs.Grammar.{argument_of, own_fault, primitive_of}
use Rattle.canvas_rewrite.specs.FrozenView.{p_tasks_of}
use Rattle.canvas_semantics.specs.PlacedLine.{PTask, p_task, PLine}
use Rattle.canvas_envelope.specs.Content.{Content}
use Rattle.canvas_envelope.specs.Fits.{fits}
use Rattle.canvas_envelope.specs.FrozenGrammar.{task_of, is_chain}
use Rattle.canvas_envelope.specs.EnvelopeContent.{task_number, place_from, args_in, kwargs_in, embed_in, json_in, content_said, task_from, element_from, line_from, task_within, last_within, line_within, task_in, last_in, line_in}
use Rattle.canvas_envelope.specs.EnvelopeFaults.{not_json, not_version_2, bad_id, bad_content_type, bad_body, bad_args, bad_place, first_of, envelope_fault, bad_task_by, bad_last_by, bad_elements, bad_task_within, bad_last_within, bad_line_within, bad_task, bad_last, bad_line}
use Rattle.canvas_envelope.specs.declared.fault.MessageFault.{MessageFault}
use Rattle.canvas_envelope.specs.declared.fault.MessageFault.TheVariants.{NotJson, NotVersion2, BadId, BadContentType, BadBody, BadArgs, BadEmbed}

-- the depth of a value that can be read, and so of all its parts
abbrev pub ReadsShallow : Type 0
ReadsShallow = (text : Text) (d : Data) → json_of text ≡ Some d → depth d ≤ max_depth

-- a line: a chain, or one element
abbrev pub bad_line_by : (task last line : Data → Bool) → Data → Bool
bad_line_by t e f d =
    if is_chain d then is_some (own_fault false d) || bad_elements t e (listed (tasks d))
    else bad_last_by t f (primitive_of (subtype d)) d

abbrev pub line_by : (task : Data → PTask) → (last line : Data → PLine) → Data → PLine
line_by t e f d =
    if is_chain d then line_from t e (listed (tasks d))
    else element_from (t d) f (primitive_of (subtype d)) d

-- whether a signature is refused
pub record RefusedByParts (d : Data) : Type 0 where
  pub task : bad_task d ≡ bad_task_by bad_task bad_line d
  pub last : bad_last d ≡ bad_last_by bad_task bad_line (primitive_of (subtype d)) d
  pub line : bad_line d ≡ bad_line_by bad_task bad_last bad_line d

-- the contents of a signature
pub record SaidByParts (d : Data) : Type 0 where
  pub task : task_in d ≡ task_from task_in line_in d
  pub last : last_in d ≡ element_from (task_in d) line_in (primitive_of (subtype d)) d
  pub line : line_in d ≡ line_by task_in last_in line_in d

-- another number of levels gives the same refusals and contents of a signature
pub record SameWithin (n : ℕ) (d : Data) : Type 0 where
  pub bad_task : bad_task_within n d ≡ bad_task d
  pub bad_last : bad_last_within n d ≡ bad_last d
  pub bad_line : bad_line_within n d ≡ bad_line d
  pub task : task_within n d ≡ task_in d
  pub last : last_within n d ≡ last_in d
  pub line : line_within n d ≡ line_in d

-- ---- whole envelopes: the definitions of their refusals and contents, with n levels

module _ (n : ℕ) where
  abbrev pub bad_members_within : (group embed : Data) → Bool
  bad_members_within group e =
      not (is_object_or_null e) || not (is_list_or_null (field (codes "callbacks") e))
      || not (is_list_or_null (field (codes "errbacks") e))
      || not (is_list_or_null (field (codes "chain") e))
      || list_any (bad_task_within n) (listed (field (codes "callbacks") e))
      || list_any (bad_task_within n) (listed (field (codes "errbacks") e))
      || bad_place (bad_line_within n) group (field (codes "chord") e)
      || bad_elements (bad_task_within n) (bad_last_within n)
      (reverse (listed (field (codes "chain") e)))

  abbrev pub own_within : (headers body : Data) → PTask
  own_within h b =
      p_task (task_number (field (codes "id") h))
      (record {
        name = text_of (field (codes "task") h);
        args = map argument_of (listed (args_in b));
        kwargs = map named_of (object_members (kwargs_in b));
        immutable = false;
      })
      (p_tasks_of (map (task_within n) (listed (field (codes "callbacks") (embed_in b)))))
      (p_tasks_of (map (task_within n) (listed (field (codes "errbacks") (embed_in b)))))
      (place_from (line_within n) (field (codes "group") h) (field (codes "chord") (embed_in b)))

  abbrev pub content_within : (headers body : Data) → Content
  content_within h b =
      record {
        parent = task_of (field (codes "parent_id") h);
        own = own_within h b;
        rest =
            line_from (task_within n) (last_within n)
            (reverse (listed (field (codes "chain") (embed_in b))));
      }

  abbrev pub bad_embed_within : (headers body : Data) → Bool
  bad_embed_within h b =
      bad_members_within (field (codes "group") h) (embed_in b) || not (fits (content_within h b))

  abbrev pub refusals_within : (properties headers body : Data) → List (Bool × MessageFault)
  refusals_within p h b =
      (not_version_2 h, NotVersion2) ∷ (bad_id p h, BadId) ∷ (bad_content_type p, BadContentType)
      ∷ (bad_body b, BadBody) ∷ (bad_args b, BadArgs)
      ∷ (bad_embed_within h b, BadEmbed) ∷ []

  abbrev pub envelope_fault_within : (properties headers body : Text) → Option MessageFault
  envelope_fault_within p h b =
      first_of ((not_json p || not_json h || not_json b, NotJson)
      ∷ refusals_within (json_in p) (json_in h) (json_in b))

  -- the first refusal is the same, and so are the contents of the texts
  pub record SameEnvelope (p h b : Text) : Type 0 where
    pub fault : envelope_fault_within p h b ≡ envelope_fault p h b
    pub content : content_within (json_in h) (json_in b) ≡ content_said h b
