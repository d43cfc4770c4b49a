-- A task message (Celery's task message protocol, version 2) in kombu's envelope, as a list of
-- Redis has it. `body` is the base64 of the list of arguments, keyword arguments and continuation.
-- The headers are those of `docs/FORMATS.md` with `group_index`, the task's place among the members
-- of its group. The signatures are Celery's (`Signatures`), and not the frozen ones of that page.
use Rattle.std.specs.Prelude.{ℕ, [], Option, Some, None, reverse, codes, pos}
use Rattle.base64.specs.GeneralPurpose.{encode_of}
use Rattle.base64.specs.Engines.{standard}
use Rattle.canvas_task.specs.Text.{Text}
use Rattle.serde_json.specs.Data.{Data, null, string, array, object, no_items, item, Members, no_members, member}
use Rattle.serde_json.specs.Written.{compact_text}
use Rattle.canvas_values.specs.Writing.{number_wire, args_wire, kwargs_wire}
use Rattle.canvas_semantics.specs.PlacedLine.{PPlace, p_nowhere, p_group, p_chord}
use Rattle.canvas_envelope.specs.Content.{Content, number_of, call_of, links_of, errbacks_of, place_of}
use Rattle.canvas_envelope.specs.Wire.{list_or_null}
use Rattle.canvas_celery.specs.Signatures.{Naming, task_id, group_id, index_wire, elements, each_wire, tasks_wire, body_at}

-- ---- the body: the arguments, the keyword arguments, and the embed of the call

-- The rest of the line has its last element first.
abbrev pub embed_wire : Naming → Content → Data
embed_wire n c =
    object (member (codes "callbacks") (list_or_null (tasks_wire n (links_of c.own)))
    (member (codes "chain") (list_or_null (each_wire (reverse (elements n c.rest))))
    (member (codes "chord") (body_at n (place_of c.own))
    (member (codes "errbacks") (list_or_null (tasks_wire n (errbacks_of c.own))) no_members))))

abbrev pub body_wire : Naming → Content → Data
body_wire n c =
    array (item (array (args_wire (call_of c.own).args))
    (item (object (kwargs_wire (call_of c.own).kwargs)) (item (embed_wire n c) no_items)))

-- ---- the headers and the properties

abbrev pub place_headers : Naming → ℕ → PPlace → Members → Members
place_headers n k p_nowhere more =
    member (codes "group") null (member (codes "group_index") null more)
place_headers n k (p_group g) more =
    member (codes "group") (group_id n g) (member (codes "group_index") (index_wire n g k) more)
place_headers n k (p_chord g size body) more =
    member (codes "group") (group_id n g) (member (codes "group_index") (index_wire n g k) more)

abbrev pub parent_id : Naming → Option ℕ → Data
parent_id n None = null
parent_id n (Some k) = task_id n k

-- The first task of a run is the root of all.
abbrev pub headers_wire : Naming → Content → Data
headers_wire n c =
    object (place_headers n (number_of c.own) (place_of c.own)
    (member (codes "id") (task_id n (number_of c.own))
    (member (codes "lang") (string (codes "rs"))
    (member (codes "parent_id") (parent_id n c.parent)
    (member (codes "root_id") (task_id n 1)
    (member (codes "task") (string (call_of c.own).name) no_members))))))

abbrev pub delivery_wire : (queue : Text) → Data
delivery_wire queue =
    object (member (codes "exchange") (string [])
    (member (codes "routing_key") (string queue) no_members))

-- kombu keeps a delivery under its tag until it is acknowledged. A task's tag is its identifier.
abbrev pub properties_wire : Naming → (queue : Text) → ℕ → Data
properties_wire n queue k =
    object (member (codes "body_encoding") (string (codes "base64"))
    (member (codes "correlation_id") (task_id n k)
    (member (codes "delivery_info") (delivery_wire queue)
    (member (codes "delivery_mode") (number_wire (pos 2))
    (member (codes "delivery_tag") (task_id n k)
    (member (codes "priority") (number_wire (pos 0)) no_members))))))

-- ---- the envelope

abbrev pub envelope_wire : Naming → (queue : Text) → (body : Data) → Content → Data
envelope_wire n queue body c =
    object (member (codes "body") body
    (member (codes "content-encoding") (string (codes "utf-8"))
    (member (codes "content-type") (string (codes "application/json"))
    (member (codes "headers") (headers_wire n c)
    (member (codes "properties") (properties_wire n queue (number_of c.own)) no_members)))))

abbrev pub message_text : Naming → (queue : Text) → Content → Text
message_text n queue c =
    compact_text
    (envelope_wire n queue (string (encode_of standard (compact_text (body_wire n c)))) c)
