-- The three JSON texts of a message, as data: Celery's task message protocol, version 2. Members
-- are in the byte order of their names.
use Rattle.std.specs.Prelude.{ℕ, ◌-◌, Bool, false, List, length, take, drop, Option, Some, None, codes, pos}
use Rattle.serde_json.specs.Data.{Data, null, boolean, string, array, object, Items, no_items, item, Members, no_members, member}
use Rattle.canvas_task.specs.Identifiers.{task_text, group_text}
use Rattle.canvas_semantics.specs.Tree.{Call}
use Rattle.canvas_values.specs.Writing.{number_wire, args_wire, kwargs_wire, member_unless_empty, tasks_member, chord_members}
use Rattle.canvas_semantics.specs.PlacedLine.{PTask, p_task, PTasks, no_p_tasks, and_p_task, PPlace, p_nowhere, p_group, p_chord, PLine, p_stop, p_step, p_group_end, p_chord_end, PLines, no_p_lines, and_p_line}
use Rattle.canvas_envelope.specs.Content.{Content, number_of, call_of, links_of, errbacks_of, place_of}

-- ---- identifiers

abbrev pub task_id : ℕ → Data
task_id k = string (task_text k)

abbrev pub group_id : ℕ → Data
group_id g = string (group_text g)

abbrev pub parent_id : Option ℕ → Data
parent_id None = null
parent_id (Some k) = task_id k

-- the group or chord that a place names
abbrev pub place_id : PPlace → Data
place_id p_nowhere = null
place_id (p_group g) = group_id g
place_id (p_chord g size body) = group_id g

-- ---- frozen signatures: those of a canvas, with identifiers in their options

-- a member before others, omitted if it is null
abbrev pub member_unless_null : List ℕ → Data → Members → Members
member_unless_null k null more = more
member_unless_null k d more = member k d more

-- the number of members of a header, which a carried body names
abbrev pub size_member : Option ℕ → Members → Members
size_member None more = more
size_member (Some n) more = member (codes "chord_size") (number_wire (pos n)) more

-- a signature with its six members, and with the size if it is a carried body
abbrev pub frozen_wire : (size : Option ℕ) (args : Items) (immutable : Bool)
    (kwargs options : Members) (kind : Data) (name : List ℕ) → Data
frozen_wire size args immutable kwargs options kind name =
    object (member (codes "args") (array args)
    (size_member size
    (member (codes "immutable") (boolean immutable)
    (member (codes "kwargs") (object kwargs)
    (member (codes "options") (object options)
    (member (codes "subtask_type") kind
    (member (codes "task") (string name) no_members)))))))

abbrev pub task_options : (number : ℕ) (links errbacks : Items) (group chord : Data) → Members
task_options k links errbacks group chord =
    member_unless_null (codes "chord") chord
    (member_unless_null (codes "group_id") group
    (member_unless_empty (codes "link") links
    (member_unless_empty (codes "link_error") errbacks
    (member (codes "task_id") (task_id k) no_members))))

abbrev pub call_wire : Option ℕ → Call → (options : Members) → Data
call_wire size call options =
    frozen_wire size (args_wire call.args) call.immutable (kwargs_wire call.kwargs) options null
    call.name

abbrev pub chain_wire : Option ℕ → Items → Data
chain_wire size elements =
    frozen_wire size no_items false (tasks_member elements) no_members (string (codes "chain"))
    (codes "celery.chain")

abbrev pub group_options : ℕ → Members
group_options g = member (codes "group_id") (group_id g) no_members

abbrev pub group_wire : Option ℕ → ℕ → Items → Data
group_wire size g members =
    frozen_wire size no_items false (tasks_member members) (group_options g)
    (string (codes "group"))
    (codes "celery.group")

abbrev pub chord_wire : Option ℕ → ℕ → (header : Items) → (body : Data) → Data
chord_wire size g header body =
    frozen_wire size no_items false (chord_members body header) (group_options g)
    (string (codes "chord")) (codes "celery.chord")

abbrev mutual
  pub task_wire : Option ℕ → PTask → Data
  task_wire size (p_task k call links errbacks place) =
      call_wire size call (task_options k (tasks_wire links) (tasks_wire errbacks) (place_id place)
      (carried_wire place))

  pub tasks_wire : PTasks → Items
  tasks_wire no_p_tasks = no_items
  tasks_wire (and_p_task t ts) = item (task_wire None t) (tasks_wire ts)

  -- the body that a place carries
  pub carried_wire : PPlace → Data
  carried_wire p_nowhere = null
  carried_wire (p_group g) = null
  carried_wire (p_chord g size body) = line_wire (Some size) body

  -- a line of one element is that element, a longer one a chain
  pub line_wire : Option ℕ → PLine → Data
  line_wire size p_stop = chain_wire size no_items
  line_wire size (p_step t p_stop) = task_wire size t
  line_wire size (p_step t l) = chain_wire size (item (task_wire None t) (elements_wire l))
  line_wire size (p_group_end g ms) = group_wire size g (members_wire ms)
  line_wire size (p_chord_end g ms b) = chord_wire size g (members_wire ms) (line_wire None b)

  pub elements_wire : PLine → Items
  elements_wire p_stop = no_items
  elements_wire (p_step t l) = item (task_wire None t) (elements_wire l)
  elements_wire (p_group_end g ms) = item (group_wire None g (members_wire ms)) no_items
  elements_wire (p_chord_end g ms b) =
      item (chord_wire None g (members_wire ms) (line_wire None b)) no_items

  pub members_wire : PLines → Items
  members_wire no_p_lines = no_items
  members_wire (and_p_line m ms) = item (line_wire None m) (members_wire ms)

-- ---- the three texts

-- items before others, in reverse order
abbrev pub onto_reversed : Items → Items → Items
onto_reversed no_items more = more
onto_reversed (item d ds) more = onto_reversed ds (item d more)

abbrev pub list_or_null : Items → Data
list_or_null no_items = null
list_or_null (item d ds) = array (item d ds)

-- The embed. In it the rest of the line has its last element first.
abbrev pub embed_wire : Content → Data
embed_wire c =
    object (member (codes "callbacks") (list_or_null (tasks_wire (links_of c.own)))
    (member (codes "chain") (list_or_null (onto_reversed (elements_wire c.rest) no_items))
    (member (codes "chord") (carried_wire (place_of c.own))
    (member (codes "errbacks") (list_or_null (tasks_wire (errbacks_of c.own))) no_members))))

abbrev pub body_wire : Content → Data
body_wire c =
    array (item (array (args_wire (call_of c.own).args))
    (item (object (kwargs_wire (call_of c.own).kwargs)) (item (embed_wire c) no_items)))

-- The first task of a run is the root of all tasks.
abbrev pub headers_wire : Content → Data
headers_wire c =
    object (member (codes "group") (place_id (place_of c.own))
    (member (codes "id") (task_id (number_of c.own))
    (member (codes "lang") (string (codes "rs"))
    (member (codes "parent_id") (parent_id c.parent)
    (member (codes "root_id") (task_id 1)
    (member (codes "task") (string (call_of c.own).name) no_members))))))

abbrev pub properties_wire : Content → Data
properties_wire c =
    object (member (codes "content_encoding") (string (codes "utf-8"))
    (member (codes "content_type") (string (codes "application/json"))
    (member (codes "correlation_id") (task_id (number_of c.own)) no_members)))

-- The identifier that the properties of a message name, in its quotes: it is the last of them.
abbrev pub identifier : (properties : List ℕ) → List ℕ
identifier properties = take (length (drop 79 properties) - 1) (drop 79 properties)
