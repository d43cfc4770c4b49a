-- The tokens of a message's JSON.
use Rattle.std.specs.Prelude.{ℕ, Bool, false, List, [], ◌∷◌, ◌++◌, Option, Some, None, decimal, codes}
use Rattle.json.specs.Token.{Token, begin_array, end_array, begin_object, end_object, key, number}
use Rattle.serde_json.specs.Data.{Data, null, string, Items, no_items, Members}
use Rattle.canvas_values.specs.Writing.{args_wire, kwargs_wire}
use Rattle.canvas_values.specs.steps.Tokens.{data_tokens, front_tokens, flag_tokens, kwargs_tokens, link_tokens, member_tokens, closing_tokens, kind_tokens, name_tokens}
use Rattle.canvas_semantics.specs.PlacedLine.{PTask, PLine, p_stop, p_step, p_group_end, p_chord_end, PLines, no_p_lines}
use Rattle.canvas_envelope.specs.Content.{number_of, call_of, links_of, errbacks_of, place_of}
use Rattle.canvas_envelope.specs.Wire.{task_id, group_id, place_id, task_wire, tasks_wire, line_wire}

-- a member
abbrev pub named_tokens : List ℕ → Data → List Token
named_tokens k d = key k ∷ data_tokens d

-- ---- the parts of a signature

abbrev pub size_tokens : Option ℕ → List Token
size_tokens None = []
size_tokens (Some n) = key (codes "chord_size") ∷ number (decimal n) ∷ []

abbrev pub start_tokens : (size : Option ℕ) (args : Items) → List Token
start_tokens size args = front_tokens args ++ size_tokens size

abbrev pub call_tokens : (size : Option ℕ) (args : Items) → Bool → (kwargs : Members) → List Token
call_tokens size args immutable kwargs =
    start_tokens size args ++ (flag_tokens immutable ++ kwargs_tokens kwargs)

abbrev pub links_wire : PTask → Items
links_wire t = tasks_wire (links_of t)

abbrev pub errbacks_wire : PTask → Items
errbacks_wire t = tasks_wire (errbacks_of t)

-- a member, omitted if it is null
abbrev pub unless_null : List ℕ → Data → List Token
unless_null k null = []
unless_null k d = key k ∷ data_tokens d

abbrev pub links_tokens : (links errbacks : Items) → List Token
links_tokens links errbacks =
    link_tokens (codes "link") links ++ link_tokens (codes "link_error") errbacks

-- a task up to its options, with their opening brace
abbrev pub task_front : (size : Option ℕ) → PTask → List Token
task_front size t =
    call_tokens size (args_wire (call_of t).args) (call_of t).immutable
    (kwargs_wire (call_of t).kwargs)
    ++ key (codes "options") ∷ begin_object ∷ []

-- the part of a task after the body that its place carries
abbrev pub task_behind : PTask → List Token
task_behind t =
    unless_null (codes "group_id") (place_id (place_of t))
    ++ (links_tokens (links_wire t) (errbacks_wire t)
    ++ ((named_tokens (codes "task_id") (task_id (number_of t)) ++ end_object ∷ [])
    ++ (kind_tokens null ++ name_tokens (call_of t).name)))

-- a chain, group or chord up to its keyword arguments
abbrev pub opening_tokens : (size : Option ℕ) → List Token
opening_tokens size =
    start_tokens size no_items ++ (flag_tokens false ++ key (codes "kwargs") ∷ begin_object ∷ [])

-- a group or chord from its options to the end
abbrev pub group_closing : (number : ℕ) → (kind : Data) → (name : List ℕ) → List Token
group_closing g kind name =
    (key (codes "options") ∷ begin_object ∷ named_tokens (codes "group_id") (group_id g))
    ++ end_object ∷ (kind_tokens kind ++ name_tokens name)

-- the last keyword argument, a list, with the closing brace
abbrev pub list_tokens : List ℕ → Items → List Token
list_tokens k ds = member_tokens k ds ++ end_object ∷ []

-- ---- lines

abbrev pub each_tokens : List PTask → List Token
each_tokens [] = []
each_tokens (t ∷ ts) = data_tokens (task_wire None t) ++ each_tokens ts

-- a chain up to the last of its first tasks, and the part after its last element
abbrev pub chain_before : (size : Option ℕ) → List PTask → List Token
chain_before size ts = opening_tokens size ++ key (codes "tasks") ∷ begin_array ∷ each_tokens ts

abbrev pub chain_behind : List Token
chain_behind =
    end_array ∷ end_object ∷ closing_tokens (string (codes "chain")) (codes "celery.chain")

abbrev pub tasks_of_line : PLine → List PTask
tasks_of_line p_stop = []
tasks_of_line (p_step t l) = t ∷ tasks_of_line l
tasks_of_line (p_group_end g ms) = []
tasks_of_line (p_chord_end g ms b) = []

-- the members of a group or chord, and its number
abbrev pub members_of_end : PLine → PLines
members_of_end (p_group_end g ms) = ms
members_of_end (p_chord_end g ms b) = ms
members_of_end l = no_p_lines

abbrev pub group_of_end : PLine → ℕ
group_of_end (p_group_end g ms) = g
group_of_end (p_chord_end g ms b) = g
group_of_end l = 0

-- the group or chord that a line ends in
abbrev pub tail_tokens : PLine → List Token
tail_tokens p_stop = []
tail_tokens (p_step t l) = tail_tokens l
tail_tokens (p_group_end g ms) = data_tokens (line_wire None (p_group_end g ms))
tail_tokens (p_chord_end g ms b) = data_tokens (line_wire None (p_chord_end g ms b))
