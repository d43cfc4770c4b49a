-- The grammar of a signature: the kinds of its arguments, its own kind, and its own faults, each by
-- itself (Celery's user guide, Canvas: signatures; the JSON of `json.dumps(signature)`).
use Rattle.std.specs.Prelude.{Bool, true, false, not, ◌&&◌, ◌||◌, if◌then◌else◌, map, Option, Some, None, Result, Ok, codes, ℤ, pos}
use Rattle.std.specs.List.{list_all}
use Rattle.std.specs.Str.{bytes_eq}
use Rattle.serde_json.specs.Data.{Data, null, number, string, array}
use Rattle.serde_json.specs.Find.{as_i64}
use Rattle.canvas_task.specs.Name.{name_ok}
use Rattle.canvas_task.specs.Numbers.{in_range}
use Rattle.canvas_task.specs.declared.arg.Arg.{Arg}
use Rattle.canvas_task.specs.declared.arg.Arg.TheVariants as arg
use Rattle.canvas_values.specs.declared.fault.SigFault.{SigFault}
use Rattle.canvas_values.specs.declared.fault.SigFault.TheVariants.{NotSignature, UnknownPrimitive, BadArgs, BadNumber, OnCanvas, Frozen, EmptyChain}
use Rattle.canvas_values.specs.declared.primitive.Primitive.{Primitive}
use Rattle.canvas_values.specs.declared.primitive.Primitive.TheVariants as kind
use Rattle.canvas_task.specs.Text.{Text}
use Rattle.canvas_values.specs.Fields.{field, subtype, args, kwargs, option, tasks, header, body, link, link_error, items, listed, contents, is_null, is_list, is_object, is_number, is_true, is_flag, is_list_or_null, is_object_or_null, is_link, is_empty}
use Rattle.canvas_semantics.specs.Tree.{Tree, group, Trees, no_trees}
use Rattle.canvas_values.specs.Answers.{◌>>=◌, ◌or_else◌, fault_if, judged}

-- ---- arguments: a whole number in range, a text, or a list of whole numbers in range

-- an allowed kind: a number, a text, or a list of numbers
abbrev pub kind_ok : Data → Bool
kind_ok (number n) = true
kind_ok (string s) = true
kind_ok (array ds) = list_all is_number (items ds)
kind_ok d = false

abbrev pub some_in_range : Option ℤ → Bool
some_in_range None = false
some_in_range (Some z) = in_range z

abbrev pub number_ok : Data → Bool
number_ok (number n) = some_in_range (as_i64 n)
number_ok d = true

-- each number in it is whole and in range
abbrev pub numbers_ok : Data → Bool
numbers_ok (array ds) = list_all number_ok (items ds)
numbers_ok d = number_ok d

-- the first fault of an argument
abbrev pub arg_fault : Data → Option SigFault
arg_fault d = fault_if (not (kind_ok d)) BadArgs or_else fault_if (not (numbers_ok d)) BadNumber

abbrev pub some_or_zero : Option ℤ → ℤ
some_or_zero None = pos 0
some_or_zero (Some z) = z

abbrev pub whole_number : Data → ℤ
whole_number (number n) = some_or_zero (as_i64 n)
whole_number d = pos 0

-- the argument that a value without a fault spells
abbrev pub argument_of : Data → Arg
argument_of (string s) = arg.Text s
argument_of (array ds) = arg.List (map whole_number (items ds))
argument_of d = arg.Num (whole_number d)

-- the argument that a value spells, or its fault
abbrev pub arg_reading : Data → Result Arg SigFault
arg_reading d = judged (arg_fault d) (argument_of d)

-- whether reading it allocates: a text does, and so does a list of numbers that isn't empty
abbrev pub takes_memory : Data → Bool
takes_memory (string s) = true
takes_memory (array ds) = not (is_empty (array ds)) && kind_ok (array ds)
takes_memory d = false

abbrev pub named_reading : Text × Data → Result (Text × Arg) SigFault
named_reading e = arg_reading e.1 >>= λ a. Ok (e.0, a)

-- ---- the kind of a signature, and its own faults

abbrev pub is_name : Data → Bool
is_name (string s) = name_ok s
is_name d = false

-- the kind that a `subtask_type` names
abbrev pub primitive_named : Text → Option Primitive
primitive_named s =
    if bytes_eq s (codes "chain") then Some kind.Chain
    else (if bytes_eq s (codes "group") then Some kind.Group
    else (if bytes_eq s (codes "chord") then Some kind.Chord else None))

abbrev pub primitive_of : Data → Option Primitive
primitive_of null = Some kind.Task
primitive_of (string s) = primitive_named s
primitive_of d = None

abbrev pub args_ok : (Data → Bool) → Data → Bool
args_ok f d = list_all f (listed (args d)) && list_all f (contents (kwargs d))

abbrev pub is_text : Text → Data → Bool
is_text text (string s) = bytes_eq s text
is_text text d = false

abbrev pub is_group : Data → Bool
is_group d = is_object d && is_text (codes "group") (subtype d)

abbrev pub not_signature : Data → Bool
not_signature d =
    not (is_object d) || not (is_name (field (codes "task") d))
    || not (is_flag (field (codes "immutable") d))

abbrev pub bad_members : Primitive → Data → Bool
bad_members kind.Task d = not (args_ok kind_ok d)
bad_members kind.Chain d = not (is_list (tasks d))
bad_members kind.Group d = not (is_list (tasks d))
bad_members kind.Chord d = not (is_list (header d) || is_group (header d)) || is_null (body d)

abbrev pub bad_args : Primitive → Data → Bool
bad_args p d =
    not (is_list_or_null (args d)) || not (is_object_or_null (kwargs d))
    || not (is_object_or_null (field (codes "options") d))
    || not (is_link (link d)) || not (is_link (link_error d)) || bad_members p d

abbrev pub bad_number : Primitive → Data → Bool
bad_number kind.Task d = not (args_ok numbers_ok d)
bad_number p d = false

-- A chain, group or chord has something that only tasks may have, or is a link or an error
-- callback.
abbrev pub on_canvas : Bool → Primitive → Data → Bool
on_canvas linked kind.Task d = false
on_canvas linked p d =
    linked || not (is_empty (args d)) || is_true (field (codes "immutable") d)
    || not (is_empty (link d)) || not (is_empty (link_error d))

abbrev pub frozen : Data → Bool
frozen d = not (is_null (option (codes "chord") d))

abbrev pub empty_chain : Primitive → Data → Bool
empty_chain kind.Chain d = is_empty (tasks d)
empty_chain p d = false

abbrev pub fault_as : Bool → Data → Option Primitive → Option SigFault
fault_as linked d None = Some UnknownPrimitive
fault_as linked d (Some p) =
    fault_if (bad_args p d) BadArgs or_else fault_if (bad_number p d) BadNumber or_else fault_if
    (on_canvas linked p d) OnCanvas
    or_else fault_if (frozen d) Frozen or_else fault_if (empty_chain p d) EmptyChain

-- The first of a signature's own faults; `linked` says that it is a link or an error callback.
abbrev pub own_fault : Bool → Data → Option SigFault
own_fault linked d =
    fault_if (not_signature d) NotSignature or_else fault_as linked d (primitive_of (subtype d))

-- the members of a group
abbrev pub members_in : Tree → Trees
members_in (group g ms) = ms
members_in t = no_trees
