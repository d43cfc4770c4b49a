-- Reading step by step, as the code does: the signature that a JSON value spells, or its first
-- fault.
use Rattle.std.specs.Prelude.{ℕ, zero, suc, true, false, if◌then◌else◌, List, Option, Some, None, Result, Ok, Err, codes, ℤ}
use Rattle.std.specs.List.{list_all}
use Rattle.serde_json.specs.Data.{Data, number, string, array}
use Rattle.serde_json.specs.Find.{as_i64}
use Rattle.canvas_task.specs.Numbers.{in_range}
use Rattle.canvas_task.specs.declared.arg.Arg.{Arg}
use Rattle.canvas_task.specs.declared.arg.Arg.TheVariants as arg
use Rattle.canvas_values.specs.declared.fault.SigFault.{SigFault}
use Rattle.canvas_values.specs.declared.fault.SigFault.TheVariants.{BadArgs, BadNumber, TooDeep, NotJson}
use Rattle.canvas_values.specs.declared.primitive.Primitive.{Primitive}
use Rattle.canvas_values.specs.declared.primitive.Primitive.TheVariants as kind
use Rattle.canvas_task.specs.Text.{Text}
use Rattle.canvas_values.specs.Fields.{field, subtype, args, kwargs, tasks, header, body, link, link_error, items, listed, as_list, object_members, text_of, is_number, is_true}
use Rattle.canvas_semantics.specs.Tree.{Task, task, Tree, one, chain, group, chord, Trees}
use Rattle.canvas_values.specs.SignatureView.{tasks_of, trees_of}
use Rattle.canvas_values.specs.Answers.{◌>>=◌, unless, in_turn}
use Rattle.canvas_values.specs.Grammar.{arg_reading, named_reading, primitive_of, own_fault, members_in}

abbrev pub in_range_or_refused : Option ℤ → Result ℤ SigFault
in_range_or_refused None = Err BadNumber
in_range_or_refused (Some z) = if in_range z then Ok z else Err BadNumber

abbrev pub number_reading : Data → Result ℤ SigFault
number_reading (number n) = in_range_or_refused (as_i64 n)
number_reading d = Err BadNumber

abbrev pub list_reading : List Data → Result Arg SigFault
list_reading ds =
    if list_all is_number ds then (in_turn number_reading ds >>= λ ns. Ok (arg.List ns))
    else Err BadArgs

abbrev pub arg_steps : Data → Result Arg SigFault
arg_steps (number n) = in_range_or_refused (as_i64 n) >>= λ z. Ok (arg.Num z)
arg_steps (string s) = Ok (arg.Text s)
arg_steps (array ds) = list_reading (items ds)
arg_steps d = Err BadArgs

-- a task, from the function that reads its links and error callbacks
abbrev pub task_with : (Data → Result Task SigFault) → Data → Result Task SigFault
task_with f d =
    in_turn arg_reading (listed (args d)) >>= λ args.
    in_turn named_reading (object_members (kwargs d)) >>= λ kwargs.
    in_turn f (as_list (link d)) >>= λ links.
    in_turn f (as_list (link_error d)) >>= λ errbacks.
    Ok (task 0 (record {
      name = text_of (field (codes "task") d);
      args = args;
      kwargs = kwargs;
      immutable = is_true (field (codes "immutable") d);
    }) (tasks_of links)
    (tasks_of errbacks))

abbrev pub linked_with : (Data → Result Task SigFault) → Data → Result Task SigFault
linked_with f d = unless (own_fault true d) (task_with f d)

-- Reads a link or an error callback. The number bounds how deep signatures nest; JSON that can be
-- read nests at most `max_depth` deep, so one more is enough, and 0 isn't reached.
abbrev pub task_reading : ℕ → Data → Result Task SigFault
task_reading zero d = Err TooDeep
task_reading (suc n) d = linked_with (task_reading n) d

-- the members of a header, which is a list or a single group signature
abbrev pub header_reading : (Data → Result Tree SigFault) → Data → Result Trees SigFault
header_reading f (array ds) = in_turn f (items ds) >>= λ ts. Ok (trees_of ts)
header_reading f d = f d >>= λ t. Ok (members_in t)

-- a signature of a kind, from the functions that read links and nested signatures
abbrev pub tree_as : (Data → Result Task SigFault) → (Data → Result Tree SigFault)
    → Option Primitive → Data → Result Tree SigFault
tree_as g f (Some kind.Chain) d = in_turn f (listed (tasks d)) >>= λ ts. Ok (chain (trees_of ts))
tree_as g f (Some kind.Group) d = in_turn f (listed (tasks d)) >>= λ ts. Ok (group 0 (trees_of ts))
tree_as g f (Some kind.Chord) d =
    header_reading f (header d) >>= λ ts. f (body d) >>= λ t. Ok (chord 0 ts t)
tree_as g f p d = task_with g d >>= λ t. Ok (one t)

abbrev pub tree_with : (Data → Result Task SigFault) → (Data → Result Tree SigFault) → Data
    → Result Tree SigFault
tree_with g f d = unless (own_fault false d) (tree_as g f (primitive_of (subtype d)) d)

-- a signature that is not a link, to the same depth
abbrev pub tree_reading : ℕ → Data → Result Tree SigFault
tree_reading zero d = Err TooDeep
tree_reading (suc n) d = tree_with (task_reading n) (tree_reading n) d

-- ---- texts

abbrev pub json_reading : Option Data → Result Data SigFault
json_reading None = Err NotJson
json_reading (Some d) = Ok d
