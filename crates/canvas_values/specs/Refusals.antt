-- The first fault of a signature (Celery's, as `json.dumps(signature)` writes it) in file order,
-- and, defined separately, the canvas that a signature without faults spells.
use Rattle.std.specs.Prelude.{ℕ, zero, suc, Bool, true, false, List, [], ◌∷◌, ◌++◌, map, Option, Some, None, codes}
use Rattle.serde_json.specs.Data.{Data, array, depth}
use Rattle.canvas_task.specs.declared.arg.Arg.{Arg}
use Rattle.canvas_values.specs.declared.fault.SigFault.{SigFault}
use Rattle.canvas_values.specs.declared.primitive.Primitive.{Primitive}
use Rattle.canvas_values.specs.declared.primitive.Primitive.TheVariants as kind
use Rattle.canvas_task.specs.Text.{Text}
use Rattle.canvas_values.specs.Fields.{field, subtype, args, kwargs, tasks, header, body, link, link_error, items, listed, as_list, object_members, is_true, text_of}
use Rattle.canvas_values.specs.Answers.{◌or_else◌}
use Rattle.canvas_values.specs.Grammar.{argument_of, own_fault, primitive_of, members_in}
use Rattle.canvas_semantics.specs.Tree.{Call, Task, task, Tree, one, chain, group, chord, Trees}
use Rattle.canvas_values.specs.SignatureView.{tasks_of, trees_of}

-- ---- the first fault

abbrev pub first_fault : (Data → Option SigFault) → List Data → Option SigFault
first_fault f [] = None
first_fault f (d ∷ ds) = f d or_else first_fault f ds

-- the signatures in the keyword arguments: tasks; header, then body
abbrev pub in_kwargs : Option Primitive → Data → List Data
in_kwargs (Some kind.Chain) d = listed (tasks d)
in_kwargs (Some kind.Group) d = listed (tasks d)
in_kwargs (Some kind.Chord) d = as_list (header d) ++ body d ∷ []
in_kwargs p d = []

-- A signature comes before those nested in it, and these in the order tasks; header, body; link,
-- link_error. The first with a fault decides. A header that is a group signature is a signature of
-- its own. The number bounds how deep arrays and objects nest in the value: at 0 it contains no
-- signatures.
abbrev pub fault_within : ℕ → Bool → Data → Option SigFault
fault_within zero linked d = own_fault linked d
fault_within (suc n) linked d =
    own_fault linked d or_else first_fault (fault_within n false)
    (in_kwargs (primitive_of (subtype d)) d)
    or_else first_fault (fault_within n true) (as_list (link d)) or_else first_fault
    (fault_within n true) (as_list (link_error d))

-- ---- what a signature without a fault spells

abbrev pub named_of : Text × Data → Text × Arg
named_of e = (e.0, argument_of e.1)

abbrev pub spelled_call : Data → Call
spelled_call d = record {
  name = text_of (field (codes "task") d);
  args = map argument_of (listed (args d));
  kwargs = map named_of (object_members (kwargs d));
  immutable = is_true (field (codes "immutable") d);
}

abbrev pub task_within : ℕ → Data → Task
task_within zero d = task 0 (spelled_call d) (tasks_of []) (tasks_of [])
task_within (suc n) d =
    task 0 (spelled_call d) (tasks_of (map (task_within n) (as_list (link d))))
    (tasks_of (map (task_within n) (as_list (link_error d))))

-- the members of a header, which is a list or a single group signature
abbrev pub header_of : (Data → Tree) → Data → Trees
header_of f (array ds) = trees_of (map f (items ds))
header_of f d = members_in (f d)

-- the tree of a signature of a kind, from the trees of its parts, and its own task
abbrev pub tree_from : Task → (Data → Tree) → Option Primitive → Data → Tree
tree_from t f (Some kind.Chain) d = chain (trees_of (map f (listed (tasks d))))
tree_from t f (Some kind.Group) d = group 0 (trees_of (map f (listed (tasks d))))
tree_from t f (Some kind.Chord) d = chord 0 (header_of f (header d)) (f (body d))
tree_from t f p d = one t

abbrev pub tree_within : ℕ → Data → Tree
tree_within zero d = one (task_within zero d)
tree_within (suc n) d =
    tree_from (task_within (suc n) d) (tree_within n) (primitive_of (subtype d)) d

-- ---- The depth of the value as the bound, which leaves no signature out: `law_of_parts` states
-- the same without a number (`ByParts`).

unfoldable pub signature_fault : Data → Option SigFault
signature_fault d = fault_within (depth d) false d

unfoldable pub tree_said : Data → Tree
tree_said d = tree_within (depth d) d
