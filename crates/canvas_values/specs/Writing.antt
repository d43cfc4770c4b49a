-- The JSON value of a signature, with all six members in the byte order of their names (Celery user
-- guide, Canvas).
use Rattle.std.specs.Prelude.{ℕ, Bool, false, List, [], ◌∷◌, ◌++◌, codes, ℤ}
use Rattle.serde_json.specs.Data.{Data, null, boolean, number, string, array, object, Items, no_items, item, Members, no_members, member}
use Rattle.serde_json.specs.Find.{of_integer}
use Rattle.canvas_task.specs.declared.arg.Arg.{Arg}
use Rattle.canvas_task.specs.declared.arg.Arg.TheVariants as arg
use Rattle.canvas_semantics.specs.Tree.{Call, Task, task, Tasks, no_tasks, and_task, Tree, one, chain, group, chord, Trees, no_trees, and_tree}

-- ---- arguments

abbrev pub number_wire : ℤ → Data
number_wire n = number (of_integer n)

abbrev pub numbers_wire : List ℤ → Items
numbers_wire [] = no_items
numbers_wire (n ∷ ns) = item (number_wire n) (numbers_wire ns)

abbrev pub arg_wire : Arg → Data
arg_wire (arg.Num n) = number_wire n
arg_wire (arg.List ns) = array (numbers_wire ns)
arg_wire (arg.Text s) = string s

abbrev pub args_wire : List Arg → Items
args_wire [] = no_items
args_wire (a ∷ args) = item (arg_wire a) (args_wire args)

abbrev pub kwargs_wire : List (List ℕ × Arg) → Members
kwargs_wire [] = no_members
kwargs_wire (e ∷ es) = member e.0 (arg_wire e.1) (kwargs_wire es)

-- ---- signatures

-- a member with a list of signatures before further members, omitted if the list is empty
abbrev pub member_unless_empty : List ℕ → Items → Members → Members
member_unless_empty k no_items more = more
member_unless_empty k (item d ds) more = member k (array (item d ds)) more

abbrev pub options_wire : (links errbacks : Items) → Members
options_wire links errbacks =
    member_unless_empty (codes "link") links
    (member_unless_empty (codes "link_error") errbacks no_members)

abbrev pub signature : (args : Items) (immutable : Bool) (kwargs options : Members) (kind : Data)
    (name : List ℕ) → Data
signature args immutable kwargs options kind name =
    object (member (codes "args") (array args)
    (member (codes "immutable") (boolean immutable)
    (member (codes "kwargs") (object kwargs)
    (member (codes "options") (object options)
    (member (codes "subtask_type") kind
    (member (codes "task") (string name) no_members))))))

-- ---- tasks

abbrev pub call_wire : Call → (options : Members) → Data
call_wire call options =
    signature (args_wire call.args) call.immutable (kwargs_wire call.kwargs) options null call.name

abbrev mutual
  pub task_wire : Task → Data
  task_wire (task k call links errbacks) =
      call_wire call (options_wire (tasks_wire links) (tasks_wire errbacks))

  pub tasks_wire : Tasks → Items
  tasks_wire no_tasks = no_items
  tasks_wire (and_task t ts) = item (task_wire t) (tasks_wire ts)

-- ---- chains, groups and chords

-- only the keyword arguments, the kind, and the name of the kind differ
abbrev pub primitive_wire : (kind : List ℕ) → (kwargs : Members) → Data
primitive_wire kind kwargs =
    signature no_items false kwargs no_members (string kind) (codes "celery." ++ kind)

abbrev pub tasks_member : Items → Members
tasks_member tasks = member (codes "tasks") (array tasks) no_members

-- a header is written as a list
abbrev pub chord_members : (body : Data) → (header : Items) → Members
chord_members body header =
    member (codes "body") body (member (codes "header") (array header) no_members)

abbrev mutual
  pub tree_wire : Tree → Data
  tree_wire (one t) = task_wire t
  tree_wire (chain ts) = primitive_wire (codes "chain") (tasks_member (trees_wire ts))
  tree_wire (group g ms) = primitive_wire (codes "group") (tasks_member (trees_wire ms))
  tree_wire (chord g h b) =
      primitive_wire (codes "chord") (chord_members (tree_wire b) (trees_wire h))

  pub trees_wire : Trees → Items
  trees_wire no_trees = no_items
  trees_wire (and_tree t ts) = item (tree_wire t) (trees_wire ts)
