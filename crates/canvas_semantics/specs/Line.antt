-- Lines as data: tasks, then nothing, a group, or a chord whose body is what follows it. Plans and
-- messages consist of lines (Celery user guide, Canvas: chains, groups and chords; a group that a
-- task follows is a chord). A line cannot contain a chain in a chain.
use Rattle.std.specs.Prelude.{ℕ, zero, suc, ◌+◌, List, [], ◌∷◌, ◌++◌, Bool, true, false, Option, Some, None, length, slice_get, if◌then◌else◌}
use Rattle.canvas_semantics.specs.Tree.{Task, task, Tasks, no_tasks, and_task, Tree, one, chain, group, chord, Trees, no_trees, and_tree, count_task, number_task}

mutual
  pub data Line : Type 0 where
    stop : Line
    step : Task → Line → Line
    group_end : (number : ℕ) → Lines → Line
    chord_end : (number : ℕ) → (header : Lines) → (body : Line) → Line

  pub data Lines : Type 0 where
    no_lines : Lines
    and_line : Line → Lines → Lines

-- The elements of a line as trees. A line is evaluated as the chain of its elements.
abbrev mutual
  pub elements_of : Line → Trees
  elements_of stop = no_trees
  elements_of (step t l) = and_tree (one t) (elements_of l)
  elements_of (group_end g ms) = and_tree (group g (members_of ms)) no_trees
  elements_of (chord_end g ms b) =
      and_tree (chord g (members_of ms) (chain (elements_of b))) no_trees

  pub members_of : Lines → Trees
  members_of no_lines = no_trees
  members_of (and_line m ms) = and_tree (chain (elements_of m)) (members_of ms)

-- the tree of a line
abbrev pub tree_of : Line → Tree
tree_of l = chain (elements_of l)

-- ---- numbers in file order, as those of the tree

abbrev mutual
  pub count_line : Line → ℕ
  count_line stop = 0
  count_line (step t l) = count_task t + count_line l
  count_line (group_end g ms) = count_lines ms
  count_line (chord_end g ms b) = count_lines ms + count_line b

  pub count_lines : Lines → ℕ
  count_lines no_lines = 0
  count_lines (and_line m ms) = count_line m + count_lines ms

abbrev mutual
  pub line_groups : Line → ℕ
  line_groups stop = 0
  line_groups (step t l) = line_groups l
  line_groups (group_end g ms) = 1 + lines_groups ms
  line_groups (chord_end g ms b) = 1 + lines_groups ms + line_groups b

  pub lines_groups : Lines → ℕ
  lines_groups no_lines = 0
  lines_groups (and_line m ms) = line_groups m + lines_groups ms

abbrev mutual
  pub number_line : ℕ → ℕ → Line → Line
  number_line k g stop = stop
  number_line k g (step t l) = step (number_task k t) (number_line (k + count_task t) g l)
  number_line k g (group_end _ ms) = group_end g (number_lines k (g + 1) ms)
  number_line k g (chord_end _ ms b) =
      chord_end g (number_lines k (g + 1) ms)
      (number_line (k + count_lines ms) (g + 1 + lines_groups ms) b)

  pub number_lines : ℕ → ℕ → Lines → Lines
  number_lines k g no_lines = no_lines
  number_lines k g (and_line m ms) =
      and_line (number_line k g m) (number_lines (k + count_line m) (g + line_groups m) ms)

-- ---- the ends: the last task, or those of a group's members in order

-- a task's number
abbrev pub no_of : Task → ℕ
no_of (task k call links errbacks) = k

abbrev mutual
  pub ends_of : Line → List ℕ
  ends_of stop = []
  ends_of (step t stop) = no_of t ∷ []
  ends_of (step t l) = ends_of l
  ends_of (group_end g ms) = all_ends_of ms
  ends_of (chord_end g ms b) = ends_of b

  pub all_ends_of : Lines → List ℕ
  all_ends_of no_lines = []
  all_ends_of (and_line m ms) = ends_of m ++ all_ends_of ms

-- ---- the contents of a plan: names in file order, and groups and chords by number

-- a task's name, then those of its links, then those of its error callbacks
abbrev mutual
  pub task_names : Task → List (List ℕ)
  task_names (task k call links errbacks) = call.name ∷ tasks_names links ++ tasks_names errbacks

  pub tasks_names : Tasks → List (List ℕ)
  tasks_names no_tasks = []
  tasks_names (and_task t ts) = task_names t ++ tasks_names ts

-- the i-th name is that of task i
abbrev mutual
  pub names : Line → List (List ℕ)
  names stop = []
  names (step t l) = task_names t ++ names l
  names (group_end g ms) = all_names ms
  names (chord_end g ms b) = all_names ms ++ names b

  pub all_names : Lines → List (List ℕ)
  all_names no_lines = []
  all_names (and_line m ms) = names m ++ all_names ms

-- a group or chord, with the ends of its members
pub record GroupEntry : Type 0 where
  pub chord : Bool
  pub members : List ℕ

-- the entries in file order, so that the i-th has number i
abbrev mutual
  pub group_entries : Line → List GroupEntry
  group_entries stop = []
  group_entries (step t l) = group_entries l
  group_entries (group_end g ms) =
      record { chord = false; members = all_ends_of ms } ∷ all_group_entries ms
  group_entries (chord_end g ms b) =
      record { chord = true; members = all_ends_of ms } ∷ all_group_entries ms ++ group_entries b

  pub all_group_entries : Lines → List GroupEntry
  all_group_entries no_lines = []
  all_group_entries (and_line m ms) = group_entries m ++ all_group_entries ms

-- the group or chord of a number, from 1
abbrev pub entry_at : List GroupEntry → ℕ → Option GroupEntry
entry_at ts zero = None
entry_at ts (suc g) = slice_get ts g

-- the ends of the members of a group or chord; an unknown number has none
abbrev pub entry_members : Option GroupEntry → List ℕ
entry_members None = []
entry_members (Some t) = t.members

abbrev pub members : Line → ℕ → List ℕ
members l g = entry_members (entry_at (group_entries l) g)

-- the number of members of a chord; None for a group
abbrev pub entry_size : Option GroupEntry → Option ℕ
entry_size None = None
entry_size (Some t) = if t.chord then Some (length t.members) else None

abbrev pub size : Line → ℕ → Option ℕ
size l g = entry_size (entry_at (group_entries l) g)

-- the name of the task of a number, from 1
abbrev pub name_at : List (List ℕ) → ℕ → Option (List ℕ)
name_at ns zero = None
name_at ns (suc k) = slice_get ns k

abbrev pub name_of : Line → ℕ → Option (List ℕ)
name_of l k = name_at (names l) k

-- whether the ends are those of a group
abbrev pub in_group : Line → Bool
in_group stop = false
in_group (step t l) = in_group l
in_group (group_end g ms) = true
in_group (chord_end g ms b) = in_group b
