-- Lists of tasks and of lines, numbered one after another, without places.
use Rattle.std.specs.Prelude.{ℕ, ◌+◌, ◌≤◌, List, [], ◌∷◌, ◌++◌}
use Rattle.canvas_semantics.specs.Tree.{Task, count_task, number_task}
use Rattle.canvas_semantics.specs.Line.{Line, count_line, line_groups, number_line, ends_of, group_entries, GroupEntry, task_names, names}
use Rattle.canvas_semantics.specs.PlacedLine.{PTask, bare_task, PLine, bare}

-- the largest number of a task or group
abbrev pub greatest_number : ℕ
greatest_number = 4294967295

-- tasks numbered one after another from a number, and their count
abbrev pub tasks_from : ℕ → List Task → List PTask
tasks_from k [] = []
tasks_from k (t ∷ ts) = bare_task (number_task k t) ∷ tasks_from (k + count_task t) ts

abbrev pub tasks_in : List Task → ℕ
tasks_in [] = 0
tasks_in (t ∷ ts) = count_task t + tasks_in ts

-- lines numbered one after another, with the counts of their tasks and of their groups and chords
abbrev pub lines_from : ℕ → ℕ → List Line → List PLine
lines_from k g [] = []
lines_from k g (l ∷ ls) =
    bare (number_line k g l) ∷ lines_from (k + count_line l) (g + line_groups l) ls

abbrev pub lines_count : List Line → ℕ
lines_count [] = 0
lines_count (l ∷ ls) = count_line l + lines_count ls

abbrev pub lines_group_count : List Line → ℕ
lines_group_count [] = 0
lines_group_count (l ∷ ls) = line_groups l + lines_group_count ls

-- n tasks and m groups can be numbered from k and g
abbrev pub HasRoom : ℕ → ℕ → ℕ → ℕ → Type 0
HasRoom k g n m = (1 ≤ k) × (1 ≤ g) × (k + n ≤ greatest_number) × (g + m ≤ greatest_number)

-- the ends of the lines of a list, their groups and chords, and the names of tasks and lines, one
-- after another
abbrev pub lines_ends : List Line → List ℕ
lines_ends [] = []
lines_ends (l ∷ ls) = ends_of l ++ lines_ends ls

abbrev pub lines_group_entries : List Line → List GroupEntry
lines_group_entries [] = []
lines_group_entries (l ∷ ls) = group_entries l ++ lines_group_entries ls

abbrev pub tasks_all_names : List Task → List (List ℕ)
tasks_all_names [] = []
tasks_all_names (t ∷ ts) = task_names t ++ tasks_all_names ts

abbrev pub lines_all_names : List Line → List (List ℕ)
lines_all_names [] = []
lines_all_names (l ∷ ls) = names l ++ lines_all_names ls
