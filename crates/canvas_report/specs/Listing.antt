-- The text of a report, given the line and the value of each task: their lines in the order of
-- their numbers, and one for the result.
use Rattle.std.specs.Prelude.{ℕ, Bool, true, false, List, [], ◌∷◌, ◌++◌, codes}
use Rattle.canvas_task.specs.Text.{Text}
use Rattle.canvas_semantics.specs.Evaluation.{ends}
use Rattle.canvas_semantics.specs.Report.{names_by_number}
use Rattle.canvas_semantics.specs.Tree.{Tree, ends_in_group}

abbrev pub lines : (ℕ × Text → Text) → List (ℕ × Text) → Text
lines f [] = []
lines f (t ∷ ts) = f t ++ lines f ts

-- values, with a comma and a space between two
abbrev pub listed : (ℕ → Text) → List ℕ → Text
listed f [] = []
listed f (k ∷ []) = f k
listed f (k ∷ ks) = f k ++ codes ", " ++ listed f ks

-- the result of a canvas, a list if it ends in a group
abbrev pub result_by : (ℕ → Text) → Bool → List ℕ → Text
result_by f true ks = codes "[" ++ listed f ks ++ codes "]"
result_by f false ks = listed f ks

abbrev pub report_by : (ℕ × Text → Text) → (ℕ → Text) → Tree → Text
report_by line value c =
    lines line (names_by_number c) ++ codes "result "
    ++ result_by value (ends_in_group c) (ends c) ++ codes "\n"
