-- The text of steps into a signature of Celery, as `json.dumps` writes it: a JSON Pointer (RFC
-- 6901).
use Rattle.std.specs.Prelude.{ℕ, ◌^◌, ◌<◌, List, [], ◌∷◌, ◌++◌, Option, Some, None, codes}
use Rattle.std.specs.Fmt.{decimal}
use Rattle.canvas_task.specs.Text.{Text}
use Rattle.canvas_check.specs.declared.step.Field.{Field}
use Rattle.canvas_check.specs.declared.step.Field.TheVariants as field
use Rattle.canvas_check.specs.declared.step.Step.{Step}

abbrev pub field_text : Field → Text
field_text field.Elements = codes "/kwargs/tasks"
field_text field.Members = codes "/kwargs/tasks"
field_text field.Header = codes "/kwargs/header"
field_text field.Body = codes "/kwargs/body"
field_text field.Links = codes "/options/link"
field_text field.Errbacks = codes "/options/link_error"

abbrev pub index_text : Option ℕ → Text
index_text None = []
index_text (Some i) = codes "/" ++ decimal i

abbrev pub step_text : Step → Text
step_text s = field_text s.field ++ index_text s.index

abbrev pub pointer_text : List Step → Text
pointer_text [] = []
pointer_text (s ∷ steps) = step_text s ++ pointer_text steps

-- each index fits in 64 bits, so that a pointer can contain it
abbrev pub IsIndex : Option ℕ → Type 0
IsIndex None = Unit {0}
IsIndex (Some i) = i < 2 ^ 64

abbrev pub AreIndices : List Step → Type 0
AreIndices [] = Unit {0}
AreIndices (s ∷ steps) = IsIndex s.index × AreIndices steps
