-- The names that `--task` may have for a canvas. The rule is this project's own.
use Rattle.std.specs.Prelude.{◌≡◌, ◌||◌, Bool, false, if◌then◌else◌, List, [], ◌∷◌, Option, Some, None, is_some, string_bytes}
use Rattle.std.specs.Str.{bytes_eq}
use Rattle.canvas_task.specs.Builtin.{builtin_named}
use Rattle.canvas_task.specs.Text.{Text}
use Rattle.canvas_adapt.specs.Stubs.{any_name}
use Rattle.canvas_adapt.specs.declared.stubs.stub.Stub.{Stub}
use Rattle.canvas_answer.specs.declared.refusal.Refusal.{Refusal}
use Rattle.canvas_answer.specs.declared.refusal.Refusal.TheVariants.{NoTaskNamed, Memory}

-- `*`, or the name of a built-in task
abbrev pub is_common : Text → Bool
is_common name = bytes_eq name any_name || is_some (builtin_named name)

-- whether a task's name, if there is one, is this
abbrev pub is_called : Option Text → Text → Bool
is_called None name = false
is_called (Some task) name = bytes_eq task name

abbrev pub has_name : Text → List Text → Bool
has_name name [] = false
has_name name (n ∷ ns) = bytes_eq n name || has_name name ns

-- the first name of some stubs that is none of these
abbrev pub first_unknown : List Text → List Stub → Option Text
first_unknown names [] = None
first_unknown names (s ∷ ss) =
    if is_common s.name || has_name s.name names then first_unknown names ss else Some s.name

-- the refusal of a name that was found, or memory was refused
abbrev pub IsUnknownName : Option Text → Refusal → Type 0
IsUnknownName found (NoTaskNamed name near) = found ≡ Some (string_bytes name)
IsUnknownName found Memory = Unit {0}
IsUnknownName found refusal = ⊥
