-- The parameters that make calls of a run TypeErrors. A built-in task answers a call if the call
-- has its name, or if a stub does as it; the parameters of any other task aren't known. What comes
-- before a call's own arguments depends on its place (Celery user guide, Canvas: a callback gets
-- the result of its task and an error callback its identifier, a chord's body gets a list).
use Rattle.std.specs.Prelude.{◌≡◌, ◌&&◌, if◌then◌else◌, ℕ, Bool, true, false, List, [], ◌∷◌, ◌++◌, map, Option, None, Some, String, string_bytes, option_map}
use Rattle.std.specs.declared.alloc.Global.{Global}
use Rattle.canvas_task.specs.Builtin.{builtin_named}
use Rattle.canvas_task.specs.Text.{Text}
use Rattle.canvas_task.specs.declared.builtin.Builtin.{Builtin}
use Rattle.canvas_task.specs.declared.outcome.Fault.TheVariants.{Plain}
use Rattle.canvas_task.specs.declared.outcome.Kind.TheVariants.{BadCall}
use Rattle.canvas_task.specs.declared.outcome.Outcome.TheVariants.{Failure}
use Rattle.canvas_semantics.specs.Evaluation.{State, state_of}
use Rattle.canvas_semantics.specs.Line.{Line, stop, step, group_end, chord_end, Lines, no_lines, and_line}
use Rattle.canvas_semantics.specs.States.{rows_from}
use Rattle.canvas_semantics.specs.Tree.{Call, Task, task, Tasks, no_tasks, and_task}
use Rattle.canvas_report.specs.Fates.{Fates, fate_at}
use Rattle.canvas_report.specs.declared.fate.Fate.{Fate}
use Rattle.canvas_report.specs.declared.fate.Fate.TheVariants.{Ran}
use Rattle.canvas_adapt.specs.Stubs.{any_name, stub_of}
use Rattle.canvas_adapt.specs.declared.stubs.stub.Does.{Does}
use Rattle.canvas_adapt.specs.declared.stubs.stub.Does.TheVariants.{SameAs}
use Rattle.canvas_adapt.specs.declared.stubs.stub.Stub.{Stub}
use Rattle.canvas_check.specs.Calls.{taken}
use Rattle.canvas_check.specs.Parameters.{blamed}
use Rattle.canvas_check.specs.declared.position.Input.{Input}
use Rattle.canvas_check.specs.declared.position.Input.TheVariants.{Nothing, Number, Numbers, Identifier}

-- ---- the built-in task that answers a call

abbrev pub builtin_done : Option Does → Option Builtin
builtin_done (Some (SameAs t)) = Some t
builtin_done does = None

abbrev pub builtin_or : Option Builtin → (any : Option Does) → Option Builtin
builtin_or (Some t) any = Some t
builtin_or None any = builtin_done any

abbrev pub builtin_after : (own : Option Does) → Option Builtin → Option Builtin
builtin_after None other = other
builtin_after own other = builtin_done own

-- the task that the name's stub does as, or else the task of the name, or else that of the stub `*`
abbrev pub builtin_of : List Stub → Text → Option Builtin
builtin_of stubs name =
    builtin_after (stub_of name stubs) (builtin_or (builtin_named name) (stub_of any_name stubs))

-- The parameter at fault, if there is one, of a call that a built-in task answers.
abbrev pub blame : List Stub → Call → Input → Option (Option Text)
blame stubs call i =
    option_map
    (λ t. option_map (λ b. b.0) (blamed t call.args call.kwargs (taken call i)))
    (builtin_of stubs call.name)

-- ---- the calls of a run that are TypeErrors

abbrev pub is_called : Option Fate → Bool
is_called (Some Ran) = true
is_called fate = false

abbrev pub is_type_error : State → Bool
is_type_error (Some (Failure (Plain BadCall))) = true
is_type_error s = false

abbrev pub is_bad_call : Fates → List State → ℕ → Bool
is_bad_call fates ss k =
    is_called (fate_at fates k) && is_type_error (state_of k (rows_from 1 ss))

-- ---- each such call with its parameter, in the order of the file

abbrev pub Blames : Type 0
Blames = List (ℕ × Option Text)

abbrev pub blames_of : ℕ → Option (Option Text) → Blames
blames_of k None = []
blames_of k (Some parameter) = (k, parameter) ∷ []

module _ (stubs : List Stub) (is_bad : ℕ → Bool) where
  abbrev pub own_blames : ℕ → Call → Input → Blames
  own_blames k call i = if is_bad k then blames_of k (blame stubs call i) else []

  abbrev mutual
    pub task_blames : Task → Input → Blames
    task_blames (task k call links errbacks) i =
        own_blames k call i ++ tasks_blames links Number ++ tasks_blames errbacks Identifier

    pub tasks_blames : Tasks → Input → Blames
    tasks_blames no_tasks i = []
    tasks_blames (and_task t ts) i = task_blames t i ++ tasks_blames ts i

  abbrev mutual
    pub line_blames : Line → Input → Blames
    line_blames stop i = []
    line_blames (step t rest) i = task_blames t i ++ line_blames rest Number
    line_blames (group_end g ms) i = lines_blames ms i
    line_blames (chord_end g ms body) i = lines_blames ms i ++ line_blames body Numbers

    pub lines_blames : Lines → Input → Blames
    lines_blames no_lines i = []
    lines_blames (and_line m ms) i = line_blames m i ++ lines_blames ms i

-- the blames of a run with these fates and states; nothing comes before the first call
abbrev pub blames : List Stub → Fates → List State → Line → Blames
blames stubs fates ss l = line_blames stubs (is_bad_call fates ss) l Nothing

-- how a report has a blame
abbrev pub blame_said : ℕ × Option (String Global) → ℕ × Option Text
blame_said b = (b.0, option_map (λ name. string_bytes name) b.1)

abbrev pub AreBlames : Blames → List (ℕ × Option (String Global)) → Type 0
AreBlames said blamed = map blame_said blamed ≡ said
