-- The behaviour of tasks that stubs come before.
use Rattle.std.specs.Prelude.{Bool, true, false, if◌then◌else◌, List, [], ◌∷◌, Option, Some, None, Ok, Err, codes, is_some}
use Rattle.std.specs.Str.{bytes_eq}
use Rattle.canvas_task.specs.Text.{Text}
use Rattle.canvas_task.specs.Apply.{Behaviour, Meaning, outcome}
use Rattle.canvas_task.specs.Builtin.{meaning}
use Rattle.canvas_task.specs.declared.arg.Arg.{Arg}
use Rattle.canvas_task.specs.declared.outcome.Kind.TheVariants.{NotRegistered}
use Rattle.canvas_task.specs.declared.outcome.Fault.TheVariants.{Plain}
use Rattle.canvas_task.specs.declared.outcome.Outcome.{Outcome}
use Rattle.canvas_task.specs.declared.outcome.Outcome.TheVariants.{Failure}
use Rattle.canvas_adapt.specs.declared.stubs.stub.Does.{Does}
use Rattle.canvas_adapt.specs.declared.stubs.stub.Does.TheVariants.{SameAs, Gives, Raises}
use Rattle.canvas_adapt.specs.declared.stubs.stub.Stub.{Stub}

-- a stub's answer to a call: that of a built-in task, or the same to every call
abbrev pub stub_answer : Does → Meaning
stub_answer (SameAs task) args named = meaning task args named
stub_answer (Gives n) args named = Ok n
stub_answer (Raises kind) args named = Err kind

-- the action of the first stub of a name
abbrev pub stub_of : Text → List Stub → Option Does
stub_of name [] = None
stub_of name (s ∷ ss) = if bytes_eq s.name name then Some s.does else stub_of name ss

abbrev pub has_stub : Text → List Stub → Bool
has_stub name stubs = is_some (stub_of name stubs)

-- the name of the stub that answers for every name without a task
abbrev pub any_name : Text
any_name = codes "*"

-- the outcome of a call, from the action of its stub, if any; `other` is the outcome without one
abbrev pub stubbed : Option Does → List Arg → List (Text × Arg) → Outcome → Outcome
stubbed None args named other = other
stubbed (Some does) args named other = outcome (stub_answer does args named)

-- whether the outcome says that no task has the called name
abbrev pub is_unknown : Outcome → Bool
is_unknown (Failure (Plain NotRegistered)) = true
is_unknown o = false

abbrev pub or_any : Option Does → List Arg → List (Text × Arg) → Outcome → Outcome
or_any stub args named other =
    if is_unknown other then stubbed stub args named other else other

-- the behaviour of tasks that stubs come before: the stub of the name answers, or else the task of
-- the name, or else the stub `*`
abbrev pub stubs_behaviour : List Stub → Behaviour → Behaviour
stubs_behaviour stubs tasks name args named =
    stubbed (stub_of name stubs) args named
    (or_any (stub_of any_name stubs) args named (tasks name args named))
