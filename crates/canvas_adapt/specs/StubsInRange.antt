-- The outcome of every call is in range, for any stubs.
use Rattle.std.specs.Prelude.{Bool, true, false, List, Option, Some, None, if◌then◌else◌}
use Rattle.canvas_task.specs.Text.{Text}
use Rattle.canvas_task.specs.Apply.{AnswersInRange, Behaviour, IsInRange}
use Rattle.canvas_task.specs.BehaviourInRange.{outcome_fits}
use Rattle.canvas_task.specs.declared.arg.Arg.{Arg}
use Rattle.canvas_task.specs.declared.outcome.Outcome.{Outcome}
use Rattle.canvas_adapt.specs.declared.stubs.stub.Does.{Does}
use Rattle.canvas_adapt.specs.declared.stubs.stub.Stub.{Stub}
use Rattle.canvas_adapt.specs.Stubs.{any_name, is_unknown, or_any, stub_answer, stub_of, stubbed, stubs_behaviour}

stubbed_fits : (o : Option Does) (args : List Arg) (named : List (Text × Arg)) (other : Outcome)
    → IsInRange other → IsInRange (stubbed o args named other)
stubbed_fits None args named other h = h
stubbed_fits (Some does) args named other h = outcome_fits (stub_answer does args named)

either_fits : (b : Bool) (o p : Outcome) → IsInRange o → IsInRange p
    → IsInRange (if b then o else p)
either_fits true o p h k = h
either_fits false o p h k = k

any_fits : (o : Option Does) (args : List Arg) (named : List (Text × Arg)) (other : Outcome)
    → IsInRange other → IsInRange (or_any o args named other)
any_fits o args named other h =
    either_fits (is_unknown other) (stubbed o args named other) other
    (stubbed_fits o args named other h) h

pub stubs_in_range : (stubs : List Stub) (tasks : Behaviour) → AnswersInRange tasks
    → AnswersInRange (stubs_behaviour stubs tasks)
stubs_in_range stubs tasks h name args named =
    stubbed_fits (stub_of name stubs) args named
    (or_any (stub_of any_name stubs) args named (tasks name args named))
    (any_fits (stub_of any_name stubs) args named (tasks name args named) (h name args named))
