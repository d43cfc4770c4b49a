-- Why a result is not an outcome of the engine's own tasks.
use Rattle.std.specs.Prelude.{◌≡◌, ◌≢◌, ℕ, ℤ, true, Some, codes}
use Rattle.serde_json.specs.Data.{Data}
use Rattle.canvas_task.specs.Text.{Text}
use Rattle.canvas_task.specs.Numbers.{in_range}
use Rattle.canvas_task.specs.Printed.{kind_name}
use Rattle.canvas_task.specs.declared.outcome.Kind.{Kind}
use Rattle.canvas_task.specs.declared.outcome.Why.{Why}
use Rattle.canvas_celery.specs.declared.results.stored.Lack.{Lack}
use Rattle.canvas_celery.specs.declared.results.stored.Lack.TheVariants as lack
use Rattle.canvas_celery.specs.Stored.{state_of, result_of, class_of, message_of, integer_in}
use Rattle.canvas_celery.specs.Stored.{Blames, Waits}

-- the reasons for an exception
abbrev pub LacksFault : (run : Text) → (count : ℕ) → Data → Lack → Type 0
LacksFault run count d lack.Exception =
    (class_of d ≢ codes "ChordError") × ((kind : Kind) → class_of d ≢ kind_name kind)
LacksFault run count d lack.Dependency =
    (class_of d ≡ codes "ChordError")
    × ((dep : ℕ) (why : Why) → ¬ Blames run count (message_of d) dep why)
LacksFault run count d lack.State = ⊥
LacksFault run count d lack.Number = ⊥

-- the reasons for a result of the task in this run
abbrev pub LacksOutcome : (run : Text) → (count : ℕ) → Data → Lack → Type 0
LacksOutcome run count d lack.State =
    (state_of d ≢ codes "SUCCESS") × (state_of d ≢ codes "FAILURE") × (¬ Waits (state_of d))
LacksOutcome run count d lack.Number =
    (state_of d ≡ codes "SUCCESS")
    × ((n : ℤ) → integer_in (result_of d) ≡ Some n → in_range n ≢ true)
LacksOutcome run count d fault =
    (state_of d ≡ codes "FAILURE") × LacksFault run count (result_of d) fault
