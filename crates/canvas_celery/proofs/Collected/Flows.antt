-- What is known of a flow of an evaluation, by the rows of outcomes.
use Rattle.std.proofs.Common.{◌≡◌, ◌⊎◌, ℕ, List, [], ◌∷◌, map, Some, None, IsSome}
use Rattle.std.specs.Prelude.{slice_index_or}
use Rattle.canvas_task.specs.declared.outcome.Fault.{Fault}
use Rattle.canvas_task.specs.declared.outcome.Fault.TheVariants as fault
use Rattle.canvas_task.specs.declared.outcome.Outcome.TheVariants.{Failure}
use Rattle.canvas_semantics.specs.Evaluation.{Flow, skip, raised, State, Rows, why_of}
use Rattle.canvas_celery.specs.Completed.{state_at}
use Rattle.canvas_celery.specs.Looks.{Look, known}
use Rattle.canvas_celery.specs.declared.results.completing.Flow as flow
use Rattle.canvas_celery.specs.declared.results.completing.Flow.TheVariants.{Value, Skip, Raise, Pending}

-- nothing, a number, a list or an identifier: a task is called with it
abbrev pub IsValue : Flow → Type 0
IsValue (skip f) = ⊥
IsValue (raised f) = ⊥
IsValue x = Unit {0}

-- what is known of a flow is so
abbrev pub IsKnown : List State → flow.Flow → Flow → Type 0
IsKnown rows Value x = IsValue x
IsKnown rows (Skip d) x = (f : Fault) × (state_at rows d ≡ Some (Failure f)) × (x ≡ skip f)
IsKnown rows (Raise d) x =
    (f : Fault) × (state_at rows d ≡ Some (Failure f)) × (x ≡ raised (fault.Chord d (why_of f)))
IsKnown rows Pending x = Unit {0}

-- something is known
abbrev pub IsTold : flow.Flow → Type 0
IsTold Pending = ⊥
IsTold flow = Unit {0}

-- the rows of tasks in the order of a list
abbrev pub listed : List State → List ℕ → Rows
listed states ks = map (λ k. (k, state_at states k)) ks

-- each row is missing, or is that of the table
abbrev pub Within : (rows states : List State) → Type 0
Within rows states = (i : ℕ)
    → (slice_index_or rows i None ≡ None)
    ⊎ (slice_index_or rows i None ≡ slice_index_or states i None)

-- each of these tasks has an outcome
abbrev pub AllThere : List State → List ℕ → Type 0
AllThere rows [] = Unit {0}
AllThere rows (k ∷ ks) = IsSome (state_at rows k) × AllThere rows ks

-- what these outcomes show
abbrev pub shown : List State → List Look
shown rows = map (λ s. known s) rows
