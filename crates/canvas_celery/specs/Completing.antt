-- The failure of each task that Celery leaves pending after a failed one. After a task that failed
-- the next of its line has the same failure, and so on. The body of a chord has a ChordError, which
-- names the first of the header's last tasks that failed, with its class. Links and error callbacks
-- stay as they are (Celery user guide, Canvas).
use Rattle.std.specs.Prelude.{◌-◌, ℕ, List, [], ◌∷◌, slice_index_or, slice_set, Some, None}
use Rattle.canvas_task.specs.declared.outcome.Fault.TheVariants as fault
use Rattle.canvas_task.specs.declared.outcome.Why.TheVariants as why
use Rattle.canvas_task.specs.declared.outcome.Outcome.TheVariants.{Success, Failure}
use Rattle.canvas_semantics.specs.Evaluation.{why_of}
use Rattle.canvas_semantics.specs.Line.{Line, stop, step, group_end, chord_end, Lines}
use Rattle.canvas_semantics.specs.Line.{no_lines, and_line, no_of, members}
use Rattle.canvas_celery.specs.Looks.{Look, known, value, raised, blamed, look_at}
use Rattle.canvas_celery.specs.declared.results.completing.Flow.{Flow}
use Rattle.canvas_celery.specs.declared.results.completing.Flow.TheVariants.{Value, Skip, Raise, Pending}

-- The flow out of task k that shows this: a result, its failure, or nothing yet.
abbrev pub passed : ℕ → Look → Flow
passed k (known None) = Pending
passed k (known (Some (Success n))) = Value
passed k (known (Some (Failure f))) = Skip k
passed k (value json) = Value
passed k (raised name) = Skip k
passed k (blamed dep name) = Skip k

-- The flow after task k: nothing if nothing came to it yet, for any outcome of its own.
abbrev pub after : Flow → ℕ → Look → Flow
after Pending k x = Pending
after flow k x = passed k x

-- ---- the failures

-- the failure that a task shows; a task that shows none leaves others pending
abbrev pub same_failure : Look → Look
same_failure (known None) = known None
same_failure (known (Some (Success n))) = known None
same_failure (known (Some (Failure f))) = known (Some (Failure f))
same_failure (value json) = known None
same_failure (raised name) = raised name
same_failure (blamed dep name) = blamed dep name

-- the ChordError that names task k, which shows this failure
abbrev pub chord_failure : ℕ → Look → Look
chord_failure k (known None) = known None
chord_failure k (known (Some (Success n))) = known None
chord_failure k (known (Some (Failure f))) = known (Some (Failure (fault.Chord k (why_of f))))
chord_failure k (value json) = known None
chord_failure k (raised name) = blamed k name
chord_failure k (blamed dep name) = known (Some (Failure (fault.Chord k why.Chord)))

abbrev pub put_by : Look → List Look → ℕ → Look → List Look
put_by (known None) ls i x = slice_set ls i x
put_by y ls i x = ls

-- this at index i, if the element there is pending
abbrev pub put : List Look → ℕ → Look → List Look
put ls i x = put_by (slice_index_or ls i (known None)) ls i x

-- what tasks show once this has flowed into task k
abbrev pub reached : Flow → ℕ → List Look → List Look
reached Value k ls = ls
reached (Skip d) k ls = put ls (k - 1) (same_failure (look_at ls d))
reached (Raise d) k ls = put ls (k - 1) (chord_failure d (look_at ls d))
reached Pending k ls = ls

-- ---- what flows into a body

-- given the flow of the last tasks of the members before, and that of the next: a pending one
-- leaves all pending, and the first failure counts
abbrev pub gathered_on : Flow → Flow → Flow
gathered_on flow Pending = Pending
gathered_on flow Value = flow
gathered_on Value (Skip k) = Raise k
gathered_on flow (Skip k) = flow
gathered_on flow (Raise k) = flow

abbrev pub gathered_from : Flow → List ℕ → List Look → Flow
gathered_from flow [] ls = flow
gathered_from flow (k ∷ ks) ls =
    gathered_from (gathered_on flow (passed k (look_at ls k))) ks ls

-- after a header with these last tasks, into which this flowed
abbrev pub into_body : Flow → List ℕ → List Look → Flow
into_body flow [] ls = flow
into_body (Skip d) ks ls = Skip d
into_body Pending ks ls = Pending
into_body flow ks ls = gathered_from Value ks ls

-- ---- a line, given a table of the last tasks of groups' and chords' members

module _ (table : ℕ → List ℕ) where
  abbrev mutual
    pub completed : Line → Flow → List Look → List Look
    completed stop flow ls = ls
    completed (step t rest) flow ls =
        completed rest (after flow (no_of t) (look_at (reached flow (no_of t) ls) (no_of t)))
        (reached flow (no_of t) ls)
    completed (group_end g ms) flow ls = all_completed ms flow ls
    completed (chord_end g ms body) flow ls =
        completed body (into_body flow (table g) (all_completed ms flow ls))
        (all_completed ms flow ls)

    pub all_completed : Lines → Flow → List Look → List Look
    all_completed no_lines flow ls = ls
    all_completed (and_line m ms) flow ls = all_completed ms flow (completed m flow ls)

-- the rows of a plan that is completed
abbrev pub plan_completed : Line → List Look → List Look
plan_completed l ls = completed (λ g. members l g) l Value ls
