-- Evaluation with events and evaluation of the tree give each task the same state (Celery user
-- guide, Canvas). So the definition by events can't differ from that by the tree.
use Rattle.std.specs.Prelude.{◌≡◌, ◌⊎◌, ℕ, Some}
use Rattle.canvas_task.specs.Apply.{Behaviour}
use Rattle.canvas_task.specs.declared.outcome.Fault.{Fault}
use Rattle.canvas_task.specs.declared.outcome.Outcome.{Outcome}
use Rattle.canvas_task.specs.declared.outcome.Outcome.TheVariants.{Failure}
use Rattle.canvas_semantics.specs.Line.{Line}
use Rattle.canvas_envelope.specs.Content.{Content, number_of}
use Rattle.canvas_effects.specs.Effects.{outcome_of}
use Rattle.canvas_effects.specs.Events.{Event, running, DoesIn}
use Rattle.canvas_effects.specs.Job.{store}
use Rattle.canvas_runs.specs.Law.{its_state, IsRunMessage}

module _ (behaviour : Behaviour) (l : Line) where
  -- some event stores the outcome of the task
  abbrev pub IsStored : ℕ → Outcome → Type 0
  IsStored t o = (v : Event) × DoesIn behaviour l v (store t o)

  -- the task is run, and its call answers the outcome
  abbrev pub IsRunWith : ℕ → Outcome → Type 0
  IsRunWith t o =
      (c : Content) × IsRunMessage behaviour l c × (number_of c.own ≡ t)
      × (outcome_of behaviour c ≡ o)

  -- no message of the task is published
  abbrev pub IsNotRun : ℕ → Type 0
  IsNotRun t = (c : Content) → IsRunMessage behaviour l c → number_of c.own ≡ t → ⊥

  -- the task fails without being run: an exception skips it or is raised in it, and the event that
  -- brought the exception stores this
  abbrev pub IsFailedUnrun : ℕ → Outcome → Type 0
  IsFailedUnrun t o = IsNotRun t × (f : Fault) × (o ≡ Failure f) × IsStored t o

  pub record EventStates : Type 0 where
    -- evaluating the tree gives a task an outcome exactly if some event stores it
    pub stored : (t : ℕ) (o : Outcome) → its_state behaviour l t ≡ Some o → IsStored t o
    pub of_stored : (t : ℕ) (o : Outcome) → IsStored t o → its_state behaviour l t ≡ Some o
    -- and no two events do
    pub by_one : (t : ℕ) (o q : Outcome) (v w : Event)
        → DoesIn behaviour l v (store t o) → DoesIn behaviour l w (store t q)
        → (v ≡ w) × (o ≡ q)
    -- A task that is run has the outcome of its call, which its own running stores. Any other that
    -- has an outcome failed without being run.
    pub cases : (t : ℕ) (o : Outcome) → its_state behaviour l t ≡ Some o
        → IsRunWith t o ⊎ IsFailedUnrun t o
    pub of_run : (t : ℕ) (o : Outcome) → IsRunWith t o
        → (its_state behaviour l t ≡ Some o) × DoesIn behaviour l (running t) (store t o)
    pub of_failed : (t : ℕ) (o : Outcome) → IsFailedUnrun t o → its_state behaviour l t ≡ Some o
