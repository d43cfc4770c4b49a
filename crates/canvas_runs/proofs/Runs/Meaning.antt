-- What an evaluation of a plan says of its tasks, event by event, and the laws by which a run meets it.
use Rattle.std.specs.Prelude.{ℕ, ◌<◌, ◌≤◌, eqb, cond, ◌≡◌, List, length, Some, slice_get}
use Rattle.canvas_task.specs.declared.outcome.Outcome.{Outcome}
use Rattle.canvas_history.specs.Lists.{In, Each, total, firsts}
use Rattle.canvas_effects.specs.Events.{Event, start, running, end_of_line, completion}
use Rattle.canvas_effects.specs.Job.{Job, store, publish, part}
use Rattle.canvas_runs.specs.Protocol.{Protocol}

-- the event isn't that of a task's own run
abbrev pub RunsNone : Event → Type 0
RunsNone start = Unit
RunsNone (running k) = ⊥
RunsNone (end_of_line k) = Unit
RunsNone (completion g) = Unit

module _ {E : Type 0} (X : Protocol E) where
  abbrev pub JobOf : Type 0
  JobOf = Job X.Message X.Carried Outcome

  -- 1 where the message, or the job's message, is of task k
  abbrev pub names : ℕ → X.Message → ℕ
  names k m = cond (eqb (X.no m) k) 1 0

  abbrev pub publishes : ℕ → JobOf → ℕ
  publishes k (store t o) = 0
  publishes k (publish m) = names k m
  publishes k (part g t c) = 0

  -- 1 where the job stores the outcome of task k
  abbrev pub keeps : ℕ → JobOf → ℕ
  keeps k (store t o) = cond (eqb t k) 1 0
  keeps k (publish m) = 0
  keeps k (part g t c) = 0

  -- what a plan says, the last tasks of a group's members and the messages of the tasks that start at once, and what is known of a message and of a part only
  -- from their form
  pub record Form : Type 1 where
    pub members : ℕ → List ℕ
    pub first : List X.Message
    pub Formed : X.Message → Type 0
    pub FormedPart : ℕ → ℕ → X.Carried → Type 0

  -- the job is later in the file than task j, and of good form
  abbrev pub After : Form → ℕ → JobOf → Type 0
  After F j (store t o) = j < t
  After F j (publish m) = (j < X.no m) × F.Formed m
  After F j (part g t c) = (j ≤ t) × F.FormedPart g t c

  -- the job is later in the file than all the members of chord g
  abbrev pub Beyond : Form → ℕ → JobOf → Type 0
  Beyond F g (store t o) = Each (λ u. u < t) (F.members g)
  Beyond F g (publish m) = Each (λ u. u < X.no m) (F.members g) × F.Formed m
  Beyond F g (part h t c) = Each (λ u. u < t) (F.members g) × F.FormedPart h t c

  pub record Ordered (F : Form) : Type 0 where
    pub first : Each F.Formed F.first
    pub opened : (m : X.Message) → F.Formed m → X.Back m → X.opened (X.sealed m) ≡ Some m
    pub ended : (m : X.Message) (o : Outcome) → F.Formed m → Each (After F (X.no m)) (X.ended m o)
    pub completed : (g t : ℕ) (c : X.Carried) (fs : List (ℕ × Outcome)) → F.FormedPart g t c → firsts fs ≡ F.members g → Each (Beyond F g) (X.completed c fs)
    pub member : (g t : ℕ) (c : X.Carried) → F.FormedPart g t c → In t (F.members g)
    pub size : (g t : ℕ) (c : X.Carried) → F.FormedPart g t c → X.size c ≡ length (F.members g)
    pub place : (g i : ℕ) → X.member g i ≡ slice_get (F.members g) i

  module _ (Does : Event → JobOf → Type 0) where
    -- task t has outcome o
    abbrev pub Has : ℕ → Outcome → Type 0
    Has t o = (e : Event) × Does e (store t o)

    -- the task of m is run, with this message
    abbrev pub IsRun : X.Message → Type 0
    IsRun m = (e : Event) × Does e (publish m)

    -- it has it by an event that ran another task
    abbrev pub IsSkipped : ℕ → Outcome → Type 0
    IsSkipped t o = (e : Event) × RunsNone e × Does e (store t o)

    abbrev pub IsReturned : ℕ → ℕ → X.Carried → Type 0
    IsReturned g t c = (e : Event) × Does e (part g t c)

    pub record Evaluates (F : Form) : Type 0 where
      pub first : Each (λ m. Does start (publish m)) F.first
      pub own : (m : X.Message) → IsRun m → Does (running (X.no m)) (store (X.no m) (X.outcome m))
      pub ended : (m : X.Message) → F.Formed m → IsRun m → Each (Does (end_of_line (X.no m))) (X.ended m (X.outcome m))
      pub completed : (g t : ℕ) (c : X.Carried) (fs : List (ℕ × Outcome)) → F.FormedPart g t c → IsReturned g t c → firsts fs ≡ F.members g
          → Each (λ f. Has f.0 f.1) fs → Each (Does (completion g)) (X.completed c fs)

    -- each task is run by one event, and once by it
    pub record Once (F : Form) : Type 0 where
      pub event : (e f : Event) (m n : X.Message) → Does e (publish m) → Does f (publish n) → X.no m ≡ X.no n → e ≡ f
      pub message : (e f : Event) (m n : X.Message) → Does e (publish m) → Does f (publish n) → X.no m ≡ X.no n → m ≡ n
      pub at_start : (k : ℕ) → total (names k) F.first ≤ 1
      pub at_end : (k : ℕ) (m : X.Message) → F.Formed m → total (publishes k) (X.ended m (X.outcome m)) ≤ 1
      pub at_completion : (k g t : ℕ) (c : X.Carried) (fs : List (ℕ × Outcome)) → F.FormedPart g t c → firsts fs ≡ F.members g
          → total (publishes k) (X.completed c fs) ≤ 1

    -- each task has one outcome, by one event, and once by it
    pub record KeptOnce (F : Form) : Type 0 where
      pub event : (e f : Event) (t : ℕ) (o q : Outcome) → Does e (store t o) → Does f (store t q) → e ≡ f
      pub at_end : (k : ℕ) (m : X.Message) → F.Formed m → total (keeps k) (X.ended m (X.outcome m)) ≤ 1
      pub at_completion : (k g t : ℕ) (c : X.Carried) (fs : List (ℕ × Outcome)) → F.FormedPart g t c → firsts fs ≡ F.members g
          → total (keeps k) (X.completed c fs) ≤ 1
