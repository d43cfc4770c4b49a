-- The law of runs: for any number of workers, any order of their calls and any redeliveries, a run
-- does what evaluating the plan's canvas gives, each thing once (Celery user guide, Canvas: a
-- chord's body is called once, when all tasks of the header have returned).
-- A redelivered envelope is taken once more, and one of the stores of its task answers that it was
-- the first.
use Rattle.std.specs.Prelude.{◌≡◌, ◌≤◌, ◌⊎◌, ◌+◌, ℕ, eqb, cond, List, Option, Some, None}
use Rattle.canvas_task.specs.Apply.{Behaviour}
use Rattle.canvas_task.specs.declared.outcome.Outcome.{Outcome}
use Rattle.canvas_history.specs.Answers.{answered_calls}
use Rattle.canvas_history.specs.History.{calls}
use Rattle.canvas_semantics.specs.Evaluation.{State, state_of, eval, nothing}
use Rattle.canvas_semantics.specs.Line.{Line, tree_of}
use Rattle.canvas_rewrite.specs.FrozenView.{PCarried}
use Rattle.canvas_envelope.specs.Content.{Content, number_of}
use Rattle.canvas_history.specs.Lists.{In, total, seconds}
use Rattle.canvas_effects.specs.Events.{Event, DoesIn}
use Rattle.canvas_effects.specs.Job.{publish, part}
use Rattle.canvas_envelope.specs.declared.envelope.Envelope.{Envelope}
use Rattle.canvas_history.specs.declared.stored.Stored.TheVariants.{First, Again}
use Rattle.canvas_history.specs.declared.stored.Stored.{Stored}
use Rattle.canvas_history.specs.Table as table
use Rattle.canvas_history.specs.Roster.{roster_of}
use Rattle.canvas_history.specs.Queue as queue
use Rattle.canvas_runs.specs.Book.{book_of}
use Rattle.canvas_runs.specs.Calls.{QueueAnswered, TableAnswered}
use Rattle.canvas_runs.specs.Logs.{queue_calls}
use Rattle.canvas_runs.specs.Run.{Run}
use Rattle.canvas_runs.specs.Worker.{sealed, opened}

-- ---- how often

-- 1 if the call stores the outcome of task k first, or again, or returns the part
abbrev pub firsts_one : ℕ → TableAnswered → ℕ
firsts_one k (table.store t o, table.was First) = cond (eqb t k) 1 0
firsts_one k c = 0

abbrev pub agains_one : ℕ → TableAnswered → ℕ
agains_one k (table.store t o, table.was Again) = cond (eqb t k) 1 0
agains_one k c = 0

abbrev pub returns_one : ℕ → ℕ → TableAnswered → ℕ
returns_one g m (table.part h t, table.count n) = cond (eqb h g) (cond (eqb t m) 1 0) 0
returns_one g m c = 0

-- how often a store of task k answers First, and Again, and how often the part of task m to chord g
-- is returned
abbrev pub first_stores : ℕ → table.Log → ℕ
first_stores k table = total (firsts_one k) (seconds (answered_calls table))

abbrev pub again_stores : ℕ → table.Log → ℕ
again_stores k table = total (agains_one k) (seconds (answered_calls table))

abbrev pub returns : ℕ → ℕ → table.Log → ℕ
returns g m table = total (returns_one g m) (seconds (answered_calls table))

module _ (l : Line) where
  abbrev pub of_task : ℕ → Option Content → ℕ
  of_task k None = 0
  of_task k (Some c) = cond (eqb (number_of c.own) k) 1 0

  -- 1 if the call publishes, or takes, or redelivers, a message of task k
  abbrev pub publishes_one : ℕ → QueueAnswered Envelope → ℕ
  publishes_one k (queue.publish e, r) = of_task k (opened (book_of l) e)
  publishes_one k c = 0

  abbrev pub takes_one_of : ℕ → QueueAnswered Envelope → ℕ
  takes_one_of k (queue.take, Some e) = of_task k (opened (book_of l) e)
  takes_one_of k c = 0

  abbrev pub agains_one_of : ℕ → QueueAnswered Envelope → ℕ
  agains_one_of k (queue.redeliver e, r) = of_task k (opened (book_of l) e)
  agains_one_of k c = 0

  -- how often a message of task k is published, and taken, and redelivered
  abbrev pub publications : ℕ → List (queue.QueueEntry Envelope) → ℕ
  publications k queue = total (publishes_one k) (seconds (queue_calls queue))

  abbrev pub takes_of_task : ℕ → List (queue.QueueEntry Envelope) → ℕ
  takes_of_task k queue = total (takes_one_of k) (seconds (queue_calls queue))

  abbrev pub redeliveries : ℕ → List (queue.QueueEntry Envelope) → ℕ
  redeliveries k queue = total (agains_one_of k) (seconds (queue_calls queue))

-- ---- the law

module _ (behaviour : Behaviour) (l : Line) where
  -- the state of a task, by evaluating the plan's tree
  abbrev pub its_state : ℕ → State
  its_state t = state_of t (eval behaviour (tree_of l) nothing).rows

  -- the message of a task that evaluation runs
  abbrev pub IsRunMessage : Content → Type 0
  IsRunMessage c = (v : Event) × DoesIn behaviour l v (publish c)

  -- a part that evaluation returns
  abbrev pub IsPart : ℕ → ℕ → Type 0
  IsPart g t = (c : PCarried) × (v : Event) × DoesIn behaviour l v (part g t c)

  -- holds of every run, closed or not
  pub record FirstPart (r : Run behaviour l) : Type 0 where
    -- each outcome that is stored is the task's
    pub stored : (p t : ℕ) (o : Outcome) (a : Stored)
        → In (calls p (table.store t o) (table.was a)) r.table → its_state t ≡ Some o
    -- at most one store of a task is the first, and no more answer Again than its message was
    -- redelivered: with no redelivery none does
    pub stored_once : (k : ℕ) → first_stores k r.table ≤ 1
    pub stored_again : (k : ℕ) → again_stores k r.table ≤ redeliveries l k r.queue
    -- so each task is pending or has its state
    pub rows : (t : ℕ)
        → ((table.results (roster_of l) r.table).outcomes t ≡ None)
        ⊎ ((table.results (roster_of l) r.table).outcomes t ≡ its_state t)
    -- each envelope that is published is that of the message of a task that is run, and reads as it
    pub published : (p : ℕ) (e : Envelope) (a : Option Envelope)
        → In (calls p (queue.publish e) a) r.queue
        → (c : Content) × (e ≡ sealed c) × (opened (book_of l) e ≡ Some c) × IsRunMessage c
    pub published_once : (k : ℕ) → publications l k r.queue ≤ 1
    -- and so is each that is redelivered
    pub redelivered : (p : ℕ) (e : Envelope) (a : Option Envelope)
        → In (calls p (queue.redeliver e) a) r.queue
        → (c : Content) × (e ≡ sealed c) × (opened (book_of l) e ≡ Some c) × IsRunMessage c
    -- each part that is returned is one of the evaluation's
    pub returned : (p g t n : ℕ) → In (calls p (table.part g t) (table.count n)) r.table
        → IsPart g t

  -- holds of a closed run too
  pub record SecondPart (r : Run behaviour l) : Type 0 where
    -- each task has its state; a task that evaluation leaves pending is pending
    pub rows : (t : ℕ) → (table.results (roster_of l) r.table).outcomes t ≡ its_state t
    -- each message of the evaluation is published once, and each that is published or redelivered
    -- is taken
    pub published : (c : Content) → IsRunMessage c → publications l (number_of c.own) r.queue ≡ 1
    pub taken : (k : ℕ)
        → takes_of_task l k r.queue ≡ publications l k r.queue + redeliveries l k r.queue
    -- one store of each outcome is the first, and as many answer Again as its message was
    -- redelivered
    pub stored : (t : ℕ) (o : Outcome) → its_state t ≡ Some o → first_stores t r.table ≡ 1
    pub stored_again : (t : ℕ) → again_stores t r.table ≡ redeliveries l t r.queue
    pub pending : (t : ℕ) → its_state t ≡ None → first_stores t r.table + again_stores t r.table ≡ 0
    -- each part is returned once
    pub returned : (g t : ℕ) → IsPart g t → returns g t r.table ≡ 1
