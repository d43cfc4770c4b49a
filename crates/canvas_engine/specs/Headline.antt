-- The promise of a run on threads, in three sentences: the states of the tasks (Celery user guide,
-- Canvas), one legal history of the queue and one of the table (Lamport's sequential consistency),
-- and who published a chord's body (the chord rule of Celery's Redis backend). Worker 0 begins and
-- ends the run; n others are numbered from 1.
use mathlib.Core.Logic.{inl, inr}
use Rattle.std.specs.Prelude.{◌≡◌, ◌≤◌, ℕ, eqb, cond, true, is_some, List, [], ◌∷◌, ◌++◌, map, Option, Some, None, codes}
use Rattle.std.specs.Option.{option_and_then}
use Rattle.canvas_task.specs.Apply.{Behaviour}
use Rattle.canvas_history.specs.History.{Entry, calls, split_off, Sole}
use Rattle.canvas_history.specs.Answers.{answered_calls}
use Rattle.canvas_history.specs.Callers.{told}
use Rattle.canvas_semantics.specs.Bodies.{starts, bodies}
use Rattle.canvas_semantics.specs.Evaluation.{State}
use Rattle.canvas_semantics.specs.Line.{Line, count_line, tree_of}
use Rattle.canvas_semantics.specs.States.{states, numbers_from}
use Rattle.canvas_values.specs.CanvasText.{json_of}
use Rattle.canvas_values.specs.Fields.{field}
use Rattle.canvas_history.specs.Lists.{In, by, total}
use Rattle.canvas_envelope.specs.FrozenGrammar.{task_of}
use Rattle.canvas_envelope.specs.declared.envelope.Envelope.{Envelope}
use Rattle.canvas_history.specs.Table as table
use Rattle.canvas_history.specs.TableLaws.{IsCompleting}
use Rattle.canvas_history.specs.Roster.{roster_of}
use Rattle.canvas_history.specs.Queue as queue
use Rattle.canvas_runs.specs.ProgramOrder.{ProgramOrder, sent_in, called_in, published_in}
use Rattle.canvas_engine.specs.declared.threads.records.Records.{Records}

-- the callers that were split off are 1 to n, and all have been joined again
abbrev pub HasCallers : {C R : Type 0} → ℕ → List (Entry C R) → Type 0
HasCallers n log = (split_off log ≡ numbers_from 1 n) × Sole log 0

-- the task that an envelope's header `id` names
abbrev pub task_in : Envelope → Option ℕ
task_in e = option_and_then (λ d. task_of (field (codes "id") d)) (json_of e.headers)

-- 1 if the message is that of task k
abbrev pub of_task : ℕ → Option ℕ → ℕ
of_task k None = 0
of_task k (Some j) = cond (eqb j k) 1 0

-- how many messages of task k a history publishes
abbrev pub publications : ℕ → List (queue.QueueEntry Envelope) → ℕ
publications k log = total (λ x. of_task k (task_in x.1)) (published_in log)

-- Each redelivered envelope is a task's message, and the gate of the worker that redelivers it may
-- want that of this worker and this task.
abbrev pub OnlyWanted : (ℕ → ℕ → Type 0) → List (queue.QueueEntry Envelope) → Type 0
OnlyWanted may_want log =
    (p : ℕ) (e : Envelope) (a : Option Envelope) → In (calls p (queue.redeliver e) a) log
    → (k : ℕ) × (task_in e ≡ Some k) × may_want p k

-- the part that completes the chord's header was returned
abbrev pub Completed : Line → ℕ → ProgramOrder → Type 0
Completed l g before =
    (t n : ℕ) × In (inr (table.part g t, table.count n)) before × IsCompleting (roster_of l) g n

-- `did` gives what each worker of the run did, in its order.
pub record Headline (behaviour : Behaviour) (l : Line) (n : ℕ) (rows : List State) (r : Records)
    (did : ℕ → ProgramOrder) : Type 0 where
  -- The states: each task has the one that evaluating the plan's tree gives.
  pub are : rows ≡ states behaviour (tree_of l)
  -- The histories: worker 0 has a pass of this queue and a seat of this table, which is the plan's.
  -- What these have seen, once workers 1 to n are joined, is one legal history of each. The first
  -- leaves the queue empty, and the second leaves the states.
  pub objects : (r.pass.of ≡ r.broker) × (r.seat.of ≡ r.backend.id) × (r.backend.plan ≡ roster_of l)
  pub queue_legal : queue.IsLegal (told r.pass)
  pub queue_callers : HasCallers n (told r.pass)
  pub drained : queue.queue_of (told r.pass) ≡ []
  pub table_legal : table.IsLegal (roster_of l) r.seat.seen
  pub table_callers : HasCallers n r.seat.seen
  pub held : rows
      ≡ map (table.results (roster_of l) r.seat.seen).outcomes (numbers_from 1 (count_line l))
  -- The workers: caller p of the queue and caller p of the table are one, and did just `did p`.
  pub sent : (p : ℕ) → sent_in (did p) ≡ by p (published_in (told r.pass))
  pub called : (p : ℕ) → called_in (did p) ≡ by p (answered_calls r.seat.seen)
  -- The messages: each that is published names its task, at most one of each task, and just one of
  -- each task that the plan starts with. A message that a chord's body starts with, after a header
  -- with members, is published by the worker that returned the part which completes the header, and
  -- after that part.
  pub named : (x : ℕ × Envelope) → In x (published_in (told r.pass)) → is_some (task_in x.1) ≡ true
  pub once : (k : ℕ) → publications k (told r.pass) ≤ 1
  pub started : (k : ℕ) → In k (starts l) → publications k (told r.pass) ≡ 1
  pub body : (g k p : ℕ) (e : Envelope) (before after : ProgramOrder) → In (g, k) (bodies l)
      → did p ≡ before ++ inl e ∷ after → task_in e ≡ Some k → Completed l g before
