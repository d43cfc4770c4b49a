-- What the one list of all calls of a run has for each caller (Lamport's sequential consistency:
-- its own calls in its own order): worker 0's calls, and just the calls of each worker, numbered
-- from 1 in the order of their making.
use Rattle.std.specs.Prelude.{ℕ, suc, ◌≡◌, List, [], ◌∷◌, ◌++◌}
use Rattle.canvas_task.specs.Apply.{Behaviour}
use Rattle.canvas_history.specs.Answers.{entries_by, joins_of, splits_of}
use Rattle.canvas_history.specs.History.{split_off, made_by, Sole}
use Rattle.canvas_envelope.specs.declared.envelope.Envelope.{Envelope}
use Rattle.canvas_history.specs.Table as table
use Rattle.canvas_history.specs.Roster.{Roster}
use Rattle.canvas_history.specs.Queue as queue
use Rattle.canvas_runs.specs.Calls.{QueueAnswered, TableAnswered, backend_calls}
use Rattle.canvas_runs.specs.CallerRuns.{CallerRun, numbers_along}

module _ (behaviour : Behaviour) (plan : Roster) where
  abbrev pub HasQueueCalls : ℕ → List (CallerRun behaviour plan) → List (queue.QueueEntry Envelope)
      → Type 0
  HasQueueCalls k [] log = Unit
  HasQueueCalls k (m ∷ ms) log =
      (made_by k log ≡ entries_by k m.followed.made) × HasQueueCalls (suc k) ms log

  abbrev pub HasTableCalls : ℕ → List (CallerRun behaviour plan) → table.Log → Type 0
  HasTableCalls k [] log = Unit
  HasTableCalls k (m ∷ ms) log =
      (made_by k log ≡ entries_by k (backend_calls m.followed.run))
      × HasTableCalls (suc k) ms log

  -- for the broker: what worker 0 called before and after it joined the workers
  pub record QueuePerCaller (callers : List (CallerRun behaviour plan))
      (first last : List (QueueAnswered Envelope)) (log : List (queue.QueueEntry Envelope)) :
      Type 0 where
    pub legal : queue.IsLegal log
    pub own : made_by 0 log
        ≡ (splits_of (numbers_along 1 callers) ++ entries_by 0 first)
        ++ (joins_of (numbers_along 1 callers) ++ entries_by 0 last)
    pub each : HasQueueCalls 1 callers log
    pub names : split_off log ≡ numbers_along 1 callers
    pub sole : Sole log 0

  -- for the backend, which worker 0 calls only after it joined the workers
  pub record TablePerCaller (callers : List (CallerRun behaviour plan)) (last : List TableAnswered)
      (log : table.Log) : Type 0 where
    pub legal : table.IsLegal plan log
    pub own : made_by 0 log
        ≡ (splits_of (numbers_along 1 callers) ++ joins_of (numbers_along 1 callers))
        ++ entries_by 0 last
    pub each : HasTableCalls 1 callers log
    pub names : split_off log ≡ numbers_along 1 callers
    pub sole : Sole log 0
