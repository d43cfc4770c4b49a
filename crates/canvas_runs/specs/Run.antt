-- Runs of a plan (Lamport's sequential consistency, for two objects): a legal history of the
-- broker, a legal history of the backend, and for each caller a core run that its calls follow.
use Rattle.std.specs.Prelude.{◌≡◌, ℕ, eqb, cond, List, [], ◌∷◌, ◌++◌, map, None}
use Rattle.canvas_task.specs.Apply.{Behaviour}
use Rattle.canvas_history.specs.Answers.{answered_calls}
use Rattle.canvas_semantics.specs.Line.{Line}
use Rattle.canvas_envelope.specs.Content.{Content}
use Rattle.canvas_effects.specs.Effects.{first_messages}
use Rattle.canvas_envelope.specs.declared.envelope.Envelope.{Envelope}
use Rattle.canvas_history.specs.Table.{read, found, Log, IsLegal as IsTableHistory}
use Rattle.canvas_history.specs.Roster.{roster_of}
use Rattle.canvas_history.specs.Queue.{publish, QueueEntry, queue_of, IsLegal as IsQueueHistory}
use Rattle.canvas_runs.specs.Core.{IsCoreRun, taking, left_after, Between}
use Rattle.canvas_runs.specs.Calls.{QueueAnswered, TableAnswered, makes, FollowsScripts, AskedAndAnswered, broker_calls, core_calls, backend_calls, takes_one}
use Rattle.canvas_history.specs.Lists.{Each, by, total}
use Rattle.canvas_runs.specs.Logs.{queue_calls}
use Rattle.canvas_runs.specs.Worker.{IsReadBack, worker, sealed}

abbrev pub IsRead : TableAnswered → Type 0
IsRead (read t, found x) = Unit
IsRead c = ⊥

abbrev pub published_all : {E : Type 0} → List E → List (QueueAnswered E)
published_all [] = []
published_all (e ∷ es) = (publish e, None) ∷ published_all es

pub record Run (behaviour : Behaviour) (l : Line) : Type 0 where
  pub queue : List (QueueEntry Envelope)
  pub table : Log
  pub queue_legal : IsQueueHistory queue
  pub table_legal : IsTableHistory (roster_of l) table
  pub core : ℕ → List (AskedAndAnswered Envelope)
  pub is_core : (p : ℕ) → IsCoreRun (worker behaviour l) taking (core p)
  -- What worker 0 publishes first, the first messages that it hasn't published, and what it reads
  -- at the end.
  pub opening : List Content
  pub unsent : List Content
  pub closing : List TableAnswered
  pub opens : first_messages l ≡ opening ++ unsent
  -- these envelopes read as their messages
  pub opens_back : Each IsReadBack opening
  pub closes : Each IsRead closing
  -- each caller's calls follow its core run
  pub follows : (p : ℕ)
      → FollowsScripts None []
      (map makes (cond (eqb p 0) (published_all (map sealed opening)) []) ++ core_calls (core p))
      (by p (queue_calls queue))
  pub keeps : (p : ℕ)
      → by p (answered_calls table) ≡ backend_calls (core p) ++ cond (eqb p 0) closing []

-- All first messages are published, the queue is empty at the end, each envelope taken has its
-- script, and no core run ends inside one.
pub record Closed (behaviour : Behaviour) (l : Line) (r : Run behaviour l) : Type 0 where
  pub all_sent : r.unsent ≡ []
  pub drained : queue_of r.queue ≡ []
  pub all_used : (p : ℕ)
      → total takes_one (by p (queue_calls r.queue)) ≡ total takes_one (broker_calls (r.core p))
  pub all_ended : (p : ℕ) → Between (left_after (worker behaviour l) taking (r.core p))
