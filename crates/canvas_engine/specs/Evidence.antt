-- What a run on threads shows besides its promise (`Headline`), which follows from it.
--     AreTallies queue table k tallies    what workers counted, the first of them being worker k
--     IsRun l n rows records              what the callers of the queue and of the table did, by
--                                         which these are the rows and the records of a run
--     IsThreadFault n states fault        why a run has no whole report
use Rattle.std.specs.Prelude.{◌≡◌, ◌≤◌, ℕ, suc, List, [], ◌∷◌, ◌++◌, length, map, None, Some, IfSome}
use Rattle.canvas_task.specs.Apply.{Behaviour}
use Rattle.canvas_semantics.specs.Evaluation.{State}
use Rattle.canvas_semantics.specs.Line.{Line, tree_of}
use Rattle.canvas_semantics.specs.States.{states, EachMay}
use Rattle.canvas_envelope.specs.declared.envelope.Envelope.{Envelope}
use Rattle.canvas_history.specs.Table.{Log}
use Rattle.canvas_history.specs.Roster.{roster_of}
use Rattle.canvas_history.specs.Queue.{QueueEntry as Entries}
use Rattle.canvas_runs.specs.Calls.{backend_calls}
use Rattle.canvas_runs.specs.Causes.{ByCause, ByItsCause, completions}
use Rattle.canvas_runs.specs.Law.{publications}
use Rattle.canvas_runs.specs.Run.{Run, Closed, published_all}
use Rattle.canvas_runs.specs.Tally.{Tally as Counts, CountsOf}
use Rattle.canvas_runs.specs.Worker.{sealed}
use Rattle.canvas_runs.specs.PerCaller.{QueuePerCaller, TablePerCaller}
use Rattle.canvas_runs.specs.CallerLaws.{broker_calls_seen}
use Rattle.canvas_runs.specs.CallerRows.{RanWell}
use Rattle.canvas_core.specs.declared.cause.Cause.TheVariants.{Memory, Stopped}
use Rattle.canvas_engine.specs.Correct.{AreWorkers}
use Rattle.canvas_engine.specs.declared.by_turns.fault.RunFault.{RunFault}
use Rattle.canvas_engine.specs.declared.by_turns.fault.RunFault.TheVariants.{BadWorkers, BadTurn, Halted}
use Rattle.canvas_engine.specs.declared.threads.records.Records.{Records}
use Rattle.canvas_engine.specs.declared.threads.records.Tally.{Tally}

abbrev pub as_counts : Tally → Counts
as_counts t =
    record {
      taken = t.taken;
      published = t.published;
      first = t.first;
      parts = t.parts;
      dropped = t.dropped;
    }

-- Workers are numbered from k on. Each tally counts the entries of its worker in both histories,
-- and nothing was dropped.
abbrev pub AreTallies : List (Entries Envelope) → Log → ℕ → List Tally → Type 0
AreTallies queue table k [] = Unit {0}
AreTallies queue table k (t ∷ ts) =
    (t.number ≡ k) × CountsOf queue table k (as_counts t) × AreTallies queue table (suc k) ts

pub record IsRun (behaviour : Behaviour) (l : Line) (n : ℕ) (rows : List State) (r : Records) :
    Type 0 where
  -- the pass and the seat are of this queue and this table, and the table is the plan's
  pub objects : (r.pass.of ≡ r.broker) × (r.seat.of ≡ r.backend.id) × (r.backend.plan ≡ roster_of l)
  -- Each of the n workers, and worker 0, has followed a core run. Worker 0 first published all
  -- first messages, and at the end read each task: these are the rows.
  pub ran : RanWell behaviour l r.pass r.seat rows
  pub workers : length ran.to.ran.callers ≡ n
  -- The broker has one legal history, and the backend one. Each has just the calls of each worker,
  -- once and in its order; worker i is the i-th that is named in each.
  pub of_broker : QueuePerCaller behaviour (roster_of l) ran.to.ran.callers
      (published_all (map sealed ran.to.ran.opening)) ran.to.ran.works.made
      (broker_calls_seen r.pass)
  pub of_backend : TablePerCaller behaviour (roster_of l) ran.to.ran.callers
      (backend_calls ran.to.ran.works.run ++ ran.to.ran.closing) r.seat.seen
  -- both histories are those of a closed run of the plan
  pub run : Run behaviour l
  pub queue : run.queue ≡ broker_calls_seen r.pass
  pub table : run.table ≡ r.seat.seen
  pub closed : Closed behaviour l run
  -- what each worker counted, in the order of their numbers from 0 on
  pub tallies : AreTallies (broker_calls_seen r.pass) r.seat.seen 0 r.workers
  pub each_tally : length r.workers ≡ suc n
  -- Each envelope that is published reads as a task's message. Each message is published at most
  -- once, by the worker that brought about the event which runs its task; a body's message by the
  -- worker whose part completed its header.
  pub once : (k : ℕ) → publications l k (broker_calls_seen r.pass) ≤ 1
  pub by_cause : ByCause behaviour l (broker_calls_seen r.pass) r.seat.seen
  pub by_its_cause : ByItsCause behaviour l (broker_calls_seen r.pass) r.seat.seen
  pub completed_once : (g : ℕ) → completions l g r.seat.seen ≤ 1
  -- what evaluating the plan's tree gives
  pub are : rows ≡ states behaviour (tree_of l)

-- Why a run has no whole report, if these are the states of its plan. A run that ended early gives
-- rows that are pending or these. It gives none only if memory was refused before the first
-- publish, or to an executor.
abbrev pub IsThreadFault : ℕ → List State → RunFault → Type 0
IsThreadFault n ss BadWorkers = AreWorkers n → ⊥
IsThreadFault n ss BadTurn = ⊥
IsThreadFault n ss (Halted Memory rows) = AreWorkers n × IfSome rows (λ r. EachMay r.rows ss)
IsThreadFault n ss (Halted Stopped None) = ⊥
IsThreadFault n ss (Halted Stopped (Some report)) = AreWorkers n × EachMay report.rows ss
