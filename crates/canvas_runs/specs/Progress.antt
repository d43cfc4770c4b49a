-- How runs go on and end, for any number of workers and any order of their calls. A run makes few
-- calls; and as long as it is not closed, some worker's next call can be answered and is no take
-- that finds nothing. So it ends closed if its workers are let go on: no message is lost, no worker
-- waits for another one, and none works forever.
--     calls_made xs      how many calls a core run makes; a take that found nothing is none
--     FewCalls           a run has few of them, by the plan's tasks and its redeliveries
--     CanGoOn, AtRest    a worker that may make another call; one that has nothing left to do
--     PlansReadBack      the messages of every plan that is made read back from their envelopes
--     UnderWay           the first messages are published, and each worker can go on or is at rest
--     GoesOn r p s       the worker p makes one call in the run r, which is s then
--     Next r p           the worker p can make a call next, and the run is under way then
--     NoneWaits, NeverStuck    each worker that can go on does, or has nothing to do; so somebody
--                              does until the run is closed
--     Leads r s k        k such calls lead from r to s
--     Start n, Ending r  a run under way in which workers 0 to n can go on; a closed run to which r
--                        leads
use Rattle.std.specs.Prelude.{◌≡◌, ◌≢◌, ◌≤◌, ◌⊎◌, ◌+◌, ◌*◌, ℕ, zero, suc, true, List, [], ◌++◌, length}
use Rattle.canvas_task.specs.Apply.{Behaviour, AnswersInRange}
use Rattle.canvas_history.specs.Answers.{entries_by}
use Rattle.canvas_history.specs.History.{among, live}
use Rattle.canvas_semantics.specs.Line.{Line, count_line}
use Rattle.canvas_rewrite.specs.FrozenView.{PCarried}
use Rattle.canvas_rewrite.specs.Planned.{IsPlan}
use Rattle.canvas_rewrite.specs.Utf8.{IsUtf8Line}
use Rattle.canvas_envelope.specs.Content.{Content}
use Rattle.canvas_envelope.specs.declared.envelope.Envelope.{Envelope}
use Rattle.canvas_history.specs.Queue as queue
use Rattle.canvas_runs.specs.Calls.{QueueAnswered, AskedAndAnswered, broker_calls, core_calls, backend_calls, takes_one}
use Rattle.canvas_runs.specs.Core.{CoreState, taking, over, failed, left_after, Between}
use Rattle.canvas_runs.specs.Law.{IsRunMessage}
use Rattle.canvas_history.specs.Lists.{by, total, seconds}
use Rattle.canvas_runs.specs.Logs.{queue_calls}
use Rattle.canvas_runs.specs.Run.{Run, Closed}
use Rattle.canvas_runs.specs.Worker.{IsReadBack, worker}

-- ---- how many calls

-- the calls of the queue with the acknowledgements, and those of the table
abbrev pub calls_made : List (AskedAndAnswered Envelope) → ℕ
calls_made xs = length (core_calls xs) + length (backend_calls xs)

-- the sum over the workers 0 to n
abbrev pub of_workers : ℕ → (ℕ → ℕ) → ℕ
of_workers zero f = f 0
of_workers (suc n) f = of_workers n f + f (suc n)

-- 1 if the call redelivers an envelope
abbrev pub redelivers_one : QueueAnswered Envelope → ℕ
redelivers_one (queue.redeliver e, r) = 1
redelivers_one c = 0

abbrev pub delivered_again : List (queue.QueueEntry Envelope) → ℕ
delivered_again queue = total redelivers_one (seconds (queue_calls queue))

-- A task's message is published, taken and acknowledged once, its outcome stored and its part
-- returned once, and it is read once if it ends a member of a completed header. A redelivery is a
-- call, and its envelope is taken, stored and acknowledged once more.
abbrev pub most_calls : Line → ℕ → ℕ
most_calls l again = 6 * count_line l + 4 * again

abbrev pub FewCalls : Type 0
FewCalls =
    (behaviour : Behaviour) (l : Line) → IsPlan l → (r : Run behaviour l) (n : ℕ)
    → length r.opening + delivered_again r.queue + of_workers n (λ p. calls_made (r.core p))
    ≤ most_calls l (delivered_again r.queue)

-- ---- going on

module _ (behaviour : Behaviour) (l : Line) where
  -- the messages that evaluation publishes read back from their envelopes
  abbrev pub AllReadBack : Type 0
  AllReadBack = (c : Content) → IsRunMessage behaviour l c → IsReadBack c

  -- what a worker has left to do
  abbrev pub left_of : Run behaviour l → ℕ → CoreState Content PCarried
  left_of r p = left_after (worker behaviour l) taking (r.core p)

  -- live in both histories, its last rest not answered with no more, and no publish refused
  abbrev pub CanGoOn : Run behaviour l → ℕ → Type 0
  CanGoOn r p =
      (among p (live r.queue) ≡ true) × (among p (live r.table) ≡ true)
      × (left_of r p ≢ over) × (left_of r p ≢ failed)

  -- between scripts, and each envelope that it took has its script
  abbrev pub AtRest : Run behaviour l → ℕ → Type 0
  AtRest r p =
      Between (left_of r p)
      × (total takes_one (by p (queue_calls r.queue)) ≡ total takes_one (broker_calls (r.core p)))

  -- All first messages are published and worker 0 has not begun to read. Each worker can go on or
  -- is at rest, and one can go on.
  pub record UnderWay (r : Run behaviour l) : Type 0 where
    pub all_sent : r.unsent ≡ []
    pub none_read : r.closing ≡ []
    pub each : (p : ℕ) → CanGoOn r p ⊎ AtRest r p
    pub one : ℕ
    pub goes : CanGoOn r one

  -- In run r the worker has these further asks answered, with one call among them, and the run is
  -- then s. The histories have the call at their ends, unless it is a take that is already in the
  -- queue's history.
  pub record GoesOn (r : Run behaviour l) (p : ℕ) (s : Run behaviour l) : Type 0 where
    pub asks : List (AskedAndAnswered Envelope)
    pub one_call : calls_made asks ≡ 1
    pub core : s.core p ≡ r.core p ++ asks
    pub others : (q : ℕ) → q ≢ p → s.core q ≡ r.core q
    pub queue : (s.queue ≡ r.queue ++ entries_by p (broker_calls asks)) ⊎ (s.queue ≡ r.queue)
    pub table : s.table ≡ r.table ++ entries_by p (backend_calls asks)

  -- and the run is under way still
  pub record Next (r : Run behaviour l) (p : ℕ) : Type 0 where
    pub run : Run behaviour l
    pub goes_on : GoesOn r p run
    pub under_way : UnderWay run

  pub data Leads : Run behaviour l → Run behaviour l → ℕ → Type 0 where
    leads_none : {r : Run behaviour l} → Leads r r 0
    leads_on : {r s t : Run behaviour l} {p k : ℕ} → GoesOn r p s → Leads s t k
        → Leads r t (suc k)

  -- a run in which workers 0 to n can go on, with no call but the publishes of the first messages
  pub record Start (n : ℕ) : Type 0 where
    pub run : Run behaviour l
    pub under_way : UnderWay run
    pub can : (p : ℕ) → p ≤ n → CanGoOn run p
    pub no_asks : (p : ℕ) → run.core p ≡ []

  -- a closed run that it leads to
  pub record Ending (r : Run behaviour l) : Type 0 where
    pub run : Run behaviour l
    pub steps : ℕ
    pub leads : Leads r run steps
    pub closed : Closed behaviour l run

-- The messages of a plan whose texts are UTF-8 read back if no task answers a number out of range.
-- So those of every plan that `freeze` gives do, with any registry of tasks.
abbrev pub PlansReadBack : Type 0
PlansReadBack =
    (behaviour : Behaviour) → AnswersInRange behaviour
    → (l : Line) → IsPlan l → IsUtf8Line l → AllReadBack behaviour l

-- No worker waits for another one: each that can go on makes a call next, unless it has nothing
-- left to do and the queue is empty.
abbrev pub NoneWaits : Type 0
NoneWaits =
    (behaviour : Behaviour) (l : Line) → IsPlan l → AllReadBack behaviour l
    → (r : Run behaviour l) → UnderWay behaviour l r → (p : ℕ) → CanGoOn behaviour l r p
    → Next behaviour l r p ⊎ (AtRest behaviour l r p × (queue.queue_of r.queue ≡ []))

-- so no run that is under way is stuck before it is closed
abbrev pub NeverStuck : Type 0
NeverStuck =
    (behaviour : Behaviour) (l : Line) → IsPlan l → AllReadBack behaviour l
    → (r : Run behaviour l) → UnderWay behaviour l r
    → Closed behaviour l r ⊎ ((p : ℕ) × Next behaviour l r p)

-- and none goes on forever
abbrev pub FewSteps : Type 0
FewSteps =
    (behaviour : Behaviour) (l : Line) → IsPlan l → (r s : Run behaviour l) (k : ℕ)
    → Leads behaviour l r s k → k ≤ most_calls l (delivered_again r.queue)

-- so each leads to a closed one
abbrev pub AllEnd : Type 0
AllEnd =
    (behaviour : Behaviour) (l : Line) → IsPlan l → AllReadBack behaviour l
    → (r : Run behaviour l) → UnderWay behaviour l r → Ending behaviour l r

-- and each plan has one that is under way, with any number of workers
abbrev pub Starts : Type 0
Starts =
    (behaviour : Behaviour) (l : Line) → IsPlan l → AllReadBack behaviour l
    → (n : ℕ) → Start behaviour l n
