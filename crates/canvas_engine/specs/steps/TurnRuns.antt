-- The state of a run on one thread, and what one ask of one of its workers changes.
use Rattle.std.specs.Prelude.{◌≡◌, ◌≤◌, ◌<◌, ◌+◌, ◌⊎◌, min, ℕ, Bool, true, false, suc, IsTrue, All, List, [], ◌∷◌, ◌++◌, map, length, Some, None, Ok, IsSome, slice_get}
use Rattle.canvas_runs.specs.Calls.{scripts_of, held_after}
use Rattle.canvas_task.specs.Apply.{IsInRange, Behaviour}
use Rattle.canvas_task.specs.declared.outcome.Outcome.{Outcome}
use Rattle.canvas_semantics.specs.Evaluation.{State}
use Rattle.canvas_semantics.specs.Line.{Line}
use Rattle.canvas_semantics.specs.States.{numbers_from}
use Rattle.canvas_envelope.specs.declared.envelope.Envelope.{Envelope}
use Rattle.canvas_history.specs.declared.stored.Stored.{Stored}
use Rattle.canvas_history.specs.declared.stored.Stored.TheVariants.{First, Again}
use Rattle.canvas_history.specs.Table.{Results, store, part, read, no_results, first_or, reply_of}
use Rattle.canvas_backend.specs.Plain.{PlainView, held}
use Rattle.canvas_history.specs.Roster.{Roster, roster_of, members, is_chord, is_member}
use Rattle.canvas_history.specs.Queue as queue
use Rattle.canvas_runs.specs.Book.{book_of, book_on}
use Rattle.canvas_runs.specs.Core.{to_queue, to_table, rest, from_queue, from_table, rested, taking, left_after, ReadsBack, IsCoreRun, is_inside, ack, acked}
use Rattle.canvas_history.specs.Lists.{by}
use Rattle.canvas_runs.specs.Tally.{greatest_count}
use Rattle.canvas_runs.specs.Worker.{read_envelope, sealed}
use Rattle.canvas_runs.specs.Redeliveries.{Entry, TurnedAgain, wanted, spent, agains_in}
use Rattle.canvas_runs.specs.Turns.{Step, redelivery, HasEnded, IsWorker, AllEnded, Begins, round, rounds, queue_after, queue_next, results_after, results_next, redeliveries_in}
use Rattle.canvas_runs.specs.TurnLaws.{ByTurns}
use Rattle.canvas_envelope.specs.Content.{Content}
use Rattle.canvas_core.specs.Asks.{Asked, Answer, FoundOf, replied}
use Rattle.canvas_core.specs.Books.{no_book}
use Rattle.canvas_core.specs.EnvelopeWorker.{enveloped, enveloped_by, no_tasks}
use Rattle.canvas_core.specs.CorePast.{task_in}
use Rattle.canvas_core.specs.CoreState as standing
use Rattle.canvas_core.specs.CoreState.{CoreView, located, asked, next, after_reply, begun, point_at}
use Rattle.canvas_core.specs.declared.ask.Ask.{Ask}
use Rattle.canvas_core.specs.declared.ask.Ask.TheVariants.{Read}
use Rattle.canvas_core.specs.declared.ask.Reply.{Reply}
use Rattle.canvas_core.specs.declared.cause.Cause.{Cause}
use Rattle.canvas_core.specs.declared.cause.Cause.TheVariants.{Memory, Stopped}
use Rattle.canvas_engine.specs.Noted.{opening_steps, step_seen}
use Rattle.canvas_engine.specs.steps.Noting.{Noted, kept}
use Rattle.canvas_engine.specs.declared.by_turns.notes.Keeps.{Keeps}
use Rattle.canvas_engine.specs.declared.by_turns.turn_run.TurnRun.{TurnRun}

-- the outcome of each task from 1 to `tasks`
abbrev pub rows_of : ℕ → Results → List State
rows_of tasks results = map results.outcomes (numbers_from 1 tasks)

-- ---- one ask

-- what a core asks, if a member that it reads has the task that the plan says
abbrev pub asks_of : Roster → CoreView → Asked
asks_of plan c = asked (located (book_on plan) c.left)

-- a member that is read is there
abbrev pub IsThere : Roster → Ask → Type 0
IsThere plan (Read g i) = IsSome (slice_get (members plan g) i)
IsThere plan a = Unit {0}

-- the answers of the queue and the table if they hold this; the rest of a worker is answered with
-- whether there is more
abbrev pub AnswersNow : Roster → List Envelope → Results → Bool → Asked → Answer → Type 0
AnswersNow plan queued results more (to_queue c) (from_queue x) = x ≡ queue.answer_of queued c
AnswersNow plan queued results more (to_table c) (from_table r) = r ≡ reply_of plan results c
AnswersNow plan queued results more rest (rested m) = m ≡ more
AnswersNow plan queued results more ack acked = Unit {0}
AnswersNow plan queued results more a r = ⊥

-- the answer itself
abbrev pub answer_now : Roster → List Envelope → Results → Bool → Asked → Answer
answer_now plan queued results more (to_queue c) = from_queue (queue.answer_of queued c)
answer_now plan queued results more (to_table c) = from_table (reply_of plan results c)
answer_now plan queued results more rest = rested more
answer_now plan queued results more a = acked

-- the step of worker p with this ask
abbrev pub step_now : ℕ → Roster → List Envelope → Results → Bool → Asked → Step
step_now p plan queued results more a = (p, (a, answer_now plan queued results more a))

-- the queue and the table accept the ask
abbrev pub MayAsk : Roster → Results → Asked → Type 0
MayAsk plan results (to_table (store t o)) = t ≤ plan.tasks
MayAsk plan results (to_table (part g t)) =
    IsTrue (is_chord plan g) × IsTrue (is_member plan g t)
    × ((results.outcomes t ≡ None → ⊥) × (results.returned t ≡ false))
MayAsk plan results (to_table (read t)) = t ≤ plan.tasks
MayAsk plan results a = Unit {0}

-- each outcome that is stored has its number in range
abbrev pub AreInRange : Results → Type 0
AreInRange results = (t : ℕ) (o : Outcome) → results.outcomes t ≡ Some o → IsInRange o

-- one answered ask of a worker: what it, the queue and the table were, and what they are
pub record Stepped (behaviour : Behaviour) (more : Bool) (c : CoreView) (queue : List Envelope)
    (table : PlainView) (c' : CoreView) (queue' : List Envelope) (table' : PlainView) : Type 0 where
  pub reply : Reply
  pub answers : AnswersNow table.plan queue (held table) more (asks_of table.plan c)
      (replied reply)
  pub found : FoundOf (book_on table.plan) reply (next c)
  pub reads_back : ReadsBack (enveloped_by no_tasks no_book) c.left
  pub core : c' ≡ after_reply behaviour (book_on table.plan) c reply
  pub queue_is : queue' ≡ queue_next queue (asks_of table.plan c)
  pub table_is : held table' ≡ results_next (held table) (asks_of table.plan c)
  pub plan_is : table'.plan ≡ table.plan

-- an ask that was not answered to its end: the table is as it was, or as the ask leaves it
pub record Tried (behaviour : Behaviour) (more : Bool) (c : CoreView) (queue : List Envelope)
    (table table' : PlainView) : Type 0 where
  pub reply : Answer
  pub answers : AnswersNow table.plan queue (held table) more (asks_of table.plan c) reply
  pub reads_back : ReadsBack (enveloped_by no_tasks no_book) c.left
  pub table_is : held table' ≡ results_next (held table) (asks_of table.plan c)

abbrev pub IsTried : (behaviour : Behaviour) → Bool → CoreView → List Envelope → PlainView
    → PlainView
    → Type 0
IsTried behaviour more c queue table table' =
    (table'.plan ≡ table.plan)
    × ((held table' ≡ held table) ⊎ Tried behaviour more c queue table table')

-- the answer to the ask if it is a store, and First if it is none
abbrev pub store_answer : Results → Asked → Stored
store_answer results (to_table (store t o)) = first_or (results.outcomes t)
store_answer results a = First

-- a count with one more if a store answered Again, up to the greatest number that it holds
abbrev pub counted_on : ℕ → Stored → ℕ
counted_on m First = m
counted_on m Again = min greatest_count (m + 1)

-- ---- a redelivery

-- Before the ask of worker p's core is answered, the envelope that it holds is redelivered if an
-- entry for its point is unspent. That entry is spent, and the redelivery noted.
pub record Redelivers (p : ℕ) (core : CoreView) (s s' : TurnRun) : Type 0 where
  pub envelope :
      ((wanted (point_at core) s.again.items ≡ false) × (s'.queue ≡ s.queue)
      × (s'.again.items ≡ s.again.items) × (s'.notes ≡ s.notes))
      ⊎ ((wanted (point_at core) s.again.items ≡ true)
      × ((e : Envelope) × (standing.held core ≡ Some e) × (s'.queue ≡ s.queue ++ e ∷ [])
      × Noted s.notes (redelivery p e ∷ []) s'.notes)
      × (s'.again.items ≡ spent (point_at core) s.again.items))
  pub others : (s'.table ≡ s.table) × (s'.cores ≡ s.cores) × (s'.steps ≡ s.steps)
      × (s'.repeats ≡ s.repeats)

-- ---- a run

-- the core has asked this and was answered so
pub record IsCoreAt (behaviour : Behaviour) (l : Line) (ys : List (Asked × Answer)) (c : CoreView) :
    Type 0 where
  pub left : located (book_of l) c.left
      ≡ left_after (enveloped behaviour (roster_of l)) taking (scripts_of ys)
  pub is_in : c.is_out ≡ false
  -- inside a script it holds an envelope, and names the task of that envelope's message
  pub holds : standing.held c ≡ held_after None ys
  pub has_one : is_inside c.left ≡ true → IsSome (standing.held c)
  pub task : is_inside c.left ≡ true → c.task ≡ task_in (book_of l) (held_after None ys)

-- these turns and steps lead to the run, with any redeliveries
pub record LeadsTo (behaviour : Behaviour) (l : Line) (n : ℕ) (us : List ℕ) (xs : List Step)
    (s : TurnRun) : Type 0 where
  pub by_turns : ByTurns behaviour l n us xs
  pub runs : (p : ℕ) → IsCoreRun (enveloped behaviour (roster_of l)) taking (scripts_of (by p xs))
  pub queue_is : s.queue ≡ queue_after l xs
  pub plan_is : s.table.plan ≡ roster_of l
  pub table_is : held s.table ≡ results_after xs
  pub many : length s.cores.items ≡ n
  pub cores_are : (i : ℕ) (c : CoreView) → slice_get s.cores.items i ≡ Some c
      → IsCoreAt behaviour l (by (suc i) xs) c

-- the input of a run: the entries that say what is redelivered, and which of its steps it notes
abbrev pub Given : Type 0
Given = List Entry × Keeps

-- like `LeadsTo`, between two turns of a run with these entries. There are at most `most` answered
-- asks, and they are noted after those of the first messages
pub record Reached (behaviour : Behaviour) (l : Line) (n most : ℕ) (given : Given) (us : List ℕ)
    (xs : List Step) (s : TurnRun) : Type 0 where
  pub leads : LeadsTo behaviour l n us xs s
  pub turned : TurnedAgain behaviour l n [] given.0 us xs s.again.items
  pub agains : s.repeats ≡ min greatest_count (agains_in xs)
  pub count : length xs + s.steps ≡ most + redeliveries_in xs
  pub keeps : s.notes.keeps ≡ given.1
  pub noted : map step_seen s.notes.steps.items ≡ kept given.1 (opening_steps l ++ xs)

-- after some steps that these turns make
abbrev pub HasReached : (behaviour : Behaviour) → Line → ℕ → ℕ → Given → List ℕ → TurnRun
    → Type 0
HasReached behaviour l n most given us s =
    (xs : List Step) × Reached behaviour l n most given us xs s

-- ---- a turn

-- A turn of worker p that answered an ask, before which it may have redelivered an envelope; or one
-- that skipped.
abbrev pub IsTurn : (behaviour : Behaviour) → Bool → Line → ℕ → ℕ → Given → List ℕ → List Step
    → ℕ → TurnRun → Type 0
IsTurn behaviour true l n most given us xs p s =
    (ys : List Step) × Reached behaviour l n most given (us ++ p ∷ []) (xs ++ ys) s
    × (length ys ≡ suc (redeliveries_in ys))
IsTurn behaviour false l n most given us xs p s =
    HasEnded behaviour l xs p × Reached behaviour l n most given (us ++ p ∷ []) xs s

-- the table is that of some run
pub record IsHalfway (behaviour : Behaviour) (l : Line) (n : ℕ) (s : TurnRun) : Type 0 where
  pub turns : List ℕ
  pub steps : List Step
  pub by_turns : ByTurns behaviour l n turns steps
  pub plan_is : s.table.plan ≡ roster_of l
  pub table_is : held s.table ≡ results_after steps

-- no further ask may be answered, and a worker has one
pub record IsStopped (behaviour : Behaviour) (l : Line) (n most : ℕ) (given : Given) (us : List ℕ)
    (s : TurnRun) : Type 0 where
  pub steps : List Step
  pub reached : Reached behaviour l n most given us steps s
  pub none_left : s.steps ≡ 0
  pub going : ℕ
  pub is_worker : IsWorker n going
  pub has_more : HasEnded behaviour l steps going → ⊥

-- why a turn was not taken, after the turns us
abbrev pub IsHalt : (behaviour : Behaviour) → Cause → Line → ℕ → ℕ → Given → List ℕ → TurnRun
    → Type 0
IsHalt behaviour Memory l n most given us s = IsHalfway behaviour l n s
IsHalt behaviour Stopped l n most given us s = IsStopped behaviour l n most given us s

-- The first i turns of a round have been taken, after the turns us and the steps xs with `steps`
-- left: whether one answered an ask.
abbrev pub IsPartOfRound : (behaviour : Behaviour) → Bool → Line → ℕ → ℕ → Given → List ℕ
    → List Step → ℕ → ℕ → TurnRun → Type 0
IsPartOfRound behaviour true l n most given us xs i steps s =
    HasReached behaviour l n most given (us ++ round i) s × (s.steps < steps)
IsPartOfRound behaviour false l n most given us xs i steps s =
    Reached behaviour l n most given (us ++ round i) xs s
    × ((p : ℕ) → IsWorker i p → HasEnded behaviour l xs p)

abbrev pub IsHaltInRound : (behaviour : Behaviour) → Cause → Line → ℕ → ℕ → Given → List ℕ
    → TurnRun → Type 0
IsHaltInRound behaviour Memory l n most given us s = IsHalfway behaviour l n s
IsHaltInRound behaviour Stopped l n most given us s =
    (i : ℕ) × (i ≤ n) × IsStopped behaviour l n most given (us ++ round i) s

-- why a run by these turns and then in rotation ended early
abbrev pub IsEarlyEnd : (behaviour : Behaviour) → Cause → Line → ℕ → ℕ → Given → List ℕ → TurnRun
    → Type 0
IsEarlyEnd behaviour Memory l n most given turns s =
    (s.table.plan ≡ roster_of l) × ((held s.table ≡ no_results) ⊎ IsHalfway behaviour l n s)
IsEarlyEnd behaviour Stopped l n most given turns s =
    (us : List ℕ) × Begins us turns n × IsStopped behaviour l n most given us s

-- the turns of a list, and rounds, after which all workers have ended
pub record IsRunThrough (behaviour : Behaviour) (l : Line) (n most : ℕ) (given : Given)
    (turns : List ℕ) (s : TurnRun) : Type 0 where
  pub further : ℕ
  pub steps : List Step
  pub reached : Reached behaviour l n most given (turns ++ rounds n further) steps s
  pub ended : AllEnded behaviour l n steps

-- the envelope of a message reads back as the message
abbrev pub ReadsAs : Content → Type 0
ReadsAs c = read_envelope (sealed c) ≡ Ok c

-- cores that have done nothing yet
abbrev pub AreNew : List CoreView → Type 0
AreNew cores = All (λ c. c ≡ begun) cores

-- a run before its first publish
pub record IsNew (l : Line) (n : ℕ) (s : TurnRun) : Type 0 where
  pub repeats_is : s.repeats ≡ 0
  pub notes_is : s.notes.steps.items ≡ []
  pub plan_is : s.table.plan ≡ roster_of l
  pub table_is : held s.table ≡ no_results
  pub queue_is : s.queue ≡ []
  pub many : length s.cores.items ≡ n
  pub new : AreNew s.cores.items
