-- Laws of turns: a run by turns is a run, so the law of runs speaks of it.
use Rattle.std.specs.Prelude.{ℕ, ◌≡◌, ◌≢◌, ◌≤◌, ◌⊎◌, false, IsTrue, List, [], map, Some, None}
use Rattle.canvas_task.specs.Apply.{AnswersInRange, IsInRange, Behaviour}
use Rattle.canvas_task.specs.declared.outcome.Outcome.{Outcome}
use Rattle.canvas_semantics.specs.Evaluation.{State}
use Rattle.canvas_semantics.specs.Line.{Line, count_line, tree_of}
use Rattle.canvas_rewrite.specs.Planned.{IsPlan}
use Rattle.canvas_semantics.specs.States.{states, numbers_from}
use Rattle.canvas_effects.specs.Effects.{first_messages}
use Rattle.canvas_envelope.specs.declared.envelope.Envelope.{Envelope}
use Rattle.canvas_history.specs.Table.{store, part, read, results}
use Rattle.canvas_history.specs.Roster.{Roster, roster_of, is_chord, is_member}
use Rattle.canvas_history.specs.Queue.{queue_of}
use Rattle.canvas_runs.specs.Calls.{scripts_of}
use Rattle.canvas_runs.specs.Core.{Ask, to_table, ask}
use Rattle.canvas_runs.specs.Law.{its_state}
use Rattle.canvas_history.specs.Lists.{Each, by}
use Rattle.canvas_semantics.specs.States.{EachMay}
use Rattle.canvas_runs.specs.Run.{Run, Closed}
use Rattle.canvas_runs.specs.Worker.{worker}
use Rattle.canvas_runs.specs.Turns.{Step, results_after, IsWorker, FirstsRead, queue_after, left, Turned, AllEnded, RanWhole, RanUntil}

-- a plan's run by these turns of workers 1 to n, with these steps
pub record ByTurns (behaviour : Behaviour) (l : Line) (n : ℕ) (us : List ℕ) (xs : List Step) :
    Type 0 where
  pub plan : IsPlan l
  pub opens_back : FirstsRead l
  pub workers : Each (IsWorker n) us
  pub turned : Turned behaviour l n [] us xs

-- the steps are those of a run, each worker's its core run, and it is closed if all have ended
pub record RunOf (behaviour : Behaviour) (l : Line) (n : ℕ) (xs : List Step) : Type 0 where
  pub run : Run behaviour l
  pub core : (p : ℕ) → run.core p ≡ scripts_of (by p xs)
  pub opening : run.opening ≡ first_messages l
  pub closing : run.closing ≡ []
  pub queue : queue_of run.queue ≡ queue_after l xs
  pub table : results (roster_of l) run.table ≡ results_after xs
  pub closed : 1 ≤ n → AllEnded behaviour l n xs → Closed behaviour l run

abbrev pub TurnsAreRuns : Type 0
TurnsAreRuns =
    (behaviour : Behaviour) (l : Line) (n : ℕ) (us : List ℕ) (xs : List Step)
    → ByTurns behaviour l n us xs → RunOf behaviour l n xs

-- each task is pending, or has the state that evaluation gives
abbrev pub TurnRowsMay : Type 0
TurnRowsMay =
    (behaviour : Behaviour) (l : Line) (n : ℕ) (us : List ℕ) (xs : List Step)
    → ByTurns behaviour l n us xs → (t : ℕ)
    → ((results_after xs).outcomes t ≡ None)
    ⊎ ((results_after xs).outcomes t ≡ its_state behaviour l t)

-- if all have ended each task has that state, and nothing is left on the queue
abbrev pub TurnRowsAre : Type 0
TurnRowsAre =
    (behaviour : Behaviour) (l : Line) (n : ℕ) (us : List ℕ) (xs : List Step)
    → ByTurns behaviour l n us xs → 1 ≤ n → AllEnded behaviour l n xs → (t : ℕ)
    → (results_after xs).outcomes t ≡ its_state behaviour l t

abbrev pub TurnsEmpty : Type 0
TurnsEmpty =
    (behaviour : Behaviour) (l : Line) (n : ℕ) (us : List ℕ) (xs : List Step)
    → ByTurns behaviour l n us xs → 1 ≤ n → AllEnded behaviour l n xs → queue_after l xs ≡ []

-- The outcomes held, task by task: if all have ended, the states that evaluation gives, and at any
-- time these or pending.
abbrev pub held_rows : Line → List Step → List State
held_rows l xs = map (results_after xs).outcomes (numbers_from 1 (count_line l))

abbrev pub TurnStatesAre : Type 0
TurnStatesAre =
    (behaviour : Behaviour) (l : Line) (n : ℕ) (us : List ℕ) (xs : List Step)
    → ByTurns behaviour l n us xs → 1 ≤ n → AllEnded behaviour l n xs
    → held_rows l xs ≡ states behaviour (tree_of l)

abbrev pub TurnStatesMay : Type 0
TurnStatesMay =
    (behaviour : Behaviour) (l : Line) (n : ℕ) (us : List ℕ) (xs : List Step)
    → ByTurns behaviour l n us xs → EachMay (held_rows l xs) (states behaviour (tree_of l))

-- a list of turns with the rotation after it, whole or up to a number of steps, is such a run
abbrev pub WholeTurns : Type 0
WholeTurns =
    (behaviour : Behaviour) (l : Line) → IsPlan l → (n : ℕ) (ts : List ℕ) → Each (IsWorker n) ts
    → (r : RanWhole behaviour l n ts) → ByTurns behaviour l n r.turns r.steps

abbrev pub UntilTurns : Type 0
UntilTurns =
    (behaviour : Behaviour) (l : Line) → IsPlan l → (n : ℕ) (ts : List ℕ) (most : ℕ)
    → Each (IsWorker n) ts → (r : RanUntil behaviour l n ts most)
    → ByTurns behaviour l n r.turns r.steps

-- ---- a worker's next ask can be answered

-- a store is of a task of the plan; a part is of a chord's member that is stored and not returned;
-- a read is of a task of the plan that is stored
abbrev pub Answerable : Roster → List Step → Ask Envelope → Type 0
Answerable plan xs (to_table (store t o)) = (t ≤ plan.tasks) × IsInRange o
Answerable plan xs (to_table (part g t)) =
    IsTrue (is_chord plan g) × IsTrue (is_member plan g t) × ((results_after xs).outcomes t ≢ None)
    × ((results_after xs).returned t ≡ false)
Answerable plan xs (to_table (read t)) =
    (t ≤ plan.tasks) × ((o : Outcome) × ((results_after xs).outcomes t ≡ Some o) × IsInRange o)
Answerable plan xs a = Unit {0}

abbrev pub NextAnswerable : Type 0
NextAnswerable =
    (behaviour : Behaviour) → AnswersInRange behaviour
    → (l : Line) (n : ℕ) (us : List ℕ) (xs : List Step) → ByTurns behaviour l n us xs
    → (p : ℕ) → IsWorker n p
    → Answerable (roster_of l) xs (ask (worker behaviour l) (left behaviour l xs p))

-- if calls answer numbers in range, every outcome held is in range
abbrev pub HeldInRange : Type 0
HeldInRange =
    (behaviour : Behaviour) → AnswersInRange behaviour
    → (l : Line) (n : ℕ) (us : List ℕ) (xs : List Step) → ByTurns behaviour l n us xs
    → (t : ℕ) (o : Outcome) → (results_after xs).outcomes t ≡ Some o
    → (t ≤ (roster_of l).tasks) × IsInRange o
