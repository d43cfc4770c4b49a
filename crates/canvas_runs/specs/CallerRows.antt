-- The rows of a run on threads: worker 0 read each task once at the end.
use Rattle.std.specs.Prelude.{ℕ, suc, ◌≡◌, List, [], ◌∷◌, length, map}
use Rattle.canvas_semantics.specs.Evaluation.{State}
use Rattle.canvas_task.specs.Apply.{Behaviour}
use Rattle.canvas_history.specs.Passes.{QueueId}
use Rattle.canvas_history.specs.Seats.{TableId}
use Rattle.canvas_semantics.specs.Line.{Line, group_end, no_lines, count_line, tree_of}
use Rattle.canvas_semantics.specs.States.{states, EachMay}
use Rattle.canvas_rewrite.specs.Planned.{IsPlan}
use Rattle.canvas_history.specs.Table.{read, found}
use Rattle.canvas_history.specs.Roster.{roster_of}
use Rattle.canvas_runs.specs.Following.{Pass, Seat}
use Rattle.canvas_runs.specs.Calls.{TableAnswered}
use Rattle.canvas_runs.specs.Tally.{Tally, EachCounts}
use Rattle.canvas_runs.specs.CallerLaws.{broker_calls_seen}
use Rattle.canvas_runs.specs.CallerRuns.{CallerRun, Ran, EndedWell, OwnTally}

-- a read of each task, the first being task k
abbrev pub reads_from : ℕ → List State → List TableAnswered
reads_from k [] = []
reads_from k (s ∷ ss) = (read k, found s) ∷ reads_from (suc k) ss

-- all workers were joined, and these rows were read at the end
pub record RanTo (behaviour : Behaviour) (l : Line) (pass : Pass) (seat : Seat) (rows : List State)
    : Type 0 where
  pub ran : Ran behaviour l pass seat
  pub read : ran.closing ≡ reads_from 1 rows
  pub each : length rows ≡ count_line l

-- and all ended well
pub record RanWell (behaviour : Behaviour) (l : Line) (pass : Pass) (seat : Seat)
    (rows : List State) : Type 0 where
  pub to : RanTo behaviour l pass seat rows
  pub well : EndedWell behaviour l pass seat to.ran

-- the rows of a run that ended well are the states that evaluation gives
abbrev pub RowsOfWell : Type 0
RowsOfWell =
    (behaviour : Behaviour) (l : Line) → IsPlan l → (pass : Pass) (seat : Seat) (rows : List State)
    → RanWell behaviour l pass seat rows → rows ≡ states behaviour (tree_of l)

-- the rows of any run are these, or pending
abbrev pub RowsOfAny : Type 0
RowsOfAny =
    (behaviour : Behaviour) (l : Line) → IsPlan l → (pass : Pass) (seat : Seat) (rows : List State)
    → RanTo behaviour l pass seat rows → EachMay rows (states behaviour (tree_of l))

-- the counts of worker 0 and of the others, in the order of their numbers, are those of their
-- entries
abbrev pub TalliesCount : Type 0
TalliesCount =
    (behaviour : Behaviour) (l : Line) → IsPlan l
    → (pass : Pass) (seat : Seat) (r : Ran behaviour l pass seat)
    → EndedWell behaviour l pass seat r → (own : Tally) → OwnTally behaviour l pass seat r own
    → EachCounts (broker_calls_seen pass) seat.seen 0
    (own ∷ map (λ (m : CallerRun behaviour (roster_of l)). m.ended.tally) r.callers)

-- there is such a run: of an empty group's plan, by one worker
abbrev pub empty_group : Line
empty_group = group_end 1 no_lines

abbrev pub ARunStands : Type 0
ARunStands =
    (behaviour : Behaviour) (b : QueueId) (d : TableId)
    → (pass : Pass) × (seat : Seat) × (r : Ran behaviour empty_group pass seat)
    × EndedWell behaviour empty_group pass seat r
