-- The most steps of a run by turns, and that it ends under any fair order of turns.
use Rattle.std.specs.Prelude.{◌≡◌, ℕ, suc, true, ◌≤◌, ◌<◌, ◌+◌, ◌*◌, ◌^◌, List, [], ◌∷◌, ◌++◌, length}
use Rattle.canvas_task.specs.Apply.{Behaviour}
use Rattle.canvas_history.specs.History.{among}
use Rattle.canvas_semantics.specs.Line.{Line, count_line}
use Rattle.canvas_rewrite.specs.Planned.{IsPlan}
use Rattle.canvas_history.specs.Lists.{Each}
use Rattle.canvas_runs.specs.Progress.{most_calls as few_calls}
use Rattle.canvas_runs.specs.Turns.{Step, Begins, Turned, AllEnded, round, most_workers, IsWorker, RanUntil, redeliveries_in}
use Rattle.canvas_runs.specs.TurnLaws.{ByTurns}

-- The most steps that are calls or acknowledgements: each task is published, taken, stored and
-- acknowledged at most once, and its part returned at most once. A part completes at most one
-- header, for which at most as many members are read as there are tasks. Each redelivery is a step,
-- and its envelope is taken, stored again and acknowledged once more.
abbrev pub most_calls : Line → ℕ → ℕ
most_calls l again = (count_line l + 5) * suc (count_line l) + 4 * again

-- The most steps of k turns of a list and of the rotation after it, with `again` redeliveries: of
-- each two rounds one has a call, until all have ended.
abbrev pub most_steps : Line → ℕ → ℕ → ℕ → ℕ
most_steps l n k again = k + 2 * suc (most_calls l again) * n + again

abbrev pub FewSteps : Type 0
FewSteps =
    (behaviour : Behaviour) (l : Line) (n : ℕ) (ts us : List ℕ) (xs : List Step) → 1 ≤ n
    → ByTurns behaviour l n us xs → Begins us ts n
    → length xs ≤ most_steps l n (length ts) (redeliveries_in xs)

-- so a run that stops after `most` steps with a worker going on stops no later than that
abbrev pub StopsSoon : Type 0
StopsSoon =
    (behaviour : Behaviour) (l : Line) → IsPlan l → (n : ℕ) (ts : List ℕ) (most : ℕ) → 1 ≤ n
    → Each (IsWorker n) ts → RanUntil behaviour l n ts most → most ≤ most_steps l n (length ts) 0

-- fewer than a count of 128 bits holds
abbrev pub StepsFit : Type 0
StepsFit =
    (l : Line) (n k again : ℕ) → count_line l < 2 ^ 32 → n ≤ most_workers → k < 2 ^ 64
    → again < 2 ^ 64 → most_steps l n k again < 2 ^ 127

-- a round without a step is one in which all have ended
abbrev pub RoundsGo : Type 0
RoundsGo =
    (behaviour : Behaviour) (l : Line) (n : ℕ) (before : List Step)
    → Turned behaviour l n before (round n) [] → AllEnded behaviour l n before

-- turns of the workers 1 to n, of which each has one or more, in any order
abbrev pub IsFair : ℕ → List ℕ → Type 0
IsFair n us = Each (IsWorker n) us × ((p : ℕ) → IsWorker n p → among p us ≡ true)

abbrev pub one_after_another : List (List ℕ) → List ℕ
one_after_another [] = []
one_after_another (us ∷ uss) = us ++ one_after_another uss

-- If each worker has turns again and again, all end: after twice as many fair lists of turns as a
-- run has calls, and two more.
abbrev pub FairTurnsEnd : Type 0
FairTurnsEnd =
    (behaviour : Behaviour) (l : Line) (n : ℕ) (uss : List (List ℕ)) (xs : List Step)
    → Each (IsFair n) uss → ByTurns behaviour l n (one_after_another uss) xs
    → 2 * suc (few_calls l (redeliveries_in xs)) ≤ length uss → AllEnded behaviour l n xs
