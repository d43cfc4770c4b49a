-- The callers of a run: worker 0 makes a pass and a seat for each worker, publishes the first
-- messages, joins all again when they have worked, works on as the only caller, and reads.
use Rattle.std.specs.Prelude.{ℕ, suc, ◌≡◌, List, [], ◌∷◌, ◌++◌, map, length, ◌<◌, slice_index_or}
use Rattle.canvas_task.specs.Apply.{Behaviour}
use Rattle.canvas_history.specs.Passes.{QueueId}
use Rattle.canvas_history.specs.Seats.{TableId}
use Rattle.canvas_semantics.specs.Line.{Line}
use Rattle.canvas_rewrite.specs.FrozenView.{PCarried}
use Rattle.canvas_envelope.specs.Content.{Content}
use Rattle.canvas_effects.specs.Effects.{first_messages}
use Rattle.canvas_history.specs.Table.{Results, read, found}
use Rattle.canvas_history.specs.Seats as seats
use Rattle.canvas_history.specs.Roster.{Roster, roster_of}
use Rattle.canvas_history.specs.Passes as passes
use Rattle.canvas_history.specs.Callers.{Owes}
use Rattle.canvas_runs.specs.Following.{Pass, Seat, Makes, Serves, Working, starting, IsDone, Followed}
use Rattle.canvas_runs.specs.Calls.{TableAnswered}
use Rattle.canvas_history.specs.Lists.{Each}
use Rattle.canvas_runs.specs.Run.{IsRead, published_all}
use Rattle.canvas_runs.specs.Tally.{Tally, CountsMore}
use Rattle.canvas_runs.specs.Worker.{IsReadBack, worker_of, sealed}

-- a worker of a plan; and from w on one followed a core run of the plan's protocol, and was v then
abbrev pub PlanWorker : Type 0
PlanWorker = Working Content PCarried

abbrev pub HasFollowed : Behaviour → Roster → PlanWorker → PlanWorker → Type 0
HasFollowed behaviour plan w v = Followed (worker_of behaviour plan) plan w v

-- one worker, with the pass and the seat that were made for it, as it was left
pub record CallerRun (behaviour : Behaviour) (plan : Roster) : Type 0 where
  pub pass : Pass
  pub seat : Seat
  pub ended : PlanWorker
  pub followed : HasFollowed behaviour plan (starting pass seat) ended

-- workers that ran in parallel: each followed a core run from its start
abbrev pub RanInParallel : Behaviour → Roster → List (Pass × Seat) → List PlanWorker → Type 0
RanInParallel behaviour plan starts ends =
    (i : ℕ) (d : Pass × Seat) (e : PlanWorker) → i < length starts
    → HasFollowed behaviour plan
    (starting (slice_index_or starts i d).0 (slice_index_or starts i d).1)
    (slice_index_or ends i e)

abbrev pub CallerRunsOf : Behaviour → Roster → List (Pass × Seat) → List PlanWorker → Type 0
CallerRunsOf behaviour plan starts ends =
    (ms : List (CallerRun behaviour plan))
    × (map (λ (m : CallerRun behaviour plan). (m.pass, m.seat)) ms ≡ starts)
    × (map (λ (m : CallerRun behaviour plan). m.ended) ms ≡ ends)

-- so they can be listed
abbrev pub AreCallerRuns : Type 0
AreCallerRuns =
    (behaviour : Behaviour) (plan : Roster) (starts : List (Pass × Seat)) (ends : List PlanWorker)
    → length starts ≡ length ends
    → RanInParallel behaviour plan starts ends → CallerRunsOf behaviour plan starts ends

-- passes split off one after the other, and joined one after the other
abbrev pub SplitPasses : Pass → List Pass → Pass → Type 0
SplitPasses p [] p' = p' ≡ p
SplitPasses p (q ∷ qs) p' = (between : Pass) × passes.Parted p between q × SplitPasses between qs p'

abbrev pub JoinPasses : Pass → List Pass → Pass → Type 0
JoinPasses p [] p' = p' ≡ p
JoinPasses p (q ∷ qs) p' =
    (between : Pass) × Owes p q between × passes.IsHistory between × JoinPasses between qs p'

-- like `SplitPasses` and `JoinPasses`, for seats
abbrev pub SplitSeats : Roster → Seat → List Seat → Seat → Type 0
SplitSeats plan s [] s' = s' ≡ s
SplitSeats plan s (t ∷ ts) s' =
    (between : Seat) × seats.Parted plan s between t × SplitSeats plan between ts s'

abbrev pub JoinSeats : Roster → Seat → List Seat → Seat → Type 0
JoinSeats plan s [] s' = s' ≡ s
JoinSeats plan s (t ∷ ts) s' =
    (between : Seat) × seats.Joined plan s t between × JoinSeats plan between ts s'

-- the pass and the seat of a new broker and of a new backend
abbrev pub first_pass : QueueId → Pass
first_pass b = record { of = b; name = 0; mine = 0 ∷ []; seen = []; owed = [] }

abbrev pub first_seat : TableId → Seat
first_seat d = record { of = d; name = 0; seen = [] }

-- A run in which worker 0 has joined all workers: this pass and this seat have all their calls.
pub record Ran (behaviour : Behaviour) (l : Line) (pass : Pass) (seat : Seat) : Type 0 where
  pub callers : List (CallerRun behaviour (roster_of l))
  -- the first messages that were published, and those that were not. The envelopes read as their
  -- messages
  pub opening : List Content
  pub unsent : List Content
  pub opens : first_messages l ≡ opening ++ unsent
  pub opens_back : Each IsReadBack opening
  -- the passes
  pub queue : QueueId
  pub pass_parted : Pass
  pub pass_sent : Pass
  pub pass_joined : Pass
  pub splits : SplitPasses (first_pass queue)
      (map (λ (m : CallerRun behaviour (roster_of l)). m.pass) callers) pass_parted
  pub sends : Makes pass_parted (published_all (map sealed opening)) pass_sent
  pub joins : JoinPasses pass_sent
      (map (λ (m : CallerRun behaviour (roster_of l)). m.ended.pass) callers)
      pass_joined
  -- the seats
  pub table : TableId
  pub seat_parted : Seat
  pub seat_joined : Seat
  pub seat_splits : SplitSeats (roster_of l) (first_seat table)
      (map (λ (m : CallerRun behaviour (roster_of l)). m.seat) callers) seat_parted
  pub seat_joins : JoinSeats (roster_of l) seat_parted
      (map (λ (m : CallerRun behaviour (roster_of l)). m.ended.seat) callers) seat_joined
  -- worker 0's own work, and its reads
  pub own : PlanWorker
  pub works : HasFollowed behaviour (roster_of l) (starting pass_joined seat_joined) own
  pub last : pass ≡ own.pass
  pub closing : List TableAnswered
  pub closes : Each IsRead closing
  pub ends : Serves (roster_of l) own.seat closing seat

-- like `Ran`, with lists: the workers' starts, in order, and what they left
pub record Sides (behaviour : Behaviour) (l : Line) (pass : Pass) (seat : Seat) : Type 0 where
  pub starts : List (Pass × Seat)
  pub ends : List PlanWorker
  pub as_many : length starts ≡ length ends
  pub follow : RanInParallel behaviour (roster_of l) starts ends
  pub opening : List Content
  pub unsent : List Content
  pub opens : first_messages l ≡ opening ++ unsent
  pub opens_back : Each IsReadBack opening
  pub queue : QueueId
  pub pass_parted : Pass
  pub pass_sent : Pass
  pub pass_joined : Pass
  pub splits : SplitPasses (first_pass queue) (map (λ (x : Pass × Seat). x.0) starts) pass_parted
  pub sends : Makes pass_parted (published_all (map sealed opening)) pass_sent
  pub joins : JoinPasses pass_sent (map (λ (w : PlanWorker). w.pass) ends) pass_joined
  pub table : TableId
  pub seat_parted : Seat
  pub seat_joined : Seat
  pub seat_splits : SplitSeats (roster_of l) (first_seat table)
      (map (λ (x : Pass × Seat). x.1) starts) seat_parted
  pub seat_joins : JoinSeats (roster_of l) seat_parted (map (λ (w : PlanWorker). w.seat) ends)
      seat_joined
  pub own : PlanWorker
  pub works : HasFollowed behaviour (roster_of l) (starting pass_joined seat_joined) own
  pub last : pass ≡ own.pass
  pub closing : List TableAnswered
  pub closes : Each IsRead closing
  pub read : Serves (roster_of l) own.seat closing seat

abbrev pub AreRan : Type 0
AreRan =
    (behaviour : Behaviour) (l : Line) (pass : Pass) (seat : Seat) (s : Sides behaviour l pass seat)
    → (r : Ran behaviour l pass seat)
    × (map (λ (m : CallerRun behaviour (roster_of l)). m.ended) r.callers ≡ s.ends)
    × (r.unsent ≡ s.unsent) × (r.own ≡ s.own) × (r.closing ≡ s.closing) × (r.opening ≡ s.opening)

-- the counts of worker 0, with its opening publishes
abbrev pub OwnTally : (behaviour : Behaviour) (l : Line) (pass : Pass) (seat : Seat)
    → Ran behaviour l pass seat → Tally → Type 0
OwnTally behaviour l pass seat r t =
    (t.taken ≡ r.own.tally.taken) × CountsMore (length r.opening) r.own.tally.published t.published
    × (t.first ≡ r.own.tally.first) × (t.parts ≡ r.own.tally.parts)
    × (t.dropped ≡ r.own.tally.dropped)

-- All first messages were published, a take of worker 0 found nothing, and all ended outside of
-- scripts.
pub record EndedWell (behaviour : Behaviour) (l : Line) (pass : Pass) (seat : Seat)
    (r : Ran behaviour l pass seat) : Type 0 where
  pub all_sent : r.unsent ≡ []
  pub empty : passes.Empties pass
  pub own : IsDone r.own
  pub each : Each (λ (m : CallerRun behaviour (roster_of l)). IsDone m.ended) r.callers

-- a read answered what the table holds
abbrev pub ReadsWhatIsHeld : Results → TableAnswered → Type 0
ReadsWhatIsHeld s (read t, found x) = x ≡ s.outcomes t
ReadsWhatIsHeld s c = ⊥

-- the numbers from k on, one for each element
abbrev pub numbers_along : {X : Type 0} → ℕ → List X → List ℕ
numbers_along k [] = []
numbers_along k (x ∷ xs) = k ∷ numbers_along (suc k) xs
