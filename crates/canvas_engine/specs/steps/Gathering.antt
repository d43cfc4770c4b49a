-- A run on threads before its first publish, and once its workers have ended and worker 0 has
-- joined what they left.
use Rattle.std.specs.Prelude.{ℕ, suc, ◌≡◌, ◌≤◌, ◌+◌, List, [], ◌∷◌, length, map, min, All, Option, Some, None, IfNone, set}
use Rattle.std.specs.Vec.{vec_capacity}
use Rattle.canvas_task.specs.Apply.{Behaviour}
use Rattle.canvas_history.specs.Passes.{QueueId}
use Rattle.canvas_history.specs.Seats.{TableId}
use Rattle.canvas_semantics.specs.Evaluation.{State}
use Rattle.canvas_semantics.specs.Line.{Line, count_line}
use Rattle.canvas_rewrite.specs.Planned.{IsPlan}
use Rattle.canvas_effects.specs.Effects.{first_messages}
use Rattle.canvas_history.specs.Roster.{Roster, roster_of}
use Rattle.canvas_runs.specs.Following.{Pass, Seat, Makes, Serves, IsOver}
use Rattle.canvas_history.specs.Lists.{Each}
use Rattle.canvas_runs.specs.Run.{published_all}
use Rattle.canvas_runs.specs.Tally.{Tally as Counts, greatest_count}
use Rattle.canvas_runs.specs.Worker.{sealed}
use Rattle.canvas_runs.specs.CallerRuns.{CallerRun, SplitPasses, JoinPasses, SplitSeats, JoinSeats, first_pass, first_seat}
use Rattle.canvas_runs.specs.CallerRows.{reads_from}
use Rattle.canvas_runs.specs.Turns.{FirstsRead}
use Rattle.canvas_worker.specs.Polls.{IsWanted}
use Rattle.canvas_worker.specs.declared.record.Record.{Record}
use Rattle.canvas_core.specs.declared.cause.Cause.{Cause}
use Rattle.canvas_engine.specs.steps.WorkerSlots.{AreOfObjects, IsReadySlot, SplitsOff, nothing_counted}
use Rattle.canvas_engine.specs.declared.threads.handles.Objects.{Objects}
use Rattle.canvas_engine.specs.declared.threads.records.Records.{Records}
use Rattle.canvas_engine.specs.declared.threads.records.Tally.{Tally}
use Rattle.canvas_engine.specs.declared.by_turns.fault.RunFault.{RunFault}
use Rattle.canvas_engine.specs.declared.by_turns.fault.RunFault.TheVariants.{BadWorkers, BadTurn, Halted}
use Rattle.canvas_engine.specs.declared.threads.ending.Run.{Run}
use Rattle.canvas_engine.specs.declared.threads.running.Start.{Start}

pub record IsStart (l : Line) (n : ℕ) (s : Start) : Type 0 where
  pub planned : IsPlan l
  pub plan : s.run.objects.backend.plan ≡ roster_of l
  pub own : AreOfObjects s.run.objects s.run.handles
  pub count : length s.slots.items ≡ n
  pub ready : All (IsReadySlot s.run.objects.broker s.run.objects.backend.id) s.slots.items
  pub parts : SplitsOff (roster_of l) 1 (first_pass s.run.objects.broker)
      (first_seat s.run.objects.backend.id) s.slots.items s.run.handles.pass s.run.handles.seat
  pub envelopes : s.envelopes.items ≡ map sealed (first_messages l)
  pub first : s.run.first ≡ length s.envelopes.items
  pub back : FirstsRead l
  pub rows : length s.run.rows.items ≡ count_line l
  pub pending : All (λ r. r ≡ None) s.run.rows.items
  pub tallies : s.run.tallies.items ≡ nothing_counted 0 ∷ []
  pub room : suc n ≤ vec_capacity s.run.tallies

-- the workers of this queue and this table, from the splits to the joins, with the first messages
-- published between
pub record JoinedWorkers (behaviour : Behaviour) (l : Line) (n : ℕ) (queue : QueueId)
    (table : TableId) (pass : Pass) (seat : Seat) : Type 0 where
  pub callers : List (CallerRun behaviour (roster_of l))
  pub count : length callers ≡ n
  pub pass_parted : Pass
  pub pass_sent : Pass
  pub splits : SplitPasses (first_pass queue)
      (map (λ (m : CallerRun behaviour (roster_of l)). m.pass) callers) pass_parted
  pub sends : Makes pass_parted (published_all (map sealed (first_messages l))) pass_sent
  pub back : FirstsRead l
  pub joins : JoinPasses pass_sent
      (map (λ (m : CallerRun behaviour (roster_of l)). m.ended.pass) callers)
      pass
  pub seat_parted : Seat
  pub seat_splits : SplitSeats (roster_of l) (first_seat table)
      (map (λ (m : CallerRun behaviour (roster_of l)). m.seat) callers) seat_parted
  pub seat_joins : JoinSeats (roster_of l) seat_parted
      (map (λ (m : CallerRun behaviour (roster_of l)). m.ended.seat) callers) seat

-- counts, with the number of their worker
abbrev pub numbered_counts : ℕ → Counts → Tally
numbered_counts k t =
    record {
      number = k;
      taken = t.taken;
      published = t.published;
      first = t.first;
      parts = t.parts;
      dropped = t.dropped;
    }

-- the tallies of workers numbered from k on
abbrev pub tallies_from : (behaviour : Behaviour) → {plan : Roster} → ℕ
    → List (CallerRun behaviour plan) → List Tally
tallies_from behaviour k [] = []
tallies_from behaviour k (m ∷ ms) =
    numbered_counts k m.ended.tally ∷ tallies_from behaviour (suc k) ms

-- none of the workers ended with a fault
pub record IsWellGathered (behaviour : Behaviour) (l : Line)
    (callers : List (CallerRun behaviour (roster_of l))) (counted : List Tally) : Type 0 where
  pub done : Each (λ (m : CallerRun behaviour (roster_of l)). IsOver m.ended) callers
  pub tallies : counted ≡ nothing_counted 0 ∷ tallies_from behaviour 1 callers

pub record AreGathered (behaviour : Behaviour) (l : Line) (n : ℕ) (fault : Option Cause)
    (g : Run) : Type 0 where
  pub planned : IsPlan l
  pub plan : g.objects.backend.plan ≡ roster_of l
  pub own : AreOfObjects g.objects g.handles
  pub joined : JoinedWorkers behaviour l n g.objects.broker g.objects.backend.id g.handles.pass
      g.handles.seat
  pub first : g.first ≡ length (first_messages l)
  pub rows : length g.rows.items ≡ count_line l
  pub well : IfNone fault (IsWellGathered behaviour l joined.callers g.tallies.items)

-- the gate may have wanted each redelivery of each worker; they are numbered from k on
abbrev pub AreWanted : (behaviour : Behaviour) (plan : Roster) → (ℕ → ℕ → Type 0) → ℕ
    → List (CallerRun behaviour plan) → Type 0
AreWanted behaviour plan may_want k [] = Unit {0}
AreWanted behaviour plan may_want k (m ∷ ms) =
    Each (IsWanted (may_want k) plan) m.followed.made
    × AreWanted behaviour plan may_want (suc k) ms

abbrev pub HaveWorked : (behaviour : Behaviour) → (ℕ → ℕ → Type 0) → Line → ℕ → Option Cause
    → Run → Type 0
HaveWorked behaviour may_want l n fault g =
    (h : AreGathered behaviour l n fault g)
    × AreWanted behaviour (roster_of l) may_want 1 h.joined.callers

-- the rows, one for each task, that seat s has read, which is then seat t
abbrev pub AreRead : Line → Seat → List State → Seat → Type 0
AreRead l s rows t =
    (length rows ≡ count_line l) × Serves (roster_of l) s (reads_from 1 rows) t

-- What a run leaves, if worker 0 left this record and this seat. Its tally counts the first
-- messages too.
abbrev pub leaves : Objects → Record → Seat → ℕ → List Tally → Records
leaves objects r seat first tallies =
    record {
      broker = objects.broker;
      pass = r.pass;
      backend = objects.backend;
      seat = seat;
      workers =
          set tallies 0 (record {
            number = 0;
            taken = r.taken;
            published = min greatest_count (r.published + first);
            first = r.first;
            parts = r.parts;
            dropped = r.dropped;
          });
    }

-- the run ended early for this cause, and its fault has rows
abbrev pub IsHaltedFor : Cause → RunFault → Type 0
IsHaltedFor cause (Halted c (Some rows)) = c ≡ cause
IsHaltedFor cause (Halted c None) = ⊥
IsHaltedFor cause BadWorkers = ⊥
IsHaltedFor cause BadTurn = ⊥
