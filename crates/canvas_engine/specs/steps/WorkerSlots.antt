-- Workers' places in a run on threads: what each begins with, and what it leaves.
--     IsSplitOff plan k p s slot p' s'     a slot of number k, whose pass and seat were split off
--     SplitsOff plan k p s slots p' s'     slots made one after the other, numbered from k on
--     RanSlot may_want plan before after   the worker of this slot has run to its end, or was lost;
--                                          its gate may have wanted each redelivery
--     TakesIn plan p s slots p' s'       what the workers left, joined one after the other
use Rattle.std.specs.Prelude.{ℕ, suc, ◌≡◌, ◌<◌, List, [], ◌∷◌, length, slice_index_or, All, Any, Option, Some, None}
use Rattle.canvas_history.specs.Passes.{QueueId}
use Rattle.canvas_history.specs.Seats.{TableId}
use Rattle.canvas_task.specs.Apply.{Behaviour}
use Rattle.canvas_history.specs.Seats as seats
use Rattle.canvas_history.specs.Roster.{Roster}
use Rattle.canvas_history.specs.Passes as passes
use Rattle.canvas_history.specs.Callers.{Owes}
use Rattle.canvas_runs.specs.Following.{Pass, Seat}
use Rattle.canvas_worker.specs.Finished.{Finished}
use Rattle.canvas_core.specs.declared.cause.Cause.{Cause}
use Rattle.canvas_core.specs.declared.cause.Cause.TheVariants.{Memory, Stopped}
use Rattle.canvas_worker.specs.declared.record.Record.{Record}
use Rattle.canvas_engine.specs.declared.threads.handles.Handles.{Handles}
use Rattle.canvas_engine.specs.declared.threads.handles.Objects.{Objects}
use Rattle.canvas_engine.specs.declared.threads.records.Tally.{Tally}
use Rattle.canvas_engine.specs.declared.threads.slot.SlotState.{SlotState}
use Rattle.canvas_engine.specs.declared.threads.slot.SlotState.TheVariants.{Ready, Done, Lost}
use Rattle.canvas_engine.specs.declared.threads.slot.WorkerSlot.{WorkerSlot}

-- a pass of this queue and a seat of this table
abbrev pub AreOfObjects : Objects → Handles → Type 0
AreOfObjects objects handles =
    (handles.pass.of ≡ objects.broker) × (handles.seat.of ≡ objects.backend.id)

-- a pass of this broker and a seat of this backend, neither used yet
abbrev pub HasHandles : QueueId → TableId → SlotState → Type 0
HasHandles b d (Ready q t) = (q.of ≡ b) × (t.of ≡ d)
HasHandles b d p = ⊥

abbrev pub IsReadySlot : QueueId → TableId → WorkerSlot → Type 0
IsReadySlot b d slot = HasHandles b d slot.state

abbrev pub IsSplitOff : Roster → ℕ → Pass → Seat → WorkerSlot → Pass → Seat → Type 0
IsSplitOff plan k p s slot p' s' =
    (slot.number ≡ k)
    × ((q : Pass) × (t : Seat) × (slot.state ≡ Ready q t) × passes.Parted p p' q
    × seats.Parted plan s s' t)

abbrev pub SplitsOff : Roster → ℕ → Pass → Seat → List WorkerSlot → Pass → Seat → Type 0
SplitsOff plan k p s [] p' s' = (p' ≡ p) × (s' ≡ s)
SplitsOff plan k p s (slot ∷ slots) p' s' =
    (q : Pass) × (t : Seat) × IsSplitOff plan k p s slot q t
    × SplitsOff plan (suc k) q t slots p' s'

-- a worker's pass and seat are lost only if its record is
abbrev pub LeavesState : (behaviour : Behaviour) → (ℕ → ℕ → Type 0) → Roster → ℕ → SlotState
    → SlotState → Type 0
LeavesState behaviour may_want plan n (Ready q t) (Done r) =
    Finished behaviour may_want plan n q t r
LeavesState behaviour may_want plan n (Ready q t) Lost = Unit {0}
LeavesState behaviour may_want plan n x y = ⊥

abbrev pub RanSlot : (behaviour : Behaviour) → (ℕ → ℕ → Type 0) → Roster → WorkerSlot → WorkerSlot
    → Type 0
RanSlot behaviour may_want plan before after =
    (after.number ≡ before.number)
    × LeavesState behaviour may_want plan before.number before.state after.state

abbrev pub AllRan : (behaviour : Behaviour) → (ℕ → ℕ → Type 0) → Roster → List WorkerSlot
    → List WorkerSlot → Type 0
AllRan behaviour may_want plan before after =
    (i : ℕ) (d : WorkerSlot) → i < length before
    → RanSlot behaviour may_want plan (slice_index_or before i d) (slice_index_or after i d)

-- the worker has left a record
abbrev pub LeftARecord : SlotState → Type 0
LeftARecord (Done r) = Unit {0}
LeftARecord p = ⊥

-- a record without a fault
abbrev pub IsWell : SlotState → Type 0
IsWell (Done r) = r.fault ≡ None
IsWell p = ⊥

-- memory was refused to the worker, or its executor failed
abbrev pub LacksMemory : SlotState → Type 0
LacksMemory (Done r) = r.fault ≡ Some Memory
LacksMemory Lost = Unit {0}
LacksMemory (Ready q t) = ⊥

-- why workers ended early, if any did: for memory exactly if one of them was refused memory
abbrev pub IsWhy : List WorkerSlot → Option Cause → Type 0
IsWhy slots None = All (λ s. IsWell s.state) slots
IsWhy slots (Some Memory) = Any (λ s. LacksMemory s.state) slots
IsWhy slots (Some Stopped) =
    (All (λ s. IsWell s.state) slots → ⊥) × (Any (λ s. LacksMemory s.state) slots → ⊥)

-- what the worker left is of this broker and this backend
abbrev pub IsPostOf : QueueId → TableId → SlotState → Type 0
IsPostOf b d (Done r) = (r.pass.of ≡ b) × (r.seat.of ≡ d)
IsPostOf b d p = ⊥

abbrev pub AreOf : QueueId → TableId → List WorkerSlot → Type 0
AreOf b d [] = Unit {0}
AreOf b d (slot ∷ slots) = IsPostOf b d slot.state × AreOf b d slots

abbrev pub TakesIn : Roster → Pass → Seat → List WorkerSlot → Pass → Seat → Type 0
TakesIn plan p s [] p' s' = (p' ≡ p) × (s' ≡ s)
TakesIn plan p s (slot ∷ slots) p' s' =
    (r : Record) × (slot.state ≡ Done r) × (q : Pass) × (t : Seat) × Owes p r.pass q
    × passes.IsHistory q × seats.Joined plan s r.seat t × TakesIn plan q t slots p' s'

-- the counts that a worker left
abbrev pub counts : ℕ → Record → Tally
counts n r =
    record {
      number = n;
      taken = r.taken;
      published = r.published;
      first = r.first;
      parts = r.parts;
      dropped = r.dropped;
    }

abbrev pub nothing_counted : ℕ → Tally
nothing_counted n =
    record { number = n; taken = 0; published = 0; first = 0; parts = 0; dropped = 0 }

abbrev pub tally_in : WorkerSlot → Tally
tally_in slot = tally_left slot.number slot.state where
  tally_left : ℕ → SlotState → Tally
  tally_left n (Done r) = counts n r
  tally_left n p = nothing_counted n
