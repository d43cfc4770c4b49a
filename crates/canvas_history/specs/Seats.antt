-- What contracts see of a backend and of a seat, and what its calls tell: the clauses of Callers,
-- for the table of results (Lamport's sequential consistency).
--     TableId             which backend it is
--     BackendView, Seat          a backend, and a seat
--     as_caller s         the seat as a caller
--     Stands, Parted, Joined, Adds, LeavesOne    as in Callers, for the table
use Rattle.std.specs.Prelude.{ℕ, List}
use Rattle.canvas_history.specs.Callers as callers
use Rattle.canvas_history.specs.Callers.{Caller, owing_none}
use Rattle.canvas_history.specs.History.{Entry}
use Rattle.canvas_history.specs.Roster.{Roster}
use Rattle.canvas_history.specs.Table.{TableCall, TableReply, Log, no_results, reply_of, next_of, May}

-- the numbers that name a table
abbrev pub TableId : Type 0
TableId = List ℕ

-- a backend: which one it is, and the index of its plan
pub record BackendView : Type 0 where
  pub id : TableId
  pub plan : Roster

-- a seat: its backend, its caller's number, and the beginning of the history that it has seen
pub record Seat : Type 0 where
  pub of : TableId
  pub name : ℕ
  pub seen : Log

-- its joins are in the history at once: it answers only for itself, and owes none
abbrev pub as_caller : Seat → Caller TableId TableCall TableReply
as_caller s = owing_none s.of s.name s.seen

abbrev pub Adds : Seat → Log → Seat → Type 0
Adds s es t = callers.Adds (as_caller s) es (as_caller t)

abbrev pub LeavesOne : Seat → Type 0
LeavesOne s = callers.LeavesOne (as_caller s)

abbrev pub Stands : Roster → Seat → Entry TableCall TableReply → Seat → Type 0
Stands plan s e t =
    callers.Stands no_results (reply_of plan) next_of (May plan) (as_caller s) e (as_caller t)

abbrev pub Parted : Roster → Seat → Seat → Seat → Type 0
Parted plan s t u =
    callers.Parted no_results (reply_of plan) next_of (May plan) (as_caller s) (as_caller t)
    (as_caller u)

abbrev pub Joined : Roster → Seat → Seat → Seat → Type 0
Joined plan s u t =
    callers.Joined no_results (reply_of plan) next_of (May plan) (as_caller s) (as_caller u)
    (as_caller t)
