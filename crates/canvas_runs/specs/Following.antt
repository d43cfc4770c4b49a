-- When a worker's pass and seat have followed a core run, from where they were at its start
-- (Lamport's sequential consistency, as one caller sees it).
--     Makes p cs q           the pass p has made these broker calls and is q then: each is in the
--                            one legal history of its queue, after all that p had seen
--     Serves plan s cs t     like `Makes`, for a seat and its backend calls
--     Followed X plan w v    from w on the worker's pass and seat have followed a core run of the
--                            protocol X, and it is v then
use Rattle.std.specs.Prelude.{◌+◌, ◌≡◌, List, [], ◌∷◌, length, Option, None}
use Rattle.canvas_history.specs.History.{calls}
use Rattle.canvas_envelope.specs.declared.envelope.Envelope.{Envelope}
use Rattle.canvas_history.specs.Seats as seats
use Rattle.canvas_history.specs.Roster.{Roster}
use Rattle.canvas_history.specs.Passes as passes
use Rattle.canvas_runs.specs.Core.{CoreState, taking, over, IsCoreRun, left_after, Between}
use Rattle.canvas_runs.specs.Calls.{QueueAnswered, TableAnswered, FollowsScripts, AskedAndAnswered, broker_calls, core_calls, backend_calls, takes_one}
use Rattle.canvas_history.specs.Lists.{total}
use Rattle.canvas_runs.specs.Tally.{Tally, none_yet, Counted}
use Rattle.canvas_runs.specs.Protocol.{Protocol}

abbrev pub Pass : Type 0
Pass = passes.Pass Envelope

abbrev pub Seat : Type 0
Seat = seats.Seat

abbrev pub Makes : Pass → List (QueueAnswered Envelope) → Pass → Type 0
Makes p [] q = q ≡ p
Makes p (c ∷ cs) q =
    (between : Pass) × passes.Stands p (calls p.name c.0 c.1) between
    × Makes between cs q

abbrev pub Serves : Roster → Seat → List TableAnswered → Seat → Type 0
Serves plan s [] t = t ≡ s
Serves plan s (c ∷ cs) t =
    (between : Seat) × seats.Stands plan s (calls s.name c.0 c.1) between
    × Serves plan between cs t

-- A worker with messages M, and C for what the members of a chord carry: its pass and its seat,
-- what its core has left to do, the envelope of the open script, the envelopes that it took and has
-- not given to its core, and its counts.
pub record Working (M C : Type 0) : Type 0 where
  pub pass : Pass
  pub seat : Seat
  pub left : CoreState M C
  pub current : Option Envelope
  pub held : List Envelope
  pub tally : Tally

module _ {M C : Type 0} where
  -- with this pass and this seat, before its first call
  abbrev pub starting : Pass → Seat → Working M C
  starting p s =
      record { pass = p; seat = s; left = taking; current = None; held = []; tally = none_yet }

  -- not inside a script, with no envelope left over
  abbrev pub IsDone : Working M C → Type 0
  IsDone w = Between w.left × (w.held ≡ [])

  -- its last ask was a rest, which was answered with no more, and no envelope is left over
  abbrev pub IsOver : Working M C → Type 0
  IsOver w = (w.left ≡ over) × (w.held ≡ [])

pub record Followed (X : Protocol Envelope) (plan : Roster) (w v : Working X.Message X.Carried) :
    Type 0 where
  pub run : List (AskedAndAnswered Envelope)
  pub is_core : IsCoreRun X w.left run
  pub counts : Counted plan run w.tally v.tally
  pub leaves : left_after X w.left run ≡ v.left
  -- The calls of its pass. A take may come before the core's, and an envelope may be redelivered
  -- while its script is open.
  pub made : List (QueueAnswered Envelope)
  pub follows : FollowsScripts w.current w.held (core_calls run) made
  pub used : length w.held + total takes_one made ≡ total takes_one (broker_calls run)
      + length v.held
  pub makes : Makes w.pass made v.pass
  pub serves : Serves plan w.seat (backend_calls run) v.seat
