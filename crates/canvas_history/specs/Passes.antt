-- What contracts see of a pass, and what the calls of a broker tell: the clauses of Callers, for
-- the queue (Lamport's sequential consistency).
--     QueueId            which broker it is
--     CallerAt I E       a caller of a queue of E that I names; a Pass E is one of a broker
--     Stands, Parted, Owes, CouldStand, IsHistory    as in Callers, for the queue
--     Took p es p'       the takes of es are next to each other, and p is p' from then on
--     Empties p          if no other caller is live, what p has seen replays to the empty queue
use Rattle.std.specs.Prelude.{◌≡◌, ℕ, List, [], ◌∷◌, Option}
use Rattle.canvas_history.specs.Callers as callers
use Rattle.canvas_history.specs.Callers.{Caller, told}
use Rattle.canvas_history.specs.History.{Sole}
use Rattle.canvas_history.specs.Queue.{QueueCall, QueueEntry, answer_of, next, May, queue_of, takes_of}

abbrev pub CallerAt : Type 0 → Type 0 → Type 0
CallerAt I E = Caller I (QueueCall E) (Option E)

-- the two numbers that name a queue
abbrev pub QueueId : Type 0
QueueId = ℕ × ℕ

abbrev pub Pass : Type 0 → Type 0
Pass E = CallerAt QueueId E

module _ {I E : Type 0} where
  abbrev pub Stands : CallerAt I E → QueueEntry E → CallerAt I E → Type 0
  Stands p e p' = callers.Stands [] answer_of next May p e p'

  abbrev pub CouldStand : CallerAt I E → QueueEntry E → Type 0
  CouldStand p e = callers.CouldStand [] answer_of next May p e

  abbrev pub Parted : CallerAt I E → CallerAt I E → CallerAt I E → Type 0
  Parted p p' q = callers.Parted [] answer_of next May p p' q

  abbrev pub IsHistory : CallerAt I E → Type 0
  IsHistory p = callers.IsHistory [] answer_of next May p

  -- with no takes there is no entry
  abbrev pub Took : CallerAt I E → List E → CallerAt I E → Type 0
  Took p [] p' = p' ≡ p
  Took p (e ∷ es) p' = callers.StandTogether [] answer_of next May p (takes_of p.name (e ∷ es)) p'

  -- if no other caller is live, what the pass has seen, with the joins that it owes, replays to the
  -- empty queue
  abbrev pub Empties : CallerAt I E → Type 0
  Empties p = Sole (told p) p.name → queue_of (told p) ≡ []
