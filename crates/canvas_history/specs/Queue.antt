-- The queue of messages for one thread, which Celery calls the broker
-- (https://docs.celeryq.dev/en/stable/getting-started/introduction.html): first in, first out. And
-- histories of it.
--     QueueCall E         a call of a queue of E: publish and redeliver, which are answered None,
--                         and take
--     HasTaken log p e    a take among p's own calls gave the envelope
--     answer, next        what the queue answers, and what it holds afterwards
--     QueueEntry E        an entry of a history
--     queue_of, IsLegal   what a history replays to, and whether it is one
--     takes_of p es       takes of these by p, with no other entry between
use Rattle.std.specs.Prelude.{◌≡◌, ℕ, List, [], ◌∷◌, ◌++◌, Option, Some, None}
use Rattle.canvas_history.specs.History.{Entry, calls, heir, replay, Legal}
use Rattle.canvas_history.specs.Lists.{In}

pub data QueueCall (E : Type 0) : Type 0 where
  publish : E → QueueCall E
  take : QueueCall E
  -- a taken envelope is added to the queue again (Celery's late acknowledgement: a message whose
  -- worker didn't acknowledge it is redelivered)
  redeliver : E → QueueCall E

-- an entry of a history
abbrev pub QueueEntry : Type 0 → Type 0
QueueEntry E = Entry (QueueCall E) (Option E)

module _ {E : Type 0} where
  -- what the queue answers, and what it holds after the call
  abbrev pub answer_of : List E → QueueCall E → Option E
  answer_of s (publish e) = None
  answer_of [] take = None
  answer_of (x ∷ s) take = Some x
  answer_of s (redeliver e) = None

  abbrev pub next : List E → QueueCall E → List E
  next s (publish e) = s ++ e ∷ []
  next [] take = []
  next (x ∷ s) take = s
  next s (redeliver e) = s ++ e ∷ []

  abbrev pub HasTaken : List (QueueEntry E) → ℕ → E → Type 0
  HasTaken log p e = (c : ℕ) × In (calls c take (Some e)) log × (heir log c ≡ p)

  -- only the caller whose own take gave an envelope may redeliver it
  abbrev pub May : List (QueueEntry E) → List E → ℕ → QueueCall E → Type 0
  May log s p (publish e) = Unit {0}
  May log s p take = Unit {0}
  May log s p (redeliver e) = HasTaken log p e

  -- what the history replays to
  abbrev pub queue_of : List (QueueEntry E) → List E
  queue_of log = replay [] answer_of next May log

  abbrev pub IsLegal : List (QueueEntry E) → Type 0
  IsLegal log = Legal [] answer_of next May log

  -- takes of these, with no other entry between
  abbrev pub takes_of : ℕ → List E → List (QueueEntry E)
  takes_of p [] = []
  takes_of p (e ∷ es) = calls p take (Some e) ∷ takes_of p es
