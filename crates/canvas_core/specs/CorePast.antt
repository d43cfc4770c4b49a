-- Which asks and answers lead to a core that a contract shows: they leave what it has left to do,
-- and it counts the envelopes that they dropped.
use Rattle.std.specs.Prelude.{◌≡◌, ℕ, ◌+◌, min, if◌then◌else◌, true, false, List, [], ◌∷◌, ◌++◌, Option, Some, None}
use Rattle.canvas_task.specs.Apply.{Behaviour}
use Rattle.canvas_runs.specs.Book.{Book}
use Rattle.canvas_runs.specs.Calls.{held_after}
use Rattle.canvas_envelope.specs.declared.envelope.Envelope.{Envelope}
use Rattle.canvas_runs.specs.Core.{taking, answered, left_after, ReadsBack, IsCoreRun, is_inside}
use Rattle.canvas_runs.specs.Worker.{opened}
use Rattle.canvas_core.specs.Asks.{Asked, Answer, suits, to_send, replied, FoundOf}
use Rattle.canvas_core.specs.Books.{HasMembers, IsFromOne}
use Rattle.canvas_core.specs.EnvelopeWorker.{enveloped_by}
use Rattle.canvas_runs.specs.Tally.{greatest_count}
use Rattle.canvas_core.specs.CoreState.{Left, CoreView, placed, held, asked, next, drops, unsent, begun, after_reply, held_out, handed, task_of}
use Rattle.canvas_core.specs.declared.ask.Reply.{Reply}

-- what is left to do after asks and answers
abbrev pub left_by : Behaviour → Book → List (Asked × Answer) → Left
left_by behaviour book xs = left_after (enveloped_by behaviour book) taking xs

-- how many envelopes are dropped from a state on
abbrev pub drops_from : Behaviour → Book → Left → List (Asked × Answer) → ℕ
drops_from behaviour book s [] = 0
drops_from behaviour book s (x ∷ xs) =
    drops book s x.1 + drops_from behaviour book (answered (enveloped_by behaviour book) s x.1) xs

-- the task of the message that an envelope reads as
abbrev pub task_in : Book → Option Envelope → Option ℕ
task_in book None = None
task_in book (Some e) = task_of (opened book e)

-- These asks and answers lead to the core. An envelope that was handed out isn't there any more,
-- and what is left names no member's task.
pub record Leads (behaviour : Behaviour) (book : Book) (xs : List (Asked × Answer)) (s : CoreView) :
    Type 0 where
  pub run : IsCoreRun (enveloped_by behaviour book) taking xs
  pub left : s.left
      ≡ (if s.is_out then unsent (placed (left_by behaviour book xs))
      else placed (left_by behaviour book xs))
  pub dropped : s.dropped ≡ min greatest_count (drops_from behaviour book taking xs)
  -- it holds the envelope of the open script, from its take until its acknowledgement is answered
  pub holds : held s ≡ held_after None xs
  -- and names the task of that envelope's message, or none if it is dropped
  pub task : is_inside s.left ≡ true → s.task ≡ task_in book (held s)

-- no asks and answers lead to a new core
abbrev pub NoneLead : Type 0
NoneLead = (behaviour : Behaviour) (book : Book) → Leads behaviour book [] begun

-- The core's next ask and its answer lead on to the core that was answered, if its book has all
-- members: what was found is of the member that was asked for.
abbrev pub OneMoreLeads : Type 0
OneMoreLeads =
    (behaviour : Behaviour) (book : Book) → HasMembers book → IsFromOne book
    → (xs : List (Asked × Answer)) (s : CoreView) (r : Reply) → Leads behaviour book xs s
    → ReadsBack (enveloped_by behaviour book) (left_by behaviour book xs)
    → suits (next s) r ≡ true → FoundOf book r (next s)
    → Leads behaviour book (xs ++ (asked (left_by behaviour book xs), replied r) ∷ [])
    (after_reply behaviour book s r)

-- They also lead to a core that has handed out the envelope of its next publish.
abbrev pub HandedLeads : Type 0
HandedLeads =
    (behaviour : Behaviour) (book : Book) (xs : List (Asked × Answer)) (s : CoreView)
    → Leads behaviour book xs s → Leads behaviour book xs (handed s)

abbrev pub HandsOut : Type 0
HandsOut =
    (behaviour : Behaviour) (book : Book) (xs : List (Asked × Answer)) (s : CoreView)
    → Leads behaviour book xs s → s.is_out ≡ false
    → held_out s ≡ to_send (asked (left_by behaviour book xs))
