-- What contracts see of a core.
use Rattle.std.specs.Option.{option_map}
use Rattle.std.specs.Prelude.{ℕ, ◌+◌, [], ◌∷◌, length, min, is_some, unwrap_or, if◌then◌else◌, Bool, false, Option, Some, None}
use Rattle.canvas_task.specs.Apply.{Behaviour}
use Rattle.canvas_task.specs.declared.outcome.Outcome.{Outcome}
use Rattle.canvas_rewrite.specs.FrozenView.{PCarried}
use Rattle.canvas_envelope.specs.Content.{Content, number_of}
use Rattle.canvas_effects.specs.Job.{Job, store, publish, part}
use Rattle.canvas_envelope.specs.declared.envelope.Envelope.{Envelope}
use Rattle.canvas_history.specs.Roster.{Roster}
use Rattle.canvas_runs.specs.Book.{Book}
use Rattle.canvas_runs.specs.Following.{Working, Followed}
use Rattle.canvas_runs.specs.Tally.{greatest_count}
use Rattle.canvas_runs.specs.Core.{CoreState, taking, resting, over, failed, owning, doing, reading, acking, from_queue, ask, answered}
use Rattle.canvas_runs.specs.Worker.{opened}
use Rattle.canvas_runs.specs.declared.when.When.{When}
use Rattle.canvas_runs.specs.declared.when.When.TheVariants.{Early, Late}
use Rattle.canvas_core.specs.Asks.{Asked, Answer, to_send, replied}
use Rattle.canvas_core.specs.Books.{no_book}
use Rattle.canvas_core.specs.EnvelopeWorker.{Applied, unapplied, no_tasks, enveloped, enveloped_by, by_place, said, blank}
use Rattle.canvas_core.specs.declared.ask.Ask.{Ask}
use Rattle.canvas_core.specs.declared.ask.Ask.TheVariants.{Take, Publish, Store, Part, Read, Ack, Rest, End}
use Rattle.canvas_core.specs.declared.ask.Reply.{Reply}
use Rattle.canvas_core.specs.declared.ask.Reply.TheVariants as R

abbrev pub Left : Type 0
Left = CoreState Applied PCarried

-- the progress of a worker whose core keeps messages as their envelopes; and that from w on it
-- followed a core run of its plan, and was v then
abbrev pub Progress : Type 0
Progress = Working Applied PCarried

abbrev pub HasFollowed : Behaviour → Roster → Progress → Progress → Type 0
HasFollowed behaviour plan w v = Followed (enveloped behaviour plan) plan w v

-- What is left to do, if the task that is read is the one that a book has at the member's place.
abbrev pub located : Book → Left → Left
located book (reading g c t fs) = reading g c (unwrap_or (book.member g (length fs)) 0) fs
located book s = s

-- the same as a core has it, which knows only the places
abbrev pub placed : Left → Left
placed = located no_book

-- what is left to do, whether the envelope that is to be published was handed out, how many
-- envelopes were dropped, the envelope of the open script once its message's outcome is stored, and
-- the task of that message
pub record CoreView : Type 0 where
  pub left : Left
  pub is_out : Bool
  pub dropped : ℕ
  pub kept : Option Envelope
  pub task : Option ℕ

-- an ask is the same for any tasks and any book
abbrev pub asked : Left → Asked
asked = ask (enveloped_by no_tasks no_book)

abbrev pub next_job : Job Applied PCarried Outcome → Ask
next_job (store t o) = Store t o
next_job (publish m) = Publish
next_job (part g t c) = Part g t

-- What a core asks for that has this left to do. It names no envelope that it publishes; for a
-- member that it reads it names the place, and for the envelope that it acknowledges the task.
abbrev pub next_in : Left → Option ℕ → Ask
next_in taking x = Take
next_in resting x = Rest
next_in over x = End
next_in failed x = End
next_in (owning m) x = Store (number_of (said m.envelope).own) m.outcome
next_in (doing [] b) x = End
next_in (doing (j ∷ js) b) x = next_job j
next_in (reading g c t fs) x = Read g (length fs)
next_in acking x = Ack x

abbrev pub next : CoreView → Ask
next s = next_in s.left s.task

abbrev pub unread : Option Content → ℕ
unread None = 1
unread (Some c) = 0

abbrev pub drops_taken : Book → Answer → ℕ
drops_taken book (from_queue (Some e)) = unread (opened book e)
drops_taken book r = 0

-- how many envelopes are dropped by a reply
abbrev pub drops : Book → Left → Answer → ℕ
drops book taking r = drops_taken book r
drops book s r = 0

abbrev pub begun : CoreView
begun = record { left = taking; is_out = false; dropped = 0; kept = None; task = None }

abbrev pub kept_taken : Option Content → Envelope → Option Envelope → Option Envelope
kept_taken None e h = Some e
kept_taken (Some c) e h = h

abbrev pub kept_next : Book → Left → Option Envelope → Answer → Option Envelope
kept_next book taking h (from_queue (Some e)) = kept_taken (opened book e) e h
kept_next book (owning m) h r = Some m.envelope
kept_next book acking h r = None
kept_next book s h r = h

abbrev pub task_of : Option Content → Option ℕ
task_of None = None
task_of (Some c) = Some (number_of c.own)

abbrev pub task_next : Book → Left → Option ℕ → Answer → Option ℕ
task_next book taking x (from_queue (Some e)) = task_of (opened book e)
task_next book s x r = x

-- the envelope of the open script
abbrev pub open_of : Left → Option Envelope → Option Envelope
open_of (owning m) h = Some m.envelope
open_of s h = h

abbrev pub held : CoreView → Option Envelope
held s = open_of s.left s.kept

-- The point that the open script has reached, with the task of its message: before the message's
-- first store, or before the acknowledgement. The script of an envelope that was dropped has none.
abbrev pub point_in : Left → Option ℕ → Option (ℕ × When)
point_in (owning m) x = option_map (λ k. (k, Early)) x
point_in acking x = option_map (λ k. (k, Late)) x
point_in s x = None

abbrev pub point_at : CoreView → Option (ℕ × When)
point_at s = point_in s.left s.task

-- the member that was read is of this task
abbrev pub taught : Left → Reply → Left
taught (reading g c t fs) (R.Found u x) = reading g c u fs
taught s r = s

abbrev pub left_told : Behaviour → Book → Left → Reply → Left
left_told behaviour book s r = answered (by_place behaviour book) (taught s r) (replied r)

abbrev pub after_reply : Behaviour → Book → CoreView → Reply → CoreView
after_reply behaviour book s r =
    record {
      left = left_told behaviour book s.left r;
      is_out = false;
      dropped = min greatest_count (s.dropped + drops book s.left (replied r));
      kept = kept_next book s.left s.kept (replied r);
      task = task_next book s.left s.task (replied r);
    }

-- memory was refused
abbrev pub failing : CoreView → CoreView
failing s =
    record { left = failed; is_out = false; dropped = s.dropped; kept = s.kept; task = s.task }

-- the envelope that can be handed out
abbrev pub held_out : CoreView → Option Envelope
held_out s = if s.is_out then None else to_send (asked s.left)

-- the core waits for its publish, but no longer has the texts of the envelope that was handed out
abbrev pub unsent : Left → Left
unsent (doing (publish e ∷ js) b) = doing (publish (unapplied blank) ∷ js) b
unsent s = s

abbrev pub handed : CoreView → CoreView
handed s =
    record {
      left = unsent s.left;
      is_out = is_some (to_send (asked s.left));
      dropped = s.dropped;
      kept = s.kept;
      task = s.task;
    }

-- a core that waits for an envelope
abbrev pub waiting : ℕ → Option Envelope → Option ℕ → CoreView
waiting n h x = record { left = taking; is_out = false; dropped = n; kept = h; task = x }
