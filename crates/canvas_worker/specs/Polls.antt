-- What contracts see of a worker, what one of its polls leaves, and what its record says.
use Rattle.std.specs.Prelude.{◌≡◌, ◌+◌, ℕ, min, Bool, true, false, List, [], ◌∷◌, Option, Some, None, IsSome}
use Rattle.canvas_task.specs.Apply.{Behaviour}
use Rattle.canvas_history.specs.Passes.{QueueId, Stands, Empties}
use Rattle.canvas_semantics.specs.Line.{Line}
use Rattle.canvas_rewrite.specs.Planned.{IsPlan}
use Rattle.canvas_envelope.specs.declared.envelope.Envelope.{Envelope}
use Rattle.canvas_history.specs.Seats.{BackendView}
use Rattle.canvas_history.specs.Roster.{Roster, roster_of}
use Rattle.canvas_history.specs.Queue.{redeliver, HasTaken}
use Rattle.canvas_history.specs.Callers.{told}
use Rattle.canvas_history.specs.History.{calls}
use Rattle.canvas_runs.specs.Core.{resting, over, is_inside}
use Rattle.canvas_runs.specs.Calls.{QueueAnswered}
use Rattle.canvas_runs.specs.Following.{Pass, Seat}
use Rattle.canvas_history.specs.Lists.{Each}
use Rattle.canvas_runs.specs.Tally.{Tally, IsTally}
use Rattle.canvas_core.specs.Asks.{Asked, Answer}
use Rattle.canvas_runs.specs.Book.{book_on}
use Rattle.canvas_core.specs.CorePast.{task_in}
use Rattle.canvas_core.specs.SeatRights.{Can}
use Rattle.canvas_runs.specs.Tally.{greatest_count}
use Rattle.canvas_core.specs.CoreState.{Left, CoreView, Progress, HasFollowed, located, next, begun as new_core, after_reply, failing, held}
use Rattle.canvas_worker.specs.WorkerSteps.{AnsweredByCall, FromHeld, Batched, Delivered}
use Rattle.canvas_core.specs.declared.ask.Ask.{Ask}
use Rattle.canvas_core.specs.declared.ask.Ask.TheVariants.{Take, Store, Part, Ack, Rest}
use Rattle.canvas_core.specs.declared.ask.Reply.{Reply}
use Rattle.canvas_core.specs.declared.cause.Cause.{Cause}
use Rattle.canvas_core.specs.declared.cause.Cause.TheVariants.{Memory}
use Rattle.canvas_worker.specs.declared.record.Record.{Record}

-- a worker between two polls: its broker and its backend, its number, its pass and its seat, its
-- core, the envelopes that it took and has not given to its core, whether its next take is of one
-- envelope or of a batch, and its counts
pub record WorkerView : Type 0 where
  pub broker : QueueId
  pub backend : BackendView
  pub number : ℕ
  pub pass : Pass
  pub seat : Seat
  pub core : CoreView
  pub held : List Envelope
  pub alone : Bool
  pub taken : ℕ
  pub published : ℕ
  pub first : ℕ
  pub parts : ℕ

-- a worker that has done nothing yet: its first take is of one envelope
abbrev pub working_begun : QueueId → BackendView → ℕ → Pass → Seat → WorkerView
working_begun broker backend number pass seat =
    record {
      broker = broker;
      backend = backend;
      number = number;
      pass = pass;
      seat = seat;
      core = new_core;
      held = [];
      alone = true;
      taken = 0;
      published = 0;
      first = 0;
      parts = 0;
    }

-- what its core has left to do, with the tasks of the members that the plan has
abbrev pub left_at : WorkerView → Left
left_at w = located (book_on w.backend.plan) w.core.left

abbrev pub progress : WorkerView → Progress
progress w = record {
  pass = w.pass;
  seat = w.seat;
  left = left_at w;
  current = held w.core;
  held = w.held;
  tally =
      record {
        taken = w.taken;
        published = w.published;
        first = w.first;
        parts = w.parts;
        dropped = w.core.dropped;
      };
}

-- the same worker with this core
abbrev pub with_core : WorkerView → CoreView → WorkerView
with_core w c =
    record {
      broker = w.broker;
      backend = w.backend;
      number = w.number;
      pass = w.pass;
      seat = w.seat;
      core = c;
      held = w.held;
      alone = w.alone;
      taken = w.taken;
      published = w.published;
      first = w.first;
      parts = w.parts;
    }

-- its core was answered; `lost` is for memory that was refused
abbrev pub with_answer : Behaviour → WorkerView → Reply → WorkerView
with_answer behaviour w r = with_core w (after_reply behaviour (book_on w.backend.plan) w.core r)

abbrev pub lost : WorkerView → WorkerView
lost w = with_core w (failing w.core)

-- one more envelope was given to its core
abbrev pub one_taken : WorkerView → WorkerView
one_taken w =
    record {
      broker = w.broker;
      backend = w.backend;
      number = w.number;
      pass = w.pass;
      seat = w.seat;
      core = w.core;
      held = w.held;
      alone = w.alone;
      taken = min greatest_count (w.taken + 1);
      published = w.published;
      first = w.first;
      parts = w.parts;
    }

-- the same worker with this pass
abbrev pub with_pass : WorkerView → Pass → WorkerView
with_pass w p =
    record {
      broker = w.broker;
      backend = w.backend;
      number = w.number;
      pass = p;
      seat = w.seat;
      core = w.core;
      held = w.held;
      alone = w.alone;
      taken = w.taken;
      published = w.published;
      first = w.first;
      parts = w.parts;
    }

-- the next take of this worker is of one envelope
abbrev pub with_alone : WorkerView → WorkerView
with_alone w =
    record {
      broker = w.broker;
      backend = w.backend;
      number = w.number;
      pass = w.pass;
      seat = w.seat;
      core = w.core;
      held = w.held;
      alone = true;
      taken = w.taken;
      published = w.published;
      first = w.first;
      parts = w.parts;
    }

-- an envelope that the pass took and may redeliver: its take is in what the pass has seen, and no
-- join is owed
abbrev pub CanDeliver : Pass → Envelope → Type 0
CanDeliver p e = (p.owed ≡ []) × HasTaken (told p) p.name e

-- the envelope of the open script, and those that were not given to the core yet
abbrev pub in_hand : Option Envelope → List Envelope → List Envelope
in_hand None es = es
in_hand (Some e) es = e ∷ es

-- its pass is of its broker, its seat of its backend, which is that of a plan, and the backend lets
-- the seat do what is left. A worker that rests holds nothing, and its last take found nothing.
pub record Ready (w : WorkerView) : Type 0 where
  pub of : w.pass.of ≡ w.broker
  pub home : w.seat.of ≡ w.backend.id
  pub plan : (l : Line) × IsPlan l × (w.backend.plan ≡ roster_of l)
  pub inside : w.core.is_out ≡ false
  pub can : Can w.backend.plan w.seat (left_at w)
  pub rested : w.core.left ≡ resting → (w.held ≡ []) × Empties w.pass
  -- an open script has an envelope, of whose message the core knows the task, and each envelope in
  -- hand may be redelivered
  pub current : is_inside w.core.left ≡ true → IsSome (held w.core)
  pub task : is_inside w.core.left ≡ true
      → w.core.task ≡ task_in (book_on w.backend.plan) (held w.core)
  pub again : Each (CanDeliver w.pass) (in_hand (held w.core) w.held)
  pub counts : IsTally (progress w).tally

-- One ask of the core is answered, by a call, or by an envelope that is held or of a batch that was
-- taken for it. A take of one envelope is a batch of one, and one that finds nothing is answered
-- too.
pub data Acts (behaviour : Behaviour) (plan : Roster) (p q : Progress) : Type 0 where
  makes_call : (a : Asked) (r : Answer) → AnsweredByCall behaviour plan p q a r
      → Acts behaviour plan p q
  gives_held : (es : List Envelope) (e : Envelope) (between : Progress) → Batched p between es
      → FromHeld behaviour plan between q e → Acts behaviour plan p q

-- The core asks for an envelope, none is held, and the batch that was due was empty: nothing is
-- done, but the next take is of one envelope. So no two polls in a row find none.
abbrev pub FindsNone : WorkerView → WorkerView → Type 0
FindsNone w v =
    (next w.core ≡ Take) × (w.held ≡ []) × (w.alone ≡ false) × (v ≡ with_alone w)

-- What one poll does if the gate lets the worker go on: one ask of its core is answered, or the
-- batch that was due was empty.
pub data GoesOn (behaviour : Behaviour) (w v : WorkerView) : Type 0 where
  answers : Acts behaviour w.backend.plan (progress w) (progress v) → GoesOn behaviour w v
  finds_none : FindsNone w v → GoesOn behaviour w v

-- What a pending poll does: that, or it redelivers the envelope of the open script, or it does
-- nothing, since the gate holds the worker back.
pub data Moves (behaviour : Behaviour) (w v : WorkerView) : Type 0 where
  waits : v ≡ w → Moves behaviour w v
  acts : GoesOn behaviour w v → Moves behaviour w v
  delivers : (e : Envelope) → Delivered (progress w) (progress v) e → Moves behaviour w v

-- What the last poll does: it answers one ask, or none, since the worker is stopped or memory was
-- refused; a batch may have been taken before that.
pub data ActsLast (behaviour : Behaviour) (plan : Roster) (p q : Progress) : Type 0 where
  acts_last : Acts behaviour plan p q → ActsLast behaviour plan p q
  does_nothing : q ≡ p → ActsLast behaviour plan p q
  keeps_batch : (es : List Envelope) → Batched p q es → ActsLast behaviour plan p q

-- the envelope of the open script was redelivered, and nothing else was done
abbrev pub Redelivered : WorkerView → WorkerView → Type 0
Redelivered w v =
    (e : Envelope) × (held w.core ≡ Some e)
    × Stands w.pass (calls w.pass.name (redeliver e) None) v.pass × (v ≡ with_pass w v.pass)

-- What a pending poll leaves that did `Does`. With an envelope that is taken by itself no others
-- are taken.
pub record PendsBy (Does : WorkerView → WorkerView → Type 0) (w v : WorkerView) : Type 0 where
  pub broker : v.broker ≡ w.broker
  pub backend : v.backend ≡ w.backend
  pub number : v.number ≡ w.number
  pub ready : Ready v
  pub alone : w.alone ≡ true → v.held ≡ w.held
  pub moved : Does w v

abbrev pub Pends : Behaviour → WorkerView → WorkerView → Type 0
Pends behaviour w v = PendsBy (Moves behaviour) w v

-- like `Pends`, if the gate lets the worker go on and nothing was redelivered
abbrev pub Acted : Behaviour → WorkerView → WorkerView → Type 0
Acted behaviour w v = PendsBy (GoesOn behaviour) w v

abbrev pub tally_of : Record → Tally
tally_of r =
    record {
      taken = r.taken;
      published = r.published;
      first = r.first;
      parts = r.parts;
      dropped = r.dropped;
    }

-- the record that a worker makes as it ends
pub record Leaves (w : WorkerView) (fault : Option Cause) (r : Record) : Type 0 where
  pub same_number : r.number ≡ w.number
  pub pass : r.pass ≡ w.pass
  pub seat : r.seat ≡ w.seat
  pub counts : tally_of r ≡ (progress w).tally
  pub fault_is : r.fault ≡ fault

-- The record is that of a worker with this number in this state. Without a fault the last ask was a
-- rest answered with no more, the core was given all that was taken, and the last take found
-- nothing.
pub record IsRecordOf (number : ℕ) (p : Progress) (r : Record) : Type 0 where
  pub same_number : r.number ≡ number
  pub pass : r.pass ≡ p.pass
  pub seat : r.seat ≡ p.seat
  pub counts : tally_of r ≡ p.tally
  pub whole : r.fault ≡ None → (p.left ≡ over) × (p.held ≡ []) × Empties p.pass

-- what a ready poll leaves
pub record Ends (behaviour : Behaviour) (w : WorkerView) (r : Record) : Type 0 where
  pub ended : Progress
  pub counted : IsTally ended.tally
  pub moved : ActsLast behaviour w.backend.plan (progress w) ended
  pub is_of : IsRecordOf w.number ended r

-- a worker that has ended in state v: its record is that of its end
abbrev pub EndsWith : Behaviour → WorkerView → Option Cause → WorkerView → Type 0
EndsWith behaviour w fault v = (r : Record) → Leaves v fault r → Ends behaviour w r

-- The fault of a worker that ends at this ask: none at a rest, and memory if the answer may need
-- some, or if the core has failed. At no other ask does a worker end.
abbrev pub EndsFor : Ask → Option Cause → Type 0
EndsFor Rest fault = fault ≡ None
EndsFor (Store t o) fault = ⊥
EndsFor (Part g t) fault = ⊥
EndsFor (Ack x) fault = ⊥
EndsFor a fault = fault ≡ Some Memory

-- if the call redelivers an envelope, the gate may want that for the envelope's task
abbrev pub IsWanted : (ℕ → Type 0) → Roster → QueueAnswered Envelope → Type 0
IsWanted again plan (redeliver e, r) =
    (k : ℕ) × (task_in (book_on plan) (Some e) ≡ Some k) × again k
IsWanted again plan c = Unit {0}

-- From here on the pass and the seat of the record have followed a core run, whose counts the
-- record has. `may_want` says for which worker and task the gate may want a redelivery, and each
-- was such.
pub record TellsOf (behaviour : Behaviour) (may_want : ℕ → ℕ → Type 0) (w : WorkerView)
    (r : Record) : Type 0 where
  pub ended : Progress
  pub worked : HasFollowed behaviour w.backend.plan (progress w) ended
  pub wanted : Each (IsWanted (may_want w.number) w.backend.plan) worked.made
  pub is_of : IsRecordOf w.number ended r
