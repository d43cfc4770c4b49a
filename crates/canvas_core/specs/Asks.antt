-- What contracts see of an ask and of a reply.
use Rattle.std.specs.Prelude.{◌≡◌, Bool, true, false, Option, Some, None}
use Rattle.canvas_task.specs.Apply.{IsInRange}
use Rattle.canvas_envelope.specs.declared.envelope.Envelope.{Envelope}
use Rattle.canvas_history.specs.Table as table
use Rattle.canvas_history.specs.Queue as queue
use Rattle.canvas_runs.specs.Book.{Book}
use Rattle.canvas_runs.specs.Core as C
use Rattle.canvas_core.specs.declared.ask.Ask.{Ask}
use Rattle.canvas_core.specs.declared.ask.Ask.TheVariants.{Take, Publish, Store, Part, Read, Ack, Rest}
use Rattle.canvas_core.specs.declared.ask.Reply.{Reply}
use Rattle.canvas_core.specs.declared.ask.Reply.TheVariants as R

abbrev pub Asked : Type 0
Asked = C.Ask Envelope

abbrev pub Answer : Type 0
Answer = C.Reply Envelope

-- a reply suits an ask by its kind, and nothing suits the end
abbrev pub suits : Ask → Reply → Bool
suits Take (R.Taken x) = true
suits Publish R.Published = true
suits Publish (R.NotPublished e) = true
suits (Store t o) (R.Stored s) = true
suits (Part g t) (R.Counted n) = true
suits (Read g i) (R.Found t x) = true
suits (Ack x) R.Acked = true
suits Rest (R.Rested more) = true
suits a r = false

abbrev pub to_send : Asked → Option Envelope
to_send (C.to_queue (queue.publish e)) = Some e
to_send a = None

-- a reply in terms of the machine
abbrev pub replied : Reply → Answer
replied (R.Taken x) = C.from_queue x
replied R.Published = C.from_queue None
replied (R.NotPublished e) = C.refused
replied (R.Stored s) = C.from_table (table.was s)
replied (R.Counted n) = C.from_table (table.count n)
replied (R.Found t x) = C.from_table (table.found x)
replied (R.Rested more) = C.rested more
replied R.Acked = C.acked

-- an outcome that is to be stored is one that a backend keeps
abbrev pub StoresInRange : Asked → Type 0
StoresInRange (C.to_table (table.store t o)) = IsInRange o
StoresInRange a = Unit {0}

-- an outcome that was found is one that a backend keeps
abbrev pub FoundInRange : Reply → Type 0
FoundInRange (R.Found t (Some o)) = IsInRange o
FoundInRange r = Unit {0}

-- what is found belongs to the task that the book has at the place that was asked for
abbrev pub FoundOf : Book → Reply → Ask → Type 0
FoundOf book (R.Found t x) (Read g i) = book.member g i ≡ Some t
FoundOf book r a = Unit {0}

-- a reply whose answer may need memory: an envelope, or a member's outcome
abbrev pub Grows : Reply → Type 0
Grows (R.Taken (Some e)) = Unit {0}
Grows (R.Found t (Some o)) = Unit {0}
Grows r = ⊥
