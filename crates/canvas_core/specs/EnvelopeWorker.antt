-- The worker of a plan that keeps each message as its envelope, as a core does (Celery task message
-- protocol, version 2). `law_of_cores` leads from here to the worker whose messages are the
-- envelopes' contents.
use Rattle.std.specs.Prelude.{◌≡◌, ℕ, Bool, ◌&&◌, if◌then◌else◌, [], map, Option, Some, None, is_none, Ok}
use Rattle.canvas_task.specs.Apply.{Behaviour}
use Rattle.canvas_task.specs.declared.outcome.Kind.TheVariants.{NotRegistered}
use Rattle.canvas_task.specs.declared.outcome.Fault.TheVariants.{Plain}
use Rattle.canvas_task.specs.declared.outcome.Outcome.{Outcome}
use Rattle.canvas_task.specs.declared.outcome.Outcome.TheVariants.{Failure}
use Rattle.canvas_rewrite.specs.FrozenView.{PCarried}
use Rattle.canvas_envelope.specs.Content.{Content, number_of}
use Rattle.canvas_effects.specs.Effects.{outcome_of, after, body_after, script}
use Rattle.canvas_envelope.specs.EnvelopeContent.{content_said}
use Rattle.canvas_envelope.specs.EnvelopeFaults.{envelope_fault}
use Rattle.canvas_envelope.specs.Fits.{fits}
use Rattle.canvas_effects.specs.Job.{Job, store, publish, part}
use Rattle.canvas_envelope.specs.declared.envelope.Envelope.{Envelope}
use Rattle.canvas_history.specs.Roster.{Roster}
use Rattle.canvas_runs.specs.Book.{Book, book_on}
use Rattle.canvas_runs.specs.Protocol.{Protocol}
use Rattle.canvas_runs.specs.Worker.{sealed, read_envelope, opened}

-- the content of an envelope's texts, whether they are refused or not
abbrev pub said : Envelope → Content
said e = content_said e.headers e.body

-- an envelope without texts, which is refused: it marks one that isn't there
abbrev pub blank : Envelope
blank = record { properties = []; headers = []; body = [] }

-- a content that a message may have, and whose texts nothing refuses
abbrev pub is_sendable : Content → Bool
is_sendable c =
    fits c && is_none (envelope_fault (sealed c).properties (sealed c).headers (sealed c).body)

abbrev pub envelope_of : Content → Envelope
envelope_of c = if is_sendable c then sealed c else blank

-- an envelope, with the outcome of its task's call once it was taken
pub record Applied : Type 0 where
  pub envelope : Envelope
  pub outcome : Outcome

-- an envelope that is to be published: its task was not called
abbrev pub unapplied : Envelope → Applied
unapplied e = record { envelope = e; outcome = Failure (Plain NotRegistered) }

-- a job, with its message as an envelope
abbrev pub enclosed : Job Content PCarried Outcome → Job Applied PCarried Outcome
enclosed (store t o) = store t o
enclosed (publish c) = publish (unapplied (envelope_of c))
enclosed (part g t l) = part g t l

-- no tasks
abbrev pub no_tasks : Behaviour
no_tasks name args named = Failure (Plain NotRegistered)

module _ (behaviour : Behaviour) where
  -- the envelope with its call's outcome, if it is that of a message
  abbrev pub applied_if : Option Content → Envelope → Option Applied
  applied_if None e = None
  applied_if (Some c) e = Some (record { envelope = e; outcome = outcome_of behaviour (said e) })

  -- with a book's knowledge, if these are the tasks of a header's members
  abbrev pub enveloped_with : Book → (ℕ → ℕ → Option ℕ) → Protocol Envelope
  enveloped_with book member = record {
    Message = Applied;
    Carried = PCarried;
    no = λ m. number_of (said m.envelope).own;
    outcome = λ m. m.outcome;
    ended = λ m o. map enclosed (script (after (said m.envelope) o));
    completed = λ c es. map enclosed (script (body_after c es));
    size = λ c. c.size;
    member = member;
    sealed = λ m. m.envelope;
    Back = λ m. read_envelope m.envelope ≡ Ok (said m.envelope);
    opened = λ e. applied_if (opened book e) e;
  }

  abbrev pub enveloped_by : Book → Protocol Envelope
  enveloped_by book = enveloped_with book book.member

  -- With a book that knows a header's members only by their places, as a core does: each has 0 for
  -- its task.
  abbrev pub by_place : Book → Protocol Envelope
  by_place book = enveloped_with book (λ g i. Some 0)

  abbrev pub enveloped : Roster → Protocol Envelope
  enveloped plan = enveloped_by (book_on plan)
