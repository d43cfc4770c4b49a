-- The message of an envelope that a book knows.
use Rattle.std.proofs.Common.{◌≡◌, ◌∙◌, Bool, true, false, Some, None, Result, Ok, Err, refl, sym, ap, subst}
use Rattle.std.specs.Prelude.{if◌then◌else◌}
use Rattle.canvas_envelope.specs.Content.{Content}
use Rattle.canvas_envelope.specs.EnvelopeFaults.{envelope_fault, Says}
use Rattle.canvas_envelope.specs.declared.envelope.Envelope.{Envelope}
use Rattle.canvas_envelope.specs.declared.fault.MessageFault.{MessageFault}
use Rattle.canvas_runs.proofs.Envelopes.Readings.{says_reading, refused_reading}
use Rattle.canvas_runs.specs.Book.{Book, message_known}
use Rattle.canvas_runs.specs.Worker.{read_envelope, known_one, opened}

pub read_so : (book : Book) (e : Envelope) (c : Content) (k : Bool) → Says e.properties e.headers e.body c → message_known book c ≡ k
    → opened book e ≡ (if k then Some c else None)
read_so book e c k says known = ap (known_one book) (says_reading e.properties e.headers e.body c says) ∙ ap (λ b. if b then Some c else None) known

pub opens_known : (book : Book) (e : Envelope) (c : Content) (k : Bool) → Says e.properties e.headers e.body c → k ≡ message_known book c → k ≡ true
    → Some c ≡ opened book e
opens_known book e c k says known is = sym (read_so book e c true says (sym known ∙ is))

pub opens_unknown : (book : Book) (e : Envelope) (c : Content) (k : Bool) → Says e.properties e.headers e.body c → k ≡ message_known book c → k ≡ false
    → None ≡ opened book e
opens_unknown book e c k says known is = sym (read_so book e c false says (sym known ∙ is))

pub opens_refused : (book : Book) (e : Envelope) (f : MessageFault) → envelope_fault e.properties e.headers e.body ≡ Some f → None ≡ opened book e
opens_refused book e f fault = sym (ap (known_one book) (refused_reading e.properties e.headers e.body f fault))

-- what an envelope says that is opened, and that the book knows it
pub opened_as : (book : Book) (e : Envelope) (c : Content) → opened book e ≡ Some c → (read_envelope e ≡ Ok c) × (message_known book c ≡ true)
opened_as book e c is = by (read_envelope e) is
  where
    by : (r : Result Content MessageFault) → known_one book r ≡ Some c → (r ≡ Ok c) × (message_known book c ≡ true)
    by (Ok d) h = go (message_known book d) refl h
      where
        go : (z : Bool) → message_known book d ≡ z → (if z then Some d else None) ≡ Some c → (◌≡◌ {A = Result Content MessageFault} (Ok d) (Ok c))
            × (message_known book c ≡ true)
        go true e h = let same : d ≡ c = cc in (ap Ok same, subst (λ x. message_known book x ≡ true) same e)
        go false e h = absurd cc
    by (Err f) h = absurd cc
