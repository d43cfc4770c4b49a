-- The envelopes of messages, and that they read back.
use Rattle.std.proofs.Common.{◌≡◌, sym, ap, ◌∙◌, Result, Ok, Err, IfOk, OnOk}
use Rattle.canvas_task.specs.Text.{Text}
use Rattle.serde_json.specs.Written.{compact_text}
use Rattle.canvas_envelope.specs.Content.{Content}
use Rattle.canvas_envelope.specs.EnvelopeFaults.{Says}
use Rattle.canvas_envelope.specs.Wire.{properties_wire, headers_wire, body_wire}
use Rattle.canvas_envelope.specs.declared.envelope.Envelope.{Envelope}
use Rattle.canvas_runs.proofs.Envelopes.Readings.{says_reading}
use Rattle.canvas_runs.specs.Worker.{read_envelope, sealed}
use Rattle.canvas_engine.specs.steps.TurnRuns.{ReadsAs}

of_texts : Text → Text → Text → Envelope
of_texts p h b = record { properties = p; headers = h; body = b }

is_sealed : (e : Envelope) (m : Content) → e.properties ≡ compact_text (properties_wire m) → e.headers ≡ compact_text (headers_wire m)
    → e.body ≡ compact_text (body_wire m) → e ≡ sealed m
unfolding of_texts
is_sealed e m p h b =
    ap (λ t. of_texts t e.headers e.body) p ∙ ap (λ t. of_texts (compact_text (properties_wire m)) t e.body) h
    ∙ ap (λ t. of_texts (compact_text (properties_wire m)) (compact_text (headers_wire m)) t) b

-- an envelope of a message's texts reads back as the message
pub reads_as : (e : Envelope) (m : Content) → e.properties ≡ compact_text (properties_wire m) → e.headers ≡ compact_text (headers_wire m)
    → e.body ≡ compact_text (body_wire m)
    → Says e.properties e.headers e.body m → ReadsAs m
reads_as e m p h b says = ap read_envelope (sym (is_sealed e m p h b)) ∙ says_reading e.properties e.headers e.body m says

-- the same of what `seal` returns

abbrev AreTextsOf : Content → Envelope → Type 0
AreTextsOf m e =
    (e.properties ≡ compact_text (properties_wire m)) × (e.headers ≡ compact_text (headers_wire m)) × (e.body ≡ compact_text (body_wire m))

pub sealed_as : {E : Type 0} → (r : Result Envelope E) (m : Content) → IfOk r (AreTextsOf m) → IfOk r (λ e. e ≡ sealed m)
sealed_as (Ok e) m texts = is_sealed e m texts.0 texts.1 texts.2
sealed_as (Err _) m texts = tt

pub all_read_as : {E : Type 0} → (r : Result Envelope E) (m : Content) → IfOk r (AreTextsOf m) → IfOk r (λ e. Says e.properties e.headers e.body m)
    → OnOk r (ReadsAs m)
all_read_as (Ok e) m texts says = reads_as e m texts.0 texts.1 texts.2 says
all_read_as (Err _) m texts says = tt
