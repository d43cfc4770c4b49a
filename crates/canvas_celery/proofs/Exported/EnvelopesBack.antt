-- An envelope round the body of its message is the message's text, and reads back.
use Rattle.std.proofs.Common.{◌≡◌, ◌∙◌, true, Some, ap, subst}
use Rattle.std.specs.Prelude.{Result, Ok, Err, IfOk, OnOk}
use Rattle.base64.specs.GeneralPurpose.{encode_of}
use Rattle.base64.specs.Engines.{standard}
use Rattle.serde_json.specs.Data.{string}
use Rattle.serde_json.specs.Written.{compact_text}
use Rattle.canvas_task.specs.Text.{Text}
use Rattle.canvas_envelope.specs.Content.{Content}
use Rattle.canvas_envelope.specs.Fits.{fits}
use Rattle.canvas_celery.specs.Envelope.{body_wire, envelope_wire, message_text}
use Rattle.canvas_celery.specs.MessageReading.{IsSound, read_message}
use Rattle.canvas_celery.specs.Signatures.{Naming}
use Rattle.canvas_celery.specs.Sizeless.{sizeless}
use Rattle.canvas_celery.proofs.Exported.MessageBack.{IsKept, message_back}

-- an envelope with some body
abbrev around : Naming → Text → Content → Text → Text
around n queue c body = compact_text (envelope_wire n queue (string (encode_of standard body)) c)

pub its_text : {X E : Type 0} (f : X → Text) (r : Result X E) (n : Naming) (queue : Text) (c : Content) (body : Text) → body ≡ compact_text (body_wire n c)
    → IfOk r (λ x. f x ≡ compact_text (envelope_wire n queue (string (encode_of standard body)) c)) → IfOk r (λ x. f x ≡ message_text n queue c)
its_text f (Ok x) n queue c body is text = text ∙ ap (around n queue c) is
its_text f (Err e) n queue c body is text = tt

pub its_back : {X E : Type 0} (f : X → Text) (r : Result X E) (n : Naming) (queue : Text) (c : Content) (body : Text) → body ≡ compact_text (body_wire n c)
    → IfOk r (λ x. f x ≡ compact_text (envelope_wire n queue (string (encode_of standard body)) c)) → OnOk r (IsKept body) → OnOk r (fits c ≡ true)
    → IfOk r (λ x. IsSound n → read_message (f x) ≡ Some (sizeless c))
its_back f (Ok x) n queue c body is text kept checked =
    λ sound. ap read_message (text ∙ ap (around n queue c) is) ∙ message_back n sound.0 sound.1 queue c (subst IsKept is kept) checked
its_back f (Err e) n queue c body is text kept checked = tt
