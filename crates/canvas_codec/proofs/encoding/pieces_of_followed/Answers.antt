use Rattle.std.proofs.Common.{◌∙◌, sym, ap}
use Rattle.serde_json.specs.Written.{compact_text}
use Rattle.canvas_envelope.specs.Content.{number_of}
use Rattle.canvas_envelope.specs.Wire.{properties_wire, headers_wire}
use Rattle.canvas_codec.proofs.EnvelopeBack.{envelope_back}
use Rattle.canvas_codec.proofs.EnvelopeLaw.{reading_says}
use Rattle.canvas_codec.proofs.encoding.pieces_of_followed.Goals as goal

pub texts_of-requires-clause-task : goal.texts_of-requires-clause-task
texts_of-requires-clause-task c = c.number_followed-task.ensures.value ∙ ap (λ z. number_of z.own) (sym c.followed.view_is)

pub returns-in_ok-pieces-in-Some-clause-properties : goal.returns-in_ok-pieces-in-Some-clause-properties
returns-in_ok-pieces-in-Some-clause-properties c =
    c.in_ok-pieces-in-Some.ensures.properties ∙ ap (λ z. compact_text (properties_wire z)) c.followed.view_is

pub returns-in_ok-pieces-in-Some-clause-headers : goal.returns-in_ok-pieces-in-Some-clause-headers
returns-in_ok-pieces-in-Some-clause-headers c =
    c.in_ok-pieces-in-Some.ensures.headers ∙ ap (λ z. compact_text (headers_wire z)) c.followed.view_is

pub returns-in_ok-pieces-in-Some-clause-reads_back : goal.returns-in_ok-pieces-in-Some-clause-reads_back
returns-in_ok-pieces-in-Some-clause-reads_back c =
    let texts = c.in_ok-pieces-in-Some.ensures in
    let body = rw c.in-Some.is at c.in_ok-body.ensures.value in
    reading_says _ _ _ c.args.followed.now
    (envelope_back c.args.followed.now _ _ _ c.number_followed-task.ensures.checked
    (texts.properties ∙ ap (λ z. compact_text (properties_wire z)) c.followed.view_is)
    (texts.headers ∙ ap (λ z. compact_text (headers_wire z)) c.followed.view_is) (texts.body ∙ body) texts.utf8.0 texts.utf8.1 texts.utf8.2)
