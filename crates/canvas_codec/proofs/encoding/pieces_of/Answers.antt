use Rattle.std.proofs.Common.{◌∙◌}
use Rattle.canvas_codec.proofs.EnvelopeBack.{envelope_back}
use Rattle.canvas_codec.proofs.EnvelopeLaw.{reading_says}
use Rattle.canvas_codec.proofs.encoding.pieces_of.Goals as goal

pub returns-clause-reads_back : goal.returns-clause-reads_back
returns-clause-reads_back c =
    let texts = c.in_ok-texts_of.ensures in
    reading_says _ _ _ c.args.message.now
    (envelope_back c.args.message.now _ _ _ c.number.ensures.checked texts.properties texts.headers (texts.body ∙ c.in_ok-body.ensures.value)
    texts.utf8.0 texts.utf8.1 texts.utf8.2)
