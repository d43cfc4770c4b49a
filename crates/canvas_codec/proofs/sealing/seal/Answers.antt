use Rattle.std.proofs.Common.{◌∙◌, ap}
use Rattle.serde_json.specs.Written.{compact_text}
use Rattle.canvas_envelope.specs.Wire.{properties_wire, headers_wire, body_wire}
use Rattle.canvas_codec.proofs.sealing.seal.Goals as goal

pub returns-clause-texts : goal.returns-clause-texts
returns-clause-texts c =
    let same = c.write_rest.ensures in (
      ap (λ e. e.properties) c.in_ok-letter.ensures ∙ c.in_ok-pieces.ensures.properties ∙ ap (λ m. compact_text (properties_wire m)) same,
      ap (λ e. e.headers) c.in_ok-letter.ensures ∙ c.in_ok-pieces.ensures.headers ∙ ap (λ m. compact_text (headers_wire m)) same,
      ap (λ e. e.body) c.in_ok-letter.ensures ∙ c.in_ok-pieces.ensures.body ∙ ap (λ m. compact_text (body_wire m)) same,
    )
