-- A message whose three texts are UTF-8, as ASCII is, reads back from its envelope.
use Rattle.std.proofs.Common.{◌≡◌, ◌∙◌, true, refl, sym}
use Rattle.std.specs.Str.{IsUtf8}
use Rattle.serde_json.specs.Written.{compact_text}
use Rattle.json.proofs.Printed.Utf8.{are_ascii, IsUtf8-are_ascii}
use Rattle.canvas_envelope.specs.Content.{Content}
use Rattle.canvas_envelope.specs.Fits.{fits}
use Rattle.canvas_envelope.specs.Wire.{properties_wire, headers_wire, body_wire}
use Rattle.canvas_codec.proofs.EnvelopeBack.{envelope_back}
use Rattle.canvas_codec.proofs.EnvelopeLaw.{envelope_judged}
use Rattle.canvas_runs.specs.Worker.{IsReadBack}

pub utf8_back : (c : Content) → fits c ≡ true → IsUtf8 (compact_text (properties_wire c))
    → IsUtf8 (compact_text (headers_wire c)) → IsUtf8 (compact_text (body_wire c)) → IsReadBack c
utf8_back c fit properties headers body =
    sym (envelope_judged _ _ _) ∙ envelope_back c _ _ _ fit refl refl refl properties headers body

abbrev pub AreAscii : Content → Type 0
AreAscii c =
    (are_ascii (compact_text (properties_wire c)) ≡ true) × (are_ascii (compact_text (headers_wire c)) ≡ true)
    × (are_ascii (compact_text (body_wire c)) ≡ true)

pub ascii_back : (c : Content) → fits c ≡ true → AreAscii c → IsReadBack c
ascii_back c fit ascii =
    utf8_back c fit (IsUtf8-are_ascii _ ascii.0) (IsUtf8-are_ascii _ ascii.1) (IsUtf8-are_ascii _ ascii.2)
