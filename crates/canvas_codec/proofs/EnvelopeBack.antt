-- The texts of a message are read as the message.
use Rattle.std.proofs.Common.{◌≡◌, ◌≤◌, true, Some, Ok, ap, ◌∙◌}
use Rattle.std.specs.Prelude.{if◌then◌else◌, None}
use Rattle.std.specs.Str.{IsUtf8}
use Rattle.std.proofs.lemmas.Str.{is_utf8-from_IsUtf8}
use Rattle.serde_json.specs.Data.{Data, depth}
use Rattle.serde_json.specs.Read.{read, max_depth}
use Rattle.serde_json.specs.Written.{compact_text}
use Rattle.canvas_values.specs.CanvasText.{json_of}
use Rattle.canvas_sig.specs.steps.Clean.{IsClean}
use Rattle.canvas_task.specs.Text.{Text}
use Rattle.canvas_sig.proofs.ReadsAgain.{text_read}
use Rattle.canvas_envelope.specs.Content.{Content}
use Rattle.canvas_envelope.specs.Fits.{fits}
use Rattle.canvas_codec.specs.steps.Reading.{envelope_reading}
use Rattle.canvas_envelope.specs.Wire.{body_wire, headers_wire, properties_wire}
use Rattle.canvas_codec.proofs.CleanMessage.{texts}
use Rattle.canvas_codec.proofs.MessageBack.{message_back}

json_back : (d : Data) (text : Text) → text ≡ compact_text d → IsUtf8 text → IsClean d → depth d ≤ max_depth → json_of text ≡ Some d
json_back d text is utf8 clean low =
    ap (λ b. if b then read text else None) (is_utf8-from_IsUtf8 text utf8) ∙ ap read is ∙ text_read d clean low

pub envelope_back : (c : Content) (p h b : Text) → fits c ≡ true → p ≡ compact_text (properties_wire c) → h ≡ compact_text (headers_wire c)
    → b ≡ compact_text (body_wire c)
    → IsUtf8 p → IsUtf8 h → IsUtf8 b → envelope_reading p h b ≡ Ok c
envelope_back c p h b ok is_p is_h is_b utf8_p utf8_h utf8_b =
    let t = texts c ok in
    rw (
      json_back (properties_wire c) p is_p utf8_p t.properties t.low_properties,
      json_back (headers_wire c) h is_h utf8_h t.headers t.low_headers,
      json_back (body_wire c) b is_b utf8_b t.body t.low_body,
    ) (message_back c ok)
