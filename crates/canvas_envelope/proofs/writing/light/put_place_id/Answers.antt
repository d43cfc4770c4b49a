use Rattle.std.proofs.Common.{◌∙◌, sym, ap}
use Rattle.std.specs.Prelude.{string_bytes}
use Rattle.serde_json.specs.Written.{compact_text}
use Rattle.canvas_envelope.specs.MessageView.{place_seen}
use Rattle.canvas_envelope.specs.Wire.{place_id}
use Rattle.canvas_envelope.proofs.Written.KnownTexts.{alike_text, placed}
use Rattle.canvas_envelope.proofs.writing.light.put_place_id.Goals as goal

pub returns-in-Some : goal.returns-in-Some
returns-in-Some c =
    alike_text c.put_group_id.result (string_bytes c.args.out.now) (string_bytes c.put_group_id.new.out) _ _
    (ap compact_text (sym (placed c.in-Some.place) ∙ ap (λ o. place_id (place_seen o)) (sym c.in-Some.is))) c.put_group_id.ensures
