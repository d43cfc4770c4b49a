use Rattle.std.proofs.Common.{◌∙◌, sym, ap}
use Rattle.std.specs.Prelude.{string_bytes}
use Rattle.serde_json.specs.Written.{compact_text}
use Rattle.canvas_envelope.specs.Content.{place_of}
use Rattle.canvas_envelope.specs.SharedTexts.{backwards}
use Rattle.canvas_envelope.specs.Wire.{carried_wire, list_or_null, body_wire}
use Rattle.canvas_envelope.specs.declared.embed.Embed.{Embed}
use Rattle.canvas_envelope.specs.steps.Lines.{followed_by}
use Rattle.canvas_envelope.specs.steps.Texts.{onward_text}
use Rattle.canvas_envelope.proofs.Written.Bodies.{by_parts, embed_utf8}
use Rattle.canvas_envelope.proofs.writing.body.body_with.Goals as goal

pub returns-clause-value : goal.returns-clause-value
returns-clause-value c rest said =
    let m = c.message.inside in
    let embed : Embed = record { links = c.in_ok-links.links; following = c.args.following; errbacks = c.in_ok-errbacks.errbacks } in
    by_parts m.parent m.task m.name _ m.args _ m.kwargs _ m.links _ m.errbacks m.place m.rest rest embed (string_bytes c.put_arguments.new.out) _
    c.in_ok-put_arguments.ensures c.in_ok-front.ensures.bytes c.in_ok-links.ensures.value c.in_ok-errbacks.ensures.value
    (said ∙ ap (λ z. onward_text (list_or_null (backwards rest)) (carried_wire (place_of z.own))) (sym c.message.view_is))
    (c.deref.ensures.value ∙ c.get.ensures) c.get-2.ensures.entries (c.deref-2.ensures.value ∙ c.get-3.ensures) (c.deref-3.ensures.value ∙ c.get-4.ensures)
    ∙ ap (λ z. compact_text (body_wire (followed_by z rest))) c.message.view_is

pub returns-clause-utf8 : goal.returns-clause-utf8
returns-clause-utf8 c =
    let embed : Embed = record { links = c.in_ok-links.links; following = c.args.following; errbacks = c.in_ok-errbacks.errbacks } in
    embed_utf8 embed c.in_ok-links.ensures.utf8 c.requires c.in_ok-errbacks.ensures.utf8
