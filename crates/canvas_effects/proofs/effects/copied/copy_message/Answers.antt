use Rattle.std.proofs.Common.{◌∙◌, map, sym, ap, ap₂}
use Rattle.canvas_rewrite.specs.FrozenView.{p_task_view}
use Rattle.canvas_envelope.specs.Fits.{fits}
use Rattle.canvas_envelope.specs.MessageView.{place_seen, rest_seen}
use Rattle.canvas_envelope.specs.SharedTexts.{place_behind}
use Rattle.canvas_effects.proofs.Copied.{content_kept}
use Rattle.canvas_effects.proofs.Sharing.{of_shared, of_same}
use Rattle.canvas_effects.proofs.effects.copied.copy_message.Goals as goal

pub invariant_of-result : goal.invariant_of-result
invariant_of-result c =
    let m = c.message.inside in
    let links = ap (map p_task_view) c.of.ensures ∙ c.in_ok-links.ensures ∙ ap (map p_task_view) (c.deref.ensures.value ∙ c.get.ensures) in
    let errbacks = ap (map p_task_view) c.of-2.ensures ∙ c.in_ok-errbacks.ensures ∙ ap (map p_task_view) (c.deref-2.ensures.value ∙ c.get-2.ensures) in
    let same = content_kept m.parent m.task _ m.name _ m.args _ m.kwargs _ m.links _ m.errbacks _ m.place _ m.rest
    c.in_ok-call.ensures.name c.in_ok-call.ensures.args c.in_ok-call.ensures.kwargs links errbacks c.in_ok-place.ensures c.in_ok-rest.ensures in
    let behind = ap₂ place_behind (sym c.in_ok-place.ensures) (sym c.in_ok-rest.ensures) in (
      ap fits same ∙ c.message.invariant.0,
      c.texts_of-texts.ensures (place_seen c.in_ok-place.place) (rest_seen c.in_ok-rest.rest)
          (of_shared m.texts.carried _ _ c.in_ok-share_text.ensures (of_same m.texts.carried _ _ behind c.message.invariant.1.carried)),
    )
