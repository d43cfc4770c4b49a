use Rattle.std.proofs.Common.{◌∙◌, ap}
use Rattle.std.proofs.lemmas.Result.{IfOk-weaker}
use Rattle.canvas_rewrite.specs.FrozenView.{p_task_view, place_or}
use Rattle.canvas_semantics.specs.PlacedLine.{p_stop}
use Rattle.canvas_envelope.specs.Content.{place_of}
use Rattle.canvas_envelope.specs.MessageView.{place_seen, rest_seen}
use Rattle.canvas_effects.specs.Placing.{placed}
use Rattle.canvas_effects.specs.steps.Walks.{input_seen}
use Rattle.canvas_effects.proofs.Begun.{moved_is, not_stop, place_put}
use Rattle.canvas_effects.proofs.Sharing.{behind_all, at_the_end}
use Rattle.canvas_effects.proofs.effects.started.first_message.Goals as goal

pub message_from-requires-clause-texts : goal.message_from-requires-clause-texts
message_from-requires-clause-texts c =
    c.texts_of-texts.ensures (place_of (p_task_view c.into_place-first.result)) p_stop
    (at_the_end c.parts-place.result.1 (place_or c.args.place) (place_of (p_task_view c.into_place-first.result))
    (ap place_of c.into_place-first.ensures ∙ place_put (place_seen c.parts-place.result.0) (p_task_view c.args.first) ∙ c.parts-place.ensures.place)
    c.parts-place.ensures.text)

pub message_from-requires-2-clause-texts : goal.message_from-requires-2-clause-texts
message_from-requires-2-clause-texts c =
    let l = rest_seen c.args.rest in
    c.texts_of-texts.ensures (place_of (p_task_view c.args.first)) (rest_seen c.in_ok-rest.rest)
    (behind_all c.parts-place.result.1 (place_or c.args.place) (place_of (p_task_view c.args.first)) l (rest_seen c.in_ok-rest.rest)
    (not_stop l c.if-is_last.ensures)
    (c.in_ok-rest.ensures ∙ ap (λ q. placed q l) c.parts-place.ensures.place) c.parts-place.ensures.text)

pub returns : goal.returns
returns c =
    let l = rest_seen c.args.rest in
    IfOk-weaker c.message_from-2.result _ _
    (λ m is. is ∙ moved_is c.args.parent.now (p_task_view c.args.first) (input_seen c.args.input.now) (place_or c.args.place) l
    (rest_seen c.in_ok-rest.rest) (not_stop l c.if-is_last.ensures) (c.in_ok-rest.ensures ∙ ap (λ q. placed q l) c.parts-place.ensures.place))
    c.message_from-2.ensures
