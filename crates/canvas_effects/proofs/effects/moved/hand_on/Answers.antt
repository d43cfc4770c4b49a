use Rattle.std.proofs.Common.{◌∙◌, sym, ap, subst}
use Rattle.canvas_rewrite.specs.FrozenView.{p_line_view, p_task_view}
use Rattle.canvas_semantics.specs.PlacedLine.{p_nowhere}
use Rattle.canvas_envelope.specs.MessageView.{rest_seen}
use Rattle.canvas_envelope.specs.SharedTexts.{AreTexts}
use Rattle.canvas_effects.specs.Carrying.{is_whole}
use Rattle.canvas_effects.specs.steps.Walks.{input_seen}
use Rattle.canvas_effects.proofs.Standing.{message_fits}
use Rattle.canvas_effects.proofs.Ended.{handed}
use Rattle.canvas_effects.proofs.effects.moved.hand_on.Goals as goal

pub message_from-requires-clause-fits : goal.message_from-requires-clause-fits
message_from-requires-clause-fits c =
    message_fits c.args.parent.now (p_task_view c.in-Some.next) (input_seen c.args.input.now) (rest_seen c.in-Some.rest)
    c.requires.parent c.requires.input (ap is_whole (sym c.in-Some.ensures) ∙ c.requires.line)

pub message_from-requires-clause-texts : goal.message_from-requires-clause-texts
message_from-requires-clause-texts c =
    c.texts_behind-texts.ensures p_nowhere (p_task_view c.in-Some.next) (rest_seen c.in-Some.rest)
    (subst (AreTexts c.args.texts p_nowhere) c.in-Some.ensures c.requires.texts)

pub returns-in_ok-push-in-Some : goal.returns-in_ok-push-in-Some
returns-in_ok-push-in-Some c =
    handed c.args.messages.now.items _ c.in_ok-message_from-in-Some.field-0 c.args.parent.now (p_task_view c.in-Some.next) (rest_seen c.in-Some.rest)
    (p_line_view c.args.line) (input_seen c.args.input.now) c.in-Some.ensures c.in_ok-message_from-in-Some.ensures c.in_ok-push-in-Some.ensures.items
