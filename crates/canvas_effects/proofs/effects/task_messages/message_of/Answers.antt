use Rattle.std.proofs.Common.{◌∙◌, ap}
use Rattle.std.proofs.lemmas.Result.{IfOk-weaker}
use Rattle.canvas_semantics.specs.PlacedLine.{p_stop}
use Rattle.canvas_envelope.specs.Fits.{fits}
use Rattle.canvas_effects.specs.Effects.{message}
use Rattle.canvas_effects.specs.steps.Walks.{input_seen}
use Rattle.canvas_effects.proofs.Copied.{task_kept}
use Rattle.canvas_effects.proofs.effects.task_messages.message_of.Goals as goal

pub message_from-requires-clause-fits : goal.message_from-requires-clause-fits
message_from-requires-clause-fits c =
    ap (λ y. fits (message c.args.parent.now y (input_seen c.args.input.now) p_stop))
    (task_kept c.args.task.now c.in_ok-task.task c.in_ok-place.place c.in_ok-place.ensures c.in_ok-task.ensures) ∙ c.requires

pub returns : goal.returns
returns c =
    IfOk-weaker c.message_from.result _ _
    (λ m is. is ∙ ap (λ y. message c.args.parent.now y (input_seen c.args.input.now) p_stop)
    (task_kept c.args.task.now c.in_ok-task.task c.in_ok-place.place c.in_ok-place.ensures c.in_ok-task.ensures))
    c.message_from.ensures
