use Rattle.std.proofs.Common.{◌∙◌, None, ap}
use Rattle.std.proofs.lemmas.Result.{IfOk-weaker}
use Rattle.canvas_semantics.specs.PlacedLine.{p_nowhere}
use Rattle.canvas_rewrite.specs.FrozenView.{p_task_view, place_or}
use Rattle.canvas_envelope.specs.Fits.{fits}
use Rattle.canvas_effects.specs.Flowing.{no_input}
use Rattle.canvas_effects.proofs.Begun.{place_put_again}
use Rattle.canvas_effects.proofs.effects.started.only_message.Goals as goal

pub first_message-requires : goal.first_message-requires
first_message-requires c =
    ap fits (place_put_again None p_nowhere (place_or c.args.place) (p_task_view c.args.task.now) _ no_input c.in_ok-task.ensures) ∙ c.requires

pub returns : goal.returns
returns c =
    IfOk-weaker c.first_message.result _ _
    (λ m is. is ∙ place_put_again None p_nowhere (place_or c.args.place) (p_task_view c.args.task.now) _ no_input c.in_ok-task.ensures)
    c.first_message.ensures
