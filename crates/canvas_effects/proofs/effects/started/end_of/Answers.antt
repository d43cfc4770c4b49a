use Rattle.std.proofs.Common.{◌∙◌, sym}
use Rattle.std.proofs.lemmas.Result.{IfOk-weaker}
use Rattle.canvas_rewrite.specs.FrozenView.{p_line_view}
use Rattle.canvas_effects.proofs.Standing.{place_never}
use Rattle.canvas_effects.proofs.Ended.{last_there_place}
use Rattle.canvas_effects.proofs.Sharing.{of_same}
use Rattle.canvas_effects.proofs.effects.started.end_of.Goals as goal

pub with_text-requires : goal.with_text-requires
with_text-requires c =
    of_same c.args.text _ _ (sym (last_there_place (p_line_view c.args.line.now) c.in-Some.last.now c.in-Some.ensures)) c.requires

pub returns-in-Some : goal.returns-in-Some
returns-in-Some c =
    IfOk-weaker c.with_text.result _ _
    (λ d is. is ∙ last_there_place (p_line_view c.args.line.now) c.in-Some.last.now c.in-Some.ensures) c.with_text.ensures

pub returns-in-None : goal.returns-in-None
returns-in-None c = sym (place_never (p_line_view c.args.line.now) (sym c.in-None.ensures))
