use Rattle.std.proofs.Common.{◌∙◌, ap}
use Rattle.std.proofs.lemmas.Result.{IfOk-weaker}
use Rattle.canvas_rewrite.specs.FrozenView.{p_line_view}
use Rattle.canvas_effects.specs.Carrying.{place_stands}
use Rattle.canvas_effects.proofs.Standing.{place_whole}
use Rattle.canvas_effects.proofs.Ended.{last_there_place, last_there_part, no_end_part}
use Rattle.canvas_effects.proofs.effects.last_part.Goals as goal

pub part_of-requires : goal.part_of-requires
part_of-requires c = ap place_stands (last_there_place (p_line_view c.args.line.now) c.in-Some.last.now c.in-Some.ensures)
    ∙ place_whole (p_line_view c.args.line.now) c.requires

pub returns-in-Some : goal.returns-in-Some
returns-in-Some c = IfOk-weaker c.part_of.result _ _
    (λ part is. is ∙ last_there_part (p_line_view c.args.line.now) c.in-Some.last.now c.in-Some.ensures) c.part_of.ensures

pub returns-in-None : goal.returns-in-None
returns-in-None c = no_end_part (p_line_view c.args.line.now) c.in-None.ensures
