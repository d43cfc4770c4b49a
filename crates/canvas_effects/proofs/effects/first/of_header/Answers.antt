use Rattle.std.proofs.Common.{◌∙◌, ap, length}
use Rattle.std.specs.Prelude.{◌==◌}
use Rattle.canvas_effects.proofs.FirstInOrder.{header_begins}
use Rattle.canvas_effects.proofs.effects.first.of_header.Goals as goal

pub returns : goal.returns
returns c =
    header_begins c.args.end.now _ c.standing_members-lines.result.now c.standing_members-lines.ensures.value
    (ap (λ ms. length ms == 0) c.standing_members-lines.ensures.value ∙ c.requires.members)
    c.in_ok-first_place.ensures
