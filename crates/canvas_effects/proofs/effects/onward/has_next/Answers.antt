use Rattle.std.proofs.Common.{◌∙◌, ap}
use Rattle.std.specs.Prelude.{not}
use Rattle.canvas_effects.specs.steps.Walks.{begins_with_task}
use Rattle.canvas_effects.proofs.Continued.{begins_is}
use Rattle.canvas_effects.proofs.effects.onward.has_next.Goals as goal

pub returns : goal.returns
returns c =
    let q = c.followed.inside.tasks in
    ap not c.is_empty.ensures ∙ begins_is q.len q.items c.followed.inside.tail q.ok.0 ∙ ap (λ z. begins_with_task z.rest) c.followed.view_is
