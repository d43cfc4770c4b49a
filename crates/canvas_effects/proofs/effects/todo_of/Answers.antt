use Rattle.std.proofs.Common.{◌∙◌, ap₂}
use Rattle.std.specs.Option.{option_map}
use Rattle.canvas_effects.specs.Effects.{Effect}
use Rattle.canvas_effects.specs.Todos.{part_view}
use Rattle.canvas_effects.proofs.effects.todo_of.Goals as goal

pub returns : goal.returns
returns c =
    ap₂ {C = Effect} (λ ss ms. record { stores = ss; messages = ms; part = option_map part_view c.args.part })
    (c.of.ensures ∙ c.in_ok-sort_stores.ensures) (c.of-2.ensures ∙ c.in_ok-sort_messages.ensures)
