use Rattle.std.proofs.Common.{rules, ℕ}
use Rattle.std.proofs.lemmas.List.Sorted.{answers_always}
use Rattle.canvas_task.specs.declared.outcome.Outcome.{Outcome}
use Rattle.canvas_effects.proofs.Sorts.{in_order_stays}
use Rattle.canvas_effects.proofs.effects.order.stores_rise.Goals as goal

abbrev number : ℕ × Outcome → ℕ
number e = e.0

pub returns : goal.returns
returns c = λ yes.
    let keys = answers_always _ _ _ (λ f a r next called. search rules) in
    in_order_stays number c.args.stores.now (rw yes at (c.is_sorted_by_key.ensures.cases number keys))
