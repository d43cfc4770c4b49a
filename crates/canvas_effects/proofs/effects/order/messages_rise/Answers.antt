use Rattle.std.proofs.Common.{rules, ℕ}
use Rattle.std.proofs.lemmas.List.Sorted.{answers_always}
use Rattle.canvas_envelope.specs.Content.{Content, number_of}
use Rattle.canvas_effects.proofs.Sorts.{in_order_stays}
use Rattle.canvas_effects.proofs.effects.order.messages_rise.Goals as goal

abbrev number : Content → ℕ
number m = number_of m.own

pub returns : goal.returns
returns c = λ yes.
    let keys = answers_always _ _ _ (λ f a r next called. search rules) in
    in_order_stays number c.args.messages.now (rw yes at (c.is_sorted_by_key.ensures.cases number keys))
