use Rattle.std.proofs.Common.{rules, ℕ}
use Rattle.std.proofs.lemmas.List.Sorted.{answers_always, IsNonDecreasingBy-from_sort}
use Rattle.std.proofs.lemmas.Result.{on_ok_weaker}
use Rattle.canvas_envelope.specs.Content.{Content, number_of}
use Rattle.canvas_effects.proofs.Sorts.{ordered_by_sort}
use Rattle.canvas_effects.proofs.effects.order.sort_messages.Goals as goal

abbrev number : Content → ℕ
number m = number_of m.own

pub returns : goal.returns
returns c =
    let keys = answers_always _ _ _ (λ f a r next called. search rules) in
    let stable = c.sort_by_key.ensures.stable number keys in
    on_ok_weaker c.sort_by_key.result
    (λ sorted. ordered_by_sort number _ _ (IsNonDecreasingBy-from_sort number _ (sorted number keys)) stable) c.sort_by_key.ensures.sorted
