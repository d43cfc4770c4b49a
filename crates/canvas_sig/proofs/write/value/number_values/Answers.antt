use Rattle.std.proofs.Common.{◌≡◌, ◌∙◌, ◌++◌, ◌∷◌, [], None, ap, ap₂, sym, map, get_or, arith, rules}
use Rattle.std.proofs.lemmas.List.{map_push, take_more}
use Rattle.serde_json.specs.View.{view}
use Rattle.canvas_values.specs.Grammar.{some_or_zero}
use Rattle.canvas_values.specs.Writing.{number_wire}
use Rattle.canvas_sig.proofs.write.value.number_values.Goals as goal

pub loop-number-preserved : goal.loop-number-preserved
loop-number-preserved c =
    let l = c.loop-number in
    let n = get_or c.args.numbers.now l.number-index (some_or_zero None) in
    let made : view c.from.result ≡ number_wire n = search rules in
    let next = take_more c.args.numbers.now l.number-index (some_or_zero None) (omega (arith, c.loop-number-test.true)) in
    ap (map view) c.in_ok-push.ensures.items ∙ map_push view l.values.items c.from.result ∙ ap₂ (λ xs x. xs ++ x ∷ []) l.invariant made
    ∙ sym (ap (map number_wire) next ∙ map_push number_wire _ n)
