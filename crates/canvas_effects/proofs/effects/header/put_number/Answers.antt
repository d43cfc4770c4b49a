use Rattle.std.proofs.Common.{rules, ◌∷◌, [], ◌∙◌, ◌++◌, ap, sym, append-nil, w64}
use Rattle.std.proofs.lemmas.Int.{to_z-of_z}
use Rattle.canvas_effects.proofs.Walked.{success_there, failure_there}
use Rattle.canvas_effects.proofs.effects.header.put_number.Goals as goal

pub returns-in_ok-push-in-Success : goal.returns-in_ok-push-in-Success
returns-in_ok-push-in-Success c =
    c.in_ok-push-in-Success.ensures.items
    ∙ ap (λ ns. c.args.numbers.now.items ++ ns)
    (ap (λ n. n ∷ []) (to_z-of_z w64 c.in-Success.number (search rules)) ∙ sym (success_there c.args.ended.now c.in-Success.number c.in-Success.is))

pub returns-in-Failure : goal.returns-in-Failure
returns-in-Failure c =
    sym (ap (λ ns. c.args.numbers.now.items ++ ns) (failure_there c.args.ended.now _ c.in-Failure.is) ∙ append-nil c.args.numbers.now.items)
