use Rattle.std.proofs.Common.{◌≡◌, ◌∙◌, ◌+◌, Some, sym, ap, subst, arith}
use Rattle.canvas_answer.specs.Raised.{class_by, own_class}
use Rattle.canvas_answer.specs.steps.Classes.{class_at}
use Rattle.canvas_answer.proofs.Classes.{AreSoFar, one_more, all_found, number_at, got_some}
use Rattle.canvas_answer.proofs.named_rows.classes_of.Goals as goal

pub loop-told-preserved : goal.loop-told-preserved
loop-told-preserved c = λ n numbered.
    let fates = c.args.fates.now in
    let own = own_class c.args.setting.stubs.now c.args.setting.errors.now c.args.plan.now in
    let i = c.loop-told.told-index in
    let task = c.told-item.result.0 in
    let fate = c.told-item.result.1 in
    let classes = c.loop-told.classes.items in
    let at = got_some fates i c.told-item.result c.loop-told-test.true c.told-item.is in
    let up : 1 + i ≡ i + 1 = omega arith in
    subst (λ xs. AreSoFar fates own xs (i + 1)) (sym c.in_ok-push.ensures.items)
    (one_more fates own classes c.class_by-class.result i task fate (c.loop-told.invariant n numbered) at (number_at fates 1 n i task fate numbered at ∙ up)
    (c.class_by-class.ensures ∙ ap (λ xs. class_by task (own task) (λ d. class_at xs d) (Some fate)) c.deref.ensures.value))

pub returns : goal.returns
returns c = λ n numbered.
    all_found c.args.fates.now (own_class c.args.setting.stubs.now c.args.setting.errors.now c.args.plan.now) c.loop-told.classes.items c.loop-told.told-index
    (c.loop-told.invariant n numbered) c.loop-told-test.false
