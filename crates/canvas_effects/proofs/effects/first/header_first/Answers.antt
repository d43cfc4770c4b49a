use Rattle.std.proofs.Common.{◌≡◌, ◌∙◌, true, refl, sym, ap, arith, length, vec_len}
use Rattle.std.proofs.lemmas.Bool.{eqb-true}
use Rattle.std.specs.Prelude.{◌==◌}
use Rattle.canvas_rewrite.specs.FrozenView.{p_end_view, p_line_view}
use Rattle.canvas_rewrite.specs.declared.frozen.FrozenLine.{out-FrozenLine}
use Rattle.canvas_effects.proofs.FirstInOrder.{begins_there, end_stands, end_begins}
use Rattle.canvas_effects.proofs.PlanStands.{plan_stands}
use Rattle.canvas_effects.proofs.effects.first.header_first.Goals as goal

-- nothing comes before the group or chord
begins : (c : goal.After-deref-in-Some) → p_end_view c.deref-in-Some.result.now ≡ p_line_view c.line-line.result.now
begins c =
    let line = c.line-line.result.now in
    let none : (vec_len c.get.result.now == 0) ≡ true = sym c.is_empty.ensures ∙ c.if-is_empty.true in
    let few : length (out-FrozenLine line).tasks ≡ 0 = omega (arith, eqb-true _ 0 none, c.get.result.now.ok.0, ap length c.get.ensures) in
    begins_there line _ c.in-Some.end c.deref-in-Some.result.now refl few c.in-Some.is c.deref-in-Some.ensures

pub returns-in-Some-clause-stand : goal.returns-in-Some-clause-stand
returns-in-Some-clause-stand c =
    let plan = c.line-line.ensures in
    end_stands c.args.plan.now c.line-line.result.now c.deref-in-Some.result.now (begins c) plan.value
    (plan_stands _ c.args.plan.now plan.planned plan.in_order)

pub returns-in-Some-clause-value : goal.returns-in-Some-clause-value
returns-in-Some-clause-value c =
    let plan = c.line-line.ensures in
    end_begins _ c.args.plan.now _ _ c.line-line.result.now c.deref-in-Some.result.now (begins c) plan.value plan.in_order
