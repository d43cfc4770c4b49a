use Rattle.std.proofs.Common.{◌∙◌, ℕ, Option, sym, subst}
use Rattle.std.proofs.lemmas.Result.{IfOk-weaker}
use Rattle.canvas_task.specs.Text.{Text}
use Rattle.canvas_answer.specs.Raised.{AreShown, class_of, own_class}
use Rattle.canvas_answer.proofs.ToldRows.{plain_rows}
use Rattle.canvas_answer.proofs.named_rows.named_rows.Goals as goal

pub returns-then-is_empty-clause-shown : goal.returns-then-is_empty-clause-shown
returns-then-is_empty-clause-shown c = λ n numbered.
    let stubs = c.args.setting.stubs.now in
    let errors = c.args.setting.errors.now in
    let ss = c.args.report.now.rows in
    let class : ℕ → Option Text = λ k. class_of c.args.fates.now (own_class stubs errors c.args.plan.now) k in
    IfOk-weaker c.known_rows.result _ _
    (λ rows is. subst (λ rs. AreShown class ss rs) (sym is)
    (plain_rows stubs errors c.args.fates.now c.args.plan.now ss (sym c.is_empty.ensures ∙ c.if-is_empty.true)))
    c.known_rows.ensures
