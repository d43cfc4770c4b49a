use Rattle.std.proofs.Common.{◌∙◌, map, ap, sym, subst}
use Rattle.std.proofs.lemmas.Result.{IfOk-weaker}
use Rattle.canvas_semantics.specs.Line.{count_line, tree_of}
use Rattle.canvas_semantics.specs.States.{states}
use Rattle.canvas_ran.specs.Ran.{fates}
use Rattle.canvas_answer.specs.Plans.{run_line}
use Rattle.canvas_answer.specs.Raised.{AreShown, class_of, own_class}
use Rattle.canvas_answer.proofs.source.Source.whole_rows.Goals as goal

pub returns : goal.returns
returns g c = λ behaviour rows.
    let setting = c.args.self.now.setting in
    let run = run_line c.args.plans.now in
    let here = rows ∙ ap (λ l. states behaviour (tree_of l)) (sym c.run.ensures) in
    let found = c.deref.ensures.value ∙ c.in_ok-fates.ensures.evaluated behaviour here ∙ ap (fates behaviour) c.run.ensures in
    let numbered = ap (map (λ f. f.0)) c.deref.ensures.value ∙ c.in_ok-fates.ensures.numbered in
    subst (λ ss. AreShown (class_of (fates behaviour run) (own_class setting.stubs.now setting.errors.now run)) ss c.in_ok-rows.field-0.items) rows
    (subst (λ fs. AreShown (class_of fs (own_class setting.stubs.now setting.errors.now run)) c.args.report.now.rows c.in_ok-rows.field-0.items) found
    (c.in_ok-rows.ensures.shown (count_line c.run.result.now) numbered))
