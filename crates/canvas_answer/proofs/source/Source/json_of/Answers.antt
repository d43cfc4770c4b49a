use Rattle.std.proofs.Common.{◌∙◌, map, ap, sym, string_bytes}
use Rattle.std.proofs.lemmas.Result.{IfOk-weaker}
use Rattle.canvas_semantics.specs.Line.{count_line, tree_of}
use Rattle.canvas_semantics.specs.States.{states}
use Rattle.canvas_ran.specs.Ran.{fates}
use Rattle.canvas_answer.specs.Asking.{asking}
use Rattle.canvas_answer.specs.Blamed.{blame_said, blames}
use Rattle.canvas_answer.specs.Plans.{run_line}
use Rattle.canvas_answer.proofs.ToldRows.{told_json}
use Rattle.canvas_answer.proofs.source.Source.json_of.Goals as goal

pub returns : goal.returns
returns g c = λ behaviour rows.
    let plan = c.run.result.now in
    let here = rows ∙ ap (λ l. states behaviour (tree_of l)) (sym c.run.ensures) in
    let found = c.deref-2.ensures.value ∙ c.in_ok-fates.ensures.evaluated behaviour here ∙ ap (fates behaviour) c.run.ensures in
    let blamed = ap (map blame_said) c.deref-3.ensures.value ∙ c.in_ok-blamed.ensures
    ∙ (λ i. blames c.args.self.now.setting.stubs.now ((c.deref.ensures.value ∙ sym c.deref-2.ensures.value) i) c.args.report.now.rows (c.run-2.ensures i)) in
    let numbered = ap (map (λ f. f.0)) c.deref-2.ensures.value ∙ c.in_ok-fates.ensures.numbered in
    IfOk-weaker c.json_told.result _ _
    (λ text h. told_json (asking c.args.self.now.setting) (run_line c.args.plans.now) c.args.plans.now.shown behaviour c.deref-2.result.now
    c.args.report.now.rows c.deref-3.result.now c.args.again (string_bytes text) found rows blamed h)
    (c.json_told.ensures (count_line plan) numbered)
