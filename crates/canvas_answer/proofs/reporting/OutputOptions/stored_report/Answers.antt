use Rattle.std.proofs.Common.{◌∙◌, map, ap, subst, string_bytes}
use Rattle.std.proofs.lemmas.Result.{IfOk-weaker}
use Rattle.canvas_semantics.specs.Line.{count_line}
use Rattle.canvas_answer.specs.Asking.{asking}
use Rattle.canvas_answer.specs.OnCelery.{IsStoredText}
use Rattle.canvas_answer.specs.Plans.{run_line}
use Rattle.canvas_answer.proofs.ToldRows.{stored_told}
use Rattle.canvas_answer.proofs.reporting.OutputOptions.stored_report.Goals as goal

pub returns : goal.returns
returns g c =
    let shows = c.in_ok-rows.ensures.shown (count_line c.run.result.now) (ap (map (λ f. f.0)) c.deref.ensures.value ∙ c.in_ok-fates.ensures.numbered) in
    IfOk-weaker c.text_of_rows.result _ _
    (λ text h. stored_told (asking c.args.source.now.setting) (run_line c.args.plans.now) c.args.plans.now.shown c.run.result.now c.args.self.now.form
    c.deref.result.now c.args.report.now.rows c.in_ok-rows.rows.items (string_bytes text)
    (c.deref.ensures.value ∙ c.in_ok-fates.ensures.from_rows) c.run.ensures shows
    (subst (λ xs. IsStoredText c.args.self.now.form c.args.plans.now.shown xs (string_bytes text)) c.deref-2.ensures.value h))
    c.text_of_rows.ensures
