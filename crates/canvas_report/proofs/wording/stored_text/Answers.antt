use Rattle.std.proofs.Common.{◌≡◌, ◌∙◌, List, [], ℕ, IfOk, ap, subst, string_bytes}
use Rattle.canvas_semantics.specs.Line.{tree_of}
use Rattle.canvas_report.specs.Wording.{report_said}
use Rattle.canvas_report.proofs.ReportLines.{run_said}
use Rattle.canvas_report.specs.declared.wording.Naming.TheVariants.{Identifier}
use Rattle.canvas_report.proofs.wording.stored_text.Goals as goal

pub returns-clause-of_run : goal.returns-clause-of_run
returns-clause-of_run c ss same =
    let P : List ℕ → Type 0 = λ x. IfOk c.worded.result (λ text. string_bytes text ≡ x) in
    subst P (ap (λ rs. report_said Identifier [] rs (tree_of c.args.plan.now)) same ∙ run_said ss (tree_of c.args.plan.now)) c.worded.ensures
