use Rattle.std.proofs.Common.{◌∙◌, ◌++◌, ap, map}
use Rattle.canvas_rewrite.specs.FrozenView.{line_in}
use Rattle.canvas_semantics.specs.PlacedLine.{strip}
use Rattle.canvas_semantics.proofs.Numbered.{strip_bare}
use Rattle.canvas_check.specs.declared.position.Input.TheVariants.{Nothing}
use Rattle.canvas_answer.specs.Blamed.{blame_said, is_bad_call, line_blames}
use Rattle.canvas_answer.proofs.blamed.blamed_in_run.Goals as goal

pub returns : goal.returns
returns c =
    let is_bad = is_bad_call c.args.fates.now c.args.report.now.rows in
    c.in_ok-push_line.ensures
    ∙ ap (λ bs. map blame_said bs ++ line_blames c.args.stubs.now is_bad (line_in c.line.result.now) Nothing) c.new-found.ensures.items
    ∙ ap (λ l. line_blames c.args.stubs.now is_bad l Nothing) (ap strip c.line.ensures.value ∙ strip_bare c.args.plan.now)
