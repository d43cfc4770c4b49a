use Rattle.std.proofs.Common.{◌∙◌, ap, map, subst, sym}
use Rattle.canvas_rewrite.specs.FrozenView.{line_in}
use Rattle.canvas_semantics.specs.Line.{members}
use Rattle.canvas_semantics.specs.PlacedLine.{strip}
use Rattle.canvas_semantics.specs.States.{rows_from}
use Rattle.canvas_semantics.proofs.Numbered.{strip_bare}
use Rattle.canvas_history.specs.Lists.{Each}
use Rattle.canvas_ran.specs.Seen.{IsIdleIfPending}
use Rattle.canvas_ran.proofs.SeenRows.{plan_told, line_idle}
use Rattle.canvas_ran.specs.declared.came.Came.TheVariants.{Value}
use Rattle.canvas_ran.proofs.RanLaw.{plan_right}
use Rattle.canvas_ran.proofs.Walks.{at_plan}
use Rattle.canvas_ran.proofs.reading.fates.Goals as goal

pub returns-clause-from_rows : goal.returns-clause-from_rows
returns-clause-from_rows c =
    at_plan c.args.plan.now
    (line_in c.line.result.now) _ _ _ _ Value c.new-found.ensures.items c.in_ok-push_line.ensures
    (c.deref.ensures.value ∙ c.get.ensures) (ap strip c.line.ensures.value ∙ strip_bare c.args.plan.now)

pub returns-clause-evaluated : goal.returns-clause-evaluated
returns-clause-evaluated c behaviour e =
    returns-clause-from_rows c
    ∙ plan_right behaviour c.args.plan.now c.args.report.now.rows c.line.ensures.planned c.line.ensures.in_order e

pub returns-clause-numbered : goal.returns-clause-numbered
returns-clause-numbered c =
    ap (λ fs. map (λ f. f.0) fs) (returns-clause-from_rows c)
    ∙ plan_told (rows_from 1 c.args.report.now.rows)
    (members c.args.plan.now) c.args.plan.now Value c.line.ensures.planned

pub returns-clause-pending : goal.returns-clause-pending
returns-clause-pending c =
    subst (λ fs. Each (IsIdleIfPending (rows_from 1 c.args.report.now.rows)) fs) (sym (returns-clause-from_rows c))
    (line_idle (rows_from 1 c.args.report.now.rows) (members c.args.plan.now) c.args.plan.now Value)
