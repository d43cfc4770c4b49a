use Rattle.std.proofs.Common.{◌+◌, subst}
use Rattle.canvas_semantics.specs.FileOrder.{LineIn}
use Rattle.canvas_semantics.specs.Line.{count_line, members}
use Rattle.canvas_rewrite.proofs.InOrder.{plan_in_order}
use Rattle.canvas_rewrite.proofs.plan.Plan.line.Goals as goal

pub returns-clause-in_order : goal.returns-clause-in_order
returns-clause-in_order c =
    subst (λ l. LineIn (λ g. members l g) l 1 (1 + count_line l)) c.self.view_is (plan_in_order _ c.self.invariant.planned)
