use Rattle.std.proofs.Common.{◌≡◌, subst}
use Rattle.canvas_semantics.specs.Line.{names, tree_of}
use Rattle.canvas_semantics.specs.Report.{names_by_number as named_tasks, counted_from}
use Rattle.canvas_rewrite.proofs.NamesInOrder.{plan_names}
use Rattle.canvas_rewrite.proofs.plan.Plan.name.Goals as goal

pub returns-clause-in_order : goal.returns-clause-in_order
returns-clause-in_order c =
    subst (λ l. named_tasks (tree_of l) ≡ counted_from 1 (names l)) c.self.view_is (plan_names _ c.self.invariant.planned)
