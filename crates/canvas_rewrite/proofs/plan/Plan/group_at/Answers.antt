use Rattle.std.proofs.Common.{ap, arith}
use Rattle.canvas_semantics.specs.Line.{line_groups}
use Rattle.canvas_rewrite.proofs.plan.Plan.group_at.Goals as goal

pub overflow_add-place : goal.overflow_add-place
overflow_add-place c = omega (arith, c.requires, c.self.invariant.groups_counted, ap line_groups c.self.view_is)
