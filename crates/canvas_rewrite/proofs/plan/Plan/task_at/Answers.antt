use Rattle.std.proofs.Common.{ap, arith}
use Rattle.canvas_semantics.specs.Line.{count_line}
use Rattle.canvas_rewrite.proofs.plan.Plan.task_at.Goals as goal

pub overflow_add-place : goal.overflow_add-place
overflow_add-place c = omega (arith, c.requires, c.self.invariant.counted, ap count_line c.self.view_is)
