use Rattle.std.proofs.Common.{◌∙◌, ap, arith}
use Rattle.canvas_semantics.specs.Nesting.{task_nesting}
use Rattle.canvas_values.proofs.Views.{task_seen}
use Rattle.canvas_values.proofs.NestingLemmas.{both, first_fails, of_sigs}
use Rattle.canvas_values.proofs.nesting.+task_nests.Goals as goal

pub task_nests_within-returns-then-tasks_nest_within : goal.task_nests_within-returns-then-tasks_nest_within
task_nests_within-returns-then-tasks_nest_within t c =
    both _ _ _ _ _ _ (ap task_nesting (task_seen c.args.sig.now)) (omega arith) c.if-tasks_nest_within.true
    (of_sigs _ _ _ _ (c.deref.ensures.value ∙ c.get.ensures) c.tasks_nest_within.ensures)
    (of_sigs _ _ _ _ (c.deref-then-tasks_nest_within.ensures.value ∙ c.get-then-tasks_nest_within.ensures) c.tasks_nest_within-then-tasks_nest_within.ensures)

pub task_nests_within-returns-else-tasks_nest_within : goal.task_nests_within-returns-else-tasks_nest_within
task_nests_within-returns-else-tasks_nest_within t c =
    first_fails _ _ _ _ _ (ap task_nesting (task_seen c.args.sig.now)) (omega arith) c.if-tasks_nest_within.false
    (of_sigs _ _ _ _ (c.deref.ensures.value ∙ c.get.ensures) c.tasks_nest_within.ensures)
