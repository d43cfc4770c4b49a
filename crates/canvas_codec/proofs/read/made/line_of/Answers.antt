use Rattle.std.proofs.Common.{◌∙◌, sym, ap, map, rules}
use Rattle.canvas_rewrite.specs.FrozenView.{p_steps, p_task_view}
use Rattle.canvas_codec.specs.steps.Elements.{element_view}
use Rattle.canvas_codec.proofs.Made.{pushed_line}
use Rattle.canvas_codec.proofs.read.made.line_of.Goals as goal

pub returns-in_ok-push-in-Task : goal.returns-in_ok-push-in-Task
returns-in_ok-push-in-Task c = pushed_line c.args.tasks.items c.of.result c.in-Task.task (search rules)
    ∙ ap (λ x. p_steps (map p_task_view c.args.tasks.items) (element_view x)) (sym c.in-Task.is)
