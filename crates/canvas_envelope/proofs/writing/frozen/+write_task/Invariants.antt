use Rattle.std.proofs.Common.{◌≡◌, ◌++◌, map, drop}
use Rattle.canvas_rewrite.specs.FrozenView.{p_tasks_of, p_lines_of, p_task_view, p_line_view}
use Rattle.canvas_values.specs.steps.Tokens.{rest_tokens, member_tokens}
use Rattle.canvas_envelope.specs.steps.Tokens.{each_tokens, chain_before}
use Rattle.canvas_envelope.specs.Wire.{tasks_wire, members_wire}
use Rattle.canvas_envelope.proofs.writing.frozen.+write_task.Given as goal

abbrev pub invariant-write_tasks-loop-task : goal.invariant-write_tasks-loop-task
invariant-write_tasks-loop-task l =
    (l.out.tokens ++ rest_tokens (tasks_wire (p_tasks_of (map p_task_view (drop l.task-index l.tasks)))) ≡ l.fn.out.tokens
    ++ rest_tokens (tasks_wire (p_tasks_of (map p_task_view l.tasks)))) × (l.out.before ≡ l.fn.out.before)

abbrev pub invariant-write_chain_before-loop-task : goal.invariant-write_chain_before-loop-task
invariant-write_chain_before-loop-task l =
    (l.out.tokens ++ each_tokens (map p_task_view (drop l.task-index l.tasks)) ≡ l.fn.out.tokens ++ chain_before l.fn.size (map p_task_view l.tasks))
    × (l.out.before ≡ l.fn.out.before)

abbrev pub invariant-write_rest-loop-line : goal.invariant-write_rest-loop-line
invariant-write_rest-loop-line l =
    (l.out.tokens ++ rest_tokens (members_wire (p_lines_of (map p_line_view (drop l.line-index l.lines)))) ≡ l.fn.out.tokens
    ++ member_tokens l.name (members_wire (p_lines_of (map p_line_view l.lines)))) × (l.out.before ≡ l.fn.out.before)
