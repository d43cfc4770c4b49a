use Rattle.std.proofs.Common.{◌∙◌, ◌++◌, ◌∷◌, [], ap, map, string_bytes}
use Rattle.std.specs.Prelude.{option_map}
use Rattle.canvas_semantics.specs.Line.{no_of}
use Rattle.canvas_rewrite.specs.FrozenView.{task_in}
use Rattle.canvas_report.specs.Nodes.{looks, node}
use Rattle.canvas_report.specs.steps.PieceLists.{tasks_pieces}
use Rattle.canvas_report.proofs.NodeParts.{nothing, after, after_ok, alike, task_is, rest_tasks, none_left}
use Rattle.canvas_report.proofs.graph.nodes.+tasks.Goals as goal

pub push_task-returns : goal.push_task-returns
push_task-returns t c =
    let at = looks c.args.seen.now.fates.now (option_map (λ rows. rows.now) c.args.seen.now.rows) in
    let links = ap (λ ts. tasks_pieces (map task_in ts)) (c.deref.ensures.value ∙ c.get.ensures) in
    let errbacks = ap (λ ts. tasks_pieces (map task_in ts)) (c.deref-2.ensures.value ∙ c.get-2.ensures) in
    let own = node (no_of (task_in c.args.task.now)) ∷ [] in
    after_ok _ at (own ++ tasks_pieces (map task_in c.deref.result.now)) (tasks_pieces (map task_in c.deref-2.result.now)) _ _ _ _
    ((λ i. own ++ links i ++ errbacks i) ∙ task_is c.args.task.now)
    (after at own (tasks_pieces (map task_in c.deref.result.now)) _ _ _ c.in_ok-push_node.ensures c.in_ok-push_tasks.ensures)
    c.push_tasks-2.ensures

pub push_tasks-loop-task-init : goal.push_tasks-loop-task-init
push_tasks-loop-task-init t c = λ new h. h

pub push_tasks-loop-task-preserved : goal.push_tasks-loop-task-preserved
push_tasks-loop-task-preserved t c = λ new h.
    let at = looks c.args.seen.now.fates.now (option_map (λ rows. rows.now) c.args.seen.now.rows) in
    c.loop-task.invariant new
    (alike at _ _ _ _ (rest_tasks c.args.tasks.now c.loop-task.task-index c.task-item.result c.loop-task-test.true c.task-item.is)
    (after at _ _ _ _ _ c.in_ok-push_task.ensures h))

pub push_tasks-returns : goal.push_tasks-returns
push_tasks-returns t c =
    let at = looks c.args.seen.now.fates.now (option_map (λ rows. rows.now) c.args.seen.now.rows) in
    c.loop-task.invariant (string_bytes c.loop-task.text)
    (alike at _ _ _ _ (none_left c.args.tasks.now c.loop-task.task-index c.loop-task-test.false) (nothing at (string_bytes c.loop-task.text)))
