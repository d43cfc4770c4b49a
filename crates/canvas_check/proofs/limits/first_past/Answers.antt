use Rattle.std.proofs.Common.{◌∙◌, sym, map, arith}
use Rattle.std.specs.Vec.Iter.{into_iter_items}
use Rattle.canvas_check.specs.Places.{shown}
use Rattle.canvas_check.proofs.Searched.{past_task, within_task, past_group, within_group, counts_not, past_first}
use Rattle.canvas_check.proofs.limits.first_past.Goals as goal
use Rattle.canvas_check.proofs.limits.first_past.Goals.{then-is_task+else-tasks-eq0, else-is_task+then-is_counted_group+else-groups-eq0, else-is_task+else-is_counted_group}

pub returns-then-tasks-eq0 : goal.returns-then-tasks-eq0
returns-then-tasks-eq0 c =
    let rest = into_iter_items c.next.new.self in
    let t = c.loop-place.tasks in
    let g = c.loop-place.groups in
    let is_it = sym c.is_task.ensures ∙ c.if-is_task.true in
    let here = past_task (shown c.in-Some.place) (map shown rest) t g is_it c.if-tasks-eq0.true in
    sym (past_first _ _ t g c.loop-place.invariant rest c.in-Some.place _ c.in-Some.ensures.steps.0 here)

pub overflow_sub-tasks : goal.overflow_sub-tasks
overflow_sub-tasks c = omega (arith, c.if-tasks-eq0.false)

pub returns-then-groups-eq0 : goal.returns-then-groups-eq0
returns-then-groups-eq0 c =
    let rest = into_iter_items c.next.new.self in
    let t = c.loop-place.tasks in
    let g = c.loop-place.groups in
    let is_not = sym c.is_task.ensures ∙ c.if-is_task.false in
    let is_it = sym c.is_counted_group.ensures ∙ c.if-is_counted_group.true in
    let here = past_group (shown c.in-Some.place) (map shown rest) t g is_not is_it c.if-groups-eq0.true in
    sym (past_first _ _ t g c.loop-place.invariant rest c.in-Some.place _ c.in-Some.ensures.steps.0 here)

pub overflow_sub-groups : goal.overflow_sub-groups
overflow_sub-groups c = omega (arith, c.if-groups-eq0.false)

pub loop-place-preserved : goal.loop-place-preserved
loop-place-preserved c =
    let s = shown c.in-Some.place in
    let rest = into_iter_items c.next.new.self in
    let t = c.loop-place.tasks in
    let g = c.loop-place.groups in
    past_first _ _ t g c.loop-place.invariant rest c.in-Some.place _ c.in-Some.ensures.steps.0 (
    elim c.if-is_task.branch [
      | then-is_task+else-tasks-eq0 w ↦
          let is_it = sym c.is_task.ensures ∙ w.if-is_task.true in
          rw (w.tasks-is, w.groups-is) (within_task s (map shown rest) t g is_it w.if-tasks-eq0.false)
      | else-is_task+then-is_counted_group+else-groups-eq0 w ↦
          let is_not = sym c.is_task.ensures ∙ w.if-is_task.false in
          let is_it = sym w.is_counted_group.ensures ∙ w.if-is_counted_group.true in
          rw (w.tasks-is, w.groups-is) (within_group s (map shown rest) t g is_not is_it w.if-groups-eq0.false)
      | else-is_task+else-is_counted_group w ↦
          let is_not = sym c.is_task.ensures ∙ w.if-is_task.false in
          let nor_it = sym w.is_counted_group.ensures ∙ w.if-is_counted_group.false in
          rw (w.tasks-is, w.groups-is) (counts_not s (map shown rest) t g is_not nor_it)
    ])
