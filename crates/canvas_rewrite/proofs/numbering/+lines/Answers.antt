use Rattle.std.proofs.Common.{◌≡◌, ◌∙◌, ◌+◌, arith, map, ap, sym, subst}
use Rattle.canvas_values.specs.SignatureView.{task_view, tasks_of}
use Rattle.canvas_semantics.specs.Line.{count_line, line_groups}
use Rattle.canvas_rewrite.specs.FrozenView.{line_of, end_of, lines_of, p_task_view, p_line_view}
use Rattle.canvas_rewrite.specs.Utf8.{AreUtf8Tasks, IsUtf8Line, AreUtf8Lines}
use Rattle.canvas_semantics.specs.steps.Numbering.{tasks_in, lines_count, lines_group_count}
use Rattle.canvas_rewrite.specs.declared.line.Line as line
use Rattle.canvas_rewrite.specs.declared.line.Line.{out-Line}
use Rattle.canvas_rewrite.specs.declared.line.LineEnd.{LineEnd, out-LineEnd}
use Rattle.canvas_rewrite.proofs.FrozenLines.{count_none, groups_none, count_some, groups_some, tasks_fit, end_count_none, end_groups_none, end_count_some, end_groups_some, members_fit, groups_fit}
use Rattle.canvas_rewrite.proofs.FrozenMade.{line_made, longer_made, group_made, chord_made}
use Rattle.canvas_rewrite.proofs.Utf8Lines.{line_read, longer_read, group_read, chord_read}
use Rattle.canvas_rewrite.proofs.numbering.+lines.Goals as goal

-- ---- an end

pub freeze_end-freeze_lines-requires : goal.freeze_end-freeze_lines-requires
freeze_end-freeze_lines-requires t c =
    let e : LineEnd = c.args.end in
    let ms = c.into_plain.ensures in
    let tasks : lines_count (map line_of c.into_plain.result.items) ≡ lines_count (map line_of (out-LineEnd e).members) =
    ap (λ ls. lines_count (map line_of ls)) ms in
    let groups : lines_group_count (map line_of c.into_plain.result.items) ≡ lines_group_count (map line_of (out-LineEnd e).members) =
    ap (λ ls. lines_group_count (map line_of ls)) ms in (
      omega (arith, groups, groups_fit e),
      (c.requires.0, omega arith, omega (arith, tasks, members_fit e, c.requires.2), omega (arith, groups, groups_fit e, c.requires.3)),
    )

pub freeze_end-freeze_line-requires : goal.freeze_end-freeze_line-requires
freeze_end-freeze_line-requires t c =
    let e : LineEnd = c.args.end in
    let ms = c.into_plain.ensures in
    let tasks : lines_count (map line_of c.into_plain.result.items) ≡ lines_count (map line_of (out-LineEnd e).members) =
    ap (λ ls. lines_count (map line_of ls)) ms in
    let groups : lines_group_count (map line_of c.into_plain.result.items) ≡ lines_group_count (map line_of (out-LineEnd e).members) =
    ap (λ ls. lines_group_count (map line_of ls)) ms in
    let counted = end_count_some e c.in-Some.body c.in-Some.is in
    let groups_counted = end_groups_some e c.in-Some.body c.in-Some.is in (
      omega (arith, groups_counted),
      (
        omega (arith, c.in_ok-freeze_lines.ensures.task, c.requires.0),
        omega (arith, c.in_ok-freeze_lines.ensures.group),
        omega (arith, tasks, counted, c.in_ok-freeze_lines.ensures.task, c.requires.2),
        omega (arith, groups, groups_counted, c.in_ok-freeze_lines.ensures.group, c.requires.3),
      ),
    )

pub freeze_end-returns-in-None-clause-value : goal.freeze_end-returns-in-None-clause-value
freeze_end-returns-in-None-clause-value t c =
    group_made c.args.end c.in-None.is _ _ _ _ _ c.group_no-number.ensures (ap (map p_line_view) c.of-members.ensures ∙ c.in_ok-freeze_lines.ensures.value)
    c.into_plain.ensures

pub freeze_end-returns-in-None-clause-task : goal.freeze_end-returns-in-None-clause-task
freeze_end-returns-in-None-clause-task t c =
    c.in_ok-freeze_lines.ensures.task ∙ ap (λ ls. c.args.task.now + lines_count (map line_of ls)) c.into_plain.ensures
    ∙ ap (λ n. c.args.task.now + n) (sym (end_count_none c.args.end c.in-None.is))

pub freeze_end-returns-in-None-clause-group : goal.freeze_end-returns-in-None-clause-group
freeze_end-returns-in-None-clause-group t c =
    let e : LineEnd = c.args.end in
    let groups : lines_group_count (map line_of c.into_plain.result.items) ≡ lines_group_count (map line_of (out-LineEnd e).members) =
    ap (λ ls. lines_group_count (map line_of ls)) c.into_plain.ensures in
    omega (arith, c.in_ok-freeze_lines.ensures.group, groups, end_groups_none e c.in-None.is)

pub freeze_end-returns-in_ok-body-in-Some-clause-value : goal.freeze_end-returns-in_ok-body-in-Some-clause-value
freeze_end-returns-in_ok-body-in-Some-clause-value t c =
    chord_made c.args.end c.in-Some.body c.in-Some.is _ _ _ _ _ _ _ _ c.group_no-number.ensures (ap (map p_line_view) c.of-members.ensures
    ∙ c.in_ok-freeze_lines.ensures.value) c.into_plain.ensures
    c.in_ok-freeze_lines.ensures.task c.in_ok-freeze_lines.ensures.group c.in_ok-body-in-Some.ensures.value

pub freeze_end-returns-in_ok-body-in-Some-clause-task : goal.freeze_end-returns-in_ok-body-in-Some-clause-task
freeze_end-returns-in_ok-body-in-Some-clause-task t c =
    let e : LineEnd = c.args.end in
    let tasks : lines_count (map line_of c.into_plain.result.items) ≡ lines_count (map line_of (out-LineEnd e).members) =
    ap (λ ls. lines_count (map line_of ls)) c.into_plain.ensures in
    omega (arith, c.in_ok-freeze_lines.ensures.task, c.in_ok-body-in-Some.ensures.task, tasks, end_count_some e c.in-Some.body c.in-Some.is)

pub freeze_end-returns-in_ok-body-in-Some-clause-group : goal.freeze_end-returns-in_ok-body-in-Some-clause-group
freeze_end-returns-in_ok-body-in-Some-clause-group t c =
    let e : LineEnd = c.args.end in
    let groups : lines_group_count (map line_of c.into_plain.result.items) ≡ lines_group_count (map line_of (out-LineEnd e).members) =
    ap (λ ls. lines_group_count (map line_of ls)) c.into_plain.ensures in
    omega (arith, c.in_ok-freeze_lines.ensures.group, c.in_ok-body-in-Some.ensures.group, groups, end_groups_some e c.in-Some.body c.in-Some.is)

-- ---- a line

pub freeze_line-freeze_tasks-requires-clause-few : goal.freeze_line-freeze_tasks-requires-clause-few
freeze_line-freeze_tasks-requires-clause-few t c =
    let l : line.Line = c.args.line in
    let tasks : tasks_in (map task_view c.into_plain.result.items) ≡ tasks_in (map task_view (out-Line l).tasks) =
    ap (λ ss. tasks_in (map task_view ss)) c.into_plain.ensures in
    omega (arith, tasks, tasks_fit l, c.requires.2)

pub freeze_line-freeze_end-requires : goal.freeze_line-freeze_end-requires
freeze_line-freeze_end-requires t c =
    let l : line.Line = c.args.line in
    let tasks : tasks_in (map task_view c.into_plain.result.items) ≡ tasks_in (map task_view (out-Line l).tasks) =
    ap (λ ss. tasks_in (map task_view ss)) c.into_plain.ensures in
    let counts : count_line (end_of c.into_inner.result) ≡ count_line (end_of c.in-Some.end.value) =
    ap (λ e. count_line (end_of e)) c.into_inner.ensures in
    let groups : line_groups (end_of c.into_inner.result) ≡ line_groups (end_of c.in-Some.end.value) =
    ap (λ e. line_groups (end_of e)) c.into_inner.ensures in
    let counted = count_some l c.in-Some.end c.in-Some.is in
    let groups_counted = groups_some l c.in-Some.end c.in-Some.is in (
      omega (arith, groups, groups_counted),
      (
        omega (arith, c.in_ok-freeze_tasks.ensures.next, c.requires.0),
        c.requires.1,
        omega (arith, tasks, counts, counted, c.in_ok-freeze_tasks.ensures.next, c.requires.2),
        omega (arith, groups, groups_counted, c.requires.3),
      ),
    )

pub freeze_line-returns-in-None-clause-value : goal.freeze_line-returns-in-None-clause-value
freeze_line-returns-in-None-clause-value t c =
    line_made c.args.line c.in-None.is _ _ _ _ (ap (map p_task_view) c.of-tasks.ensures ∙ c.in_ok-freeze_tasks.ensures.value)
    c.into_plain.ensures

pub freeze_line-returns-in-None-clause-task : goal.freeze_line-returns-in-None-clause-task
freeze_line-returns-in-None-clause-task t c =
    c.in_ok-freeze_tasks.ensures.next ∙ ap (λ ss. c.args.task.now + tasks_in (map task_view ss)) c.into_plain.ensures
    ∙ ap (λ n. c.args.task.now + n) (sym (count_none c.args.line c.in-None.is))

pub freeze_line-returns-in-None-clause-group : goal.freeze_line-returns-in-None-clause-group
freeze_line-returns-in-None-clause-group t c = omega (arith, groups_none c.args.line c.in-None.is)

pub freeze_line-returns-in_ok-tail-in-Some-clause-value : goal.freeze_line-returns-in_ok-tail-in-Some-clause-value
freeze_line-returns-in_ok-tail-in-Some-clause-value t c =
    longer_made c.args.line c.in-Some.end c.in-Some.is _ _ _ _ _ _ _ _ (ap (map p_task_view) c.of-tasks.ensures ∙ c.in_ok-freeze_tasks.ensures.value)
    c.into_plain.ensures
    c.in_ok-freeze_tasks.ensures.next c.into_inner.ensures c.in_ok-end-in-Some.ensures.value c.in_ok-tail-in-Some.ensures.ok

pub freeze_line-returns-in_ok-tail-in-Some-clause-task : goal.freeze_line-returns-in_ok-tail-in-Some-clause-task
freeze_line-returns-in_ok-tail-in-Some-clause-task t c =
    let l : line.Line = c.args.line in
    let tasks : tasks_in (map task_view c.into_plain.result.items) ≡ tasks_in (map task_view (out-Line l).tasks) =
    ap (λ ss. tasks_in (map task_view ss)) c.into_plain.ensures in
    let counts : count_line (end_of c.into_inner.result) ≡ count_line (end_of c.in-Some.end.value) =
    ap (λ e. count_line (end_of e)) c.into_inner.ensures in
    omega (arith, tasks, counts, count_some l c.in-Some.end c.in-Some.is, c.in_ok-freeze_tasks.ensures.next, c.in_ok-end-in-Some.ensures.task)

pub freeze_line-returns-in_ok-tail-in-Some-clause-group : goal.freeze_line-returns-in_ok-tail-in-Some-clause-group
freeze_line-returns-in_ok-tail-in-Some-clause-group t c =
    let l : line.Line = c.args.line in
    let groups : line_groups (end_of c.into_inner.result) ≡ line_groups (end_of c.in-Some.end.value) =
    ap (λ e. line_groups (end_of e)) c.into_inner.ensures in
    omega (arith, groups, groups_some l c.in-Some.end c.in-Some.is, c.in_ok-end-in-Some.ensures.group)

-- ---- texts

pub freeze_end-returns-in-None-clause-utf8 : goal.freeze_end-returns-in-None-clause-utf8
freeze_end-returns-in-None-clause-utf8 t c =
    group_read c.args.end c.in-None.is
    (subst (λ ls. AreUtf8Lines (lines_of (map line_of ls))) c.into_plain.ensures
    c.in_ok-freeze_lines.ensures.utf8)

pub freeze_end-returns-in_ok-body-in-Some-clause-utf8 : goal.freeze_end-returns-in_ok-body-in-Some-clause-utf8
freeze_end-returns-in_ok-body-in-Some-clause-utf8 t c =
    chord_read c.args.end c.in-Some.body c.in-Some.is
    (subst (λ ls. AreUtf8Lines (lines_of (map line_of ls))) c.into_plain.ensures
    c.in_ok-freeze_lines.ensures.utf8)
    c.in_ok-body-in-Some.ensures.utf8

pub freeze_line-returns-in-None-clause-utf8 : goal.freeze_line-returns-in-None-clause-utf8
freeze_line-returns-in-None-clause-utf8 t c =
    line_read c.args.line c.in-None.is
    (subst (λ ss. AreUtf8Tasks (tasks_of (map task_view ss))) c.into_plain.ensures
    c.in_ok-freeze_tasks.ensures.utf8)

pub freeze_line-returns-in_ok-tail-in-Some-clause-utf8 : goal.freeze_line-returns-in_ok-tail-in-Some-clause-utf8
freeze_line-returns-in_ok-tail-in-Some-clause-utf8 t c =
    longer_read c.args.line c.in-Some.end c.in-Some.is
    (subst (λ ss. AreUtf8Tasks (tasks_of (map task_view ss))) c.into_plain.ensures
    c.in_ok-freeze_tasks.ensures.utf8)
    (subst (λ e. IsUtf8Line (end_of e)) c.into_inner.ensures c.in_ok-end-in-Some.ensures.utf8)
