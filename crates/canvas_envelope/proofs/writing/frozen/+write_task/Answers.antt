use Rattle.std.proofs.Common.{◌∙◌, [], ◌∷◌, ◌++◌, List, map, codes, Some, None, append-nil, sym, ap, refl}
use Rattle.std.proofs.lemmas.Result.{IfOk-from_err}
use Rattle.json.specs.Token.{Token, begin_array, end_object, key}
use Rattle.serde_json.specs.Data.{string}
use Rattle.canvas_task.proofs.Turns.{put_part, put_on, put_end}
use Rattle.canvas_values.specs.steps.Tokens.{data_tokens, rest_tokens, member_tokens}
use Rattle.canvas_rewrite.specs.FrozenView.{p_tasks_of, p_lines_of, p_task_view, p_line_view}
use Rattle.canvas_rewrite.specs.declared.frozen.Carried.{out-Carried}
use Rattle.canvas_rewrite.specs.declared.frozen.FrozenLine.{FrozenLine}
use Rattle.canvas_envelope.specs.steps.Tokens.{named_tokens, each_tokens, opening_tokens}
use Rattle.canvas_envelope.specs.Wire.{task_wire, tasks_wire, line_wire, members_wire}
use Rattle.canvas_values.proofs.Written.Writers.{Stands, after_ok, then_tokens}
use Rattle.canvas_envelope.proofs.Written.TaskTokens.{alike, no_place, no_chord, a_chord, behind_is, task_written, chord_written, group_written, rest_written, no_link, some_link, opened}
use Rattle.canvas_envelope.proofs.Written.LineTokens.{is_end, is_task, is_chain_to_end, is_chain}
use Rattle.canvas_envelope.proofs.writing.frozen.+write_task.Goals as goal

pub write_link-returns-then-is_empty : goal.write_link-returns-then-is_empty
write_link-returns-then-is_empty t c =
    let none = no_link c.args.name.now c.args.tasks.now (sym c.is_empty.ensures ∙ c.if-is_empty.true) in
    (sym (ap (λ ts. c.args.out.now.tokens ++ ts) none ∙ append-nil c.args.out.now.tokens), refl)

pub write_link-returns : goal.write_link-returns
write_link-returns t c =
    let opened = then_tokens c.args.out.now c.key.new.self c.begin_array.new.self (key c.args.name.now ∷ []) (begin_array ∷ [])
    (c.in_ok-key.ensures.ok, c.in_ok-key.ensures.room.0) (c.in_ok-begin_array.ensures.ok, c.in_ok-begin_array.ensures.room.0) in
    after_ok c.write_tasks.result c.args.out.now c.begin_array.new.self c.write_tasks.new.out _ _ _ opened c.write_tasks.ensures
    (sym (some_link c.args.name.now c.args.tasks.now (sym c.is_empty.ensures ∙ c.if-is_empty.false)))

pub write_task_behind-returns : goal.write_task_behind-returns
write_task_behind-returns t c =
    let out = c.args.out.now in
    let linked = then_tokens out c.write_group.new.out c.write_link.new.out _ _ c.in_ok-write_group.ensures c.in_ok-write_link.ensures in
    let both = then_tokens out c.write_link.new.out c.write_link-2.new.out _ _ linked c.in_ok-write_link-2.ensures in
    let named = then_tokens out c.write_link-2.new.out c.write_own_id.new.out _ _ both c.in_ok-write_own_id.ensures in
    after_ok c.write_end.result out c.write_own_id.new.out c.write_end.new.out _ _ _ named c.write_end.ensures
    (behind_is c.args.task.now _ _ _ (c.deref.ensures.value ∙ c.get.ensures) (c.deref-2.ensures.value ∙ c.get-2.ensures) (c.deref-3.ensures ∙ c.get-3.ensures))

pub write_task-returns : goal.write_task-returns
write_task-returns t c =
    let front = then_tokens c.args.out.now c.write_task_front.new.out c.write_chord.new.out _ _ c.in_ok-write_task_front.ensures c.in_ok-write_chord.ensures in
    after_ok c.write_task_behind.result c.args.out.now c.write_chord.new.out c.write_task_behind.new.out _ _ _ front c.write_task_behind.ensures
    (task_written c.args.size c.args.task.now)

pub write_tasks-loop-task-init : goal.write_tasks-loop-task-init
write_tasks-loop-task-init t c = (refl, refl)

pub write_tasks-loop-task-preserved : goal.write_tasks-loop-task-preserved
write_tasks-loop-task-preserved t c = (
  put_on (λ xs. rest_tokens (tasks_wire (p_tasks_of (map p_task_view xs)))) c.args.tasks.now c.loop-task.task-index c.task-item.result
      (data_tokens (task_wire None (p_task_view c.task-item.result))) _ _ _ c.loop-task-test.true c.task-item.is refl c.loop-task.invariant.0
      c.in_ok-write_task.ensures.0,
  c.in_ok-write_task.ensures.1 ∙ c.loop-task.invariant.1,
)

pub write_chain_before-loop-task-init : goal.write_chain_before-loop-task-init
write_chain_before-loop-task-init t c =
    let out = c.args.out.now in
    let each = each_tokens (map p_task_view c.args.tasks.now) in
    let named = then_tokens out c.write_opening.new.out c.key.new.self _ (key (codes "tasks") ∷ []) c.in_ok-write_opening.ensures
    (c.in_ok-key.ensures.ok, c.in_ok-key.ensures.room.0) in
    let begun = then_tokens out c.key.new.self c.begin_array.new.self _ (begin_array ∷ []) named
    (c.in_ok-begin_array.ensures.ok, c.in_ok-begin_array.ensures.room.0) in (
      put_part out.tokens _ c.begin_array.new.self.tokens _ each _ begun.0
          (sym (opened (opening_tokens c.args.size) (key (codes "tasks") ∷ []) (begin_array ∷ []) each)) refl,
      begun.1,
    )

pub write_chain_before-loop-task-preserved : goal.write_chain_before-loop-task-preserved
write_chain_before-loop-task-preserved t c = (
  put_on (λ xs. each_tokens (map p_task_view xs)) c.args.tasks.now c.loop-task.task-index c.task-item.result
      (data_tokens (task_wire None (p_task_view c.task-item.result))) _ _ _ c.loop-task-test.true c.task-item.is refl c.loop-task.invariant.0
      c.in_ok-write_task.ensures.0,
  c.in_ok-write_task.ensures.1 ∙ c.loop-task.invariant.1,
)

pub write_chain_before-returns : goal.write_chain_before-returns
write_chain_before-returns t c =
    let before = c.loop-task.out.tokens in (
      put_end (λ ts. each_tokens (map p_task_view ts)) c.args.tasks.now c.loop-task.task-index before before _ c.loop-task-test.false
          c.loop-task.invariant.0 (sym (append-nil before)),
      c.loop-task.invariant.1,
    )

pub write_rest-loop-line-init : goal.write_rest-loop-line-init
write_rest-loop-line-init t c =
    let out = c.args.out.now in
    let rest = rest_tokens (members_wire (p_lines_of (map p_line_view c.as_slice-lines.result.now))) in
    let begun = then_tokens out c.key.new.self c.begin_array.new.self (key c.args.name.now ∷ []) (begin_array ∷ [])
    (c.in_ok-key.ensures.ok, c.in_ok-key.ensures.room.0) (c.in_ok-begin_array.ensures.ok, c.in_ok-begin_array.ensures.room.0) in
    (put_part out.tokens _ c.begin_array.new.self.tokens _ rest _ begun.0 refl refl, begun.1)

pub write_rest-returns : goal.write_rest-returns
write_rest-returns t c =
    let out = c.args.out.now in
    let lines = c.as_slice-lines.result.now in
    let of_lines : List FrozenLine → List Token = λ ls. rest_tokens (members_wire (p_lines_of (map p_line_view ls))) in
    let members : Stands out c.end_array.new.self (member_tokens c.args.name.now (members_wire (p_lines_of (map p_line_view lines)))) = (
      put_end of_lines lines c.loop-line.line-index c.loop-line.out.tokens c.end_array.new.self.tokens _ c.loop-line-test.false
          c.loop-line.invariant.0 c.in_ok-end_array.ensures.ok,
      c.in_ok-end_array.ensures.room.0 ∙ c.loop-line.invariant.1,
    ) in
    let list = then_tokens out c.end_array.new.self c.end_object.new.self _ (end_object ∷ []) members
    (c.in_ok-end_object.ensures.ok, c.in_ok-end_object.ensures.room.0) in
    after_ok c.write_group_closing.result out c.end_object.new.self c.write_group_closing.new.out _ _ _ list c.write_group_closing.ensures
    (rest_written c.args.end.now lines c.args.name.now (string c.args.kind.now) c.args.type_name.now (c.as_slice-lines.ensures.value ∙ c.get.ensures))

pub write_chord-returns-in_ok-key-in-Some-chord : goal.write_chord-returns-in_ok-key-in-Some-chord
write_chord-returns-in_ok-key-in-Some-chord t c =
    let named = c.in_ok-key-in-Some-chord.ensures in
    after_ok c.write_line.result c.args.out.now c.key.new.self c.write_line.new.out (key (codes "chord") ∷ []) _ _ (named.ok, named.room.0) c.write_line.ensures
    (ap (λ l. named_tokens (codes "chord") (line_wire (Some (out-Carried c.in-Some-chord.carried).size) (p_line_view l))) c.deref.ensures
    ∙ a_chord c.args.place.now c.in-Some.place c.in-Some-chord.carried c.in-Some.is c.in-Some-chord.is)

pub write_chord-returns-in-None-chord : goal.write_chord-returns-in-None-chord
write_chord-returns-in-None-chord t c =
    let none = no_chord c.args.place.now c.in-Some.place c.in-Some.is c.in-None-chord.is in
    (sym (ap (λ ts. c.args.out.now.tokens ++ ts) none ∙ append-nil c.args.out.now.tokens), refl)

pub write_chord-returns-in-None : goal.write_chord-returns-in-None
write_chord-returns-in-None t c =
    (sym (ap (λ ts. c.args.out.now.tokens ++ ts) (no_place c.args.place.now c.in-None.is) ∙ append-nil c.args.out.now.tokens), refl)

pub write_line-returns-then-is_empty : goal.write_line-returns-then-is_empty
write_line-returns-then-is_empty t c =
    alike c.write_last.result c.args.out.now c.write_last.new.out _ _
    (ap data_tokens (is_end c.args.size c.args.line.now c.as_slice-tasks.result.now (c.as_slice-tasks.ensures.value ∙ c.get.ensures) c.in-Some.end
    c.deref.result.now c.in-Some.is c.deref.ensures (sym c.is_empty.ensures ∙ c.if-is_empty.true)))
    c.write_last.ensures

pub write_line-returns-then-tasks-eq1 : goal.write_line-returns-then-tasks-eq1
write_line-returns-then-tasks-eq1 t c =
    let tasks = c.as_slice-tasks.ensures.value ∙ c.get.ensures in
    alike c.write_task.result c.args.out.now c.write_task.new.out _ _
    (ap data_tokens (is_task c.args.size c.args.line.now c.as_slice-tasks.result.now tasks c.index-tasks-0.result c.in-None.is c.if-tasks-eq1.true
    c.index-tasks-0.is))
    c.write_task.ensures

pub write_line-returns-in_ok-write_last-in-Some : goal.write_line-returns-in_ok-write_last-in-Some
write_line-returns-in_ok-write_last-in-Some t c =
    let out = c.args.out.now in
    let front = then_tokens out c.write_chain_before.new.out c.write_last-in-Some.new.out _ _ c.in_ok-write_chain_before-in-Some.ensures
    c.in_ok-write_last-in-Some.ensures in
    after_ok c.write_chain_behind.result out c.write_last-in-Some.new.out c.write_chain_behind.new.out _ _ _ front c.write_chain_behind.ensures
    (is_chain_to_end c.args.size c.args.line.now c.as_slice-tasks.result.now (c.as_slice-tasks.ensures.value ∙ c.get.ensures) c.in-Some.end
    c.deref-in-Some.result.now c.in-Some.is c.deref-in-Some.ensures (sym c.is_empty.ensures ∙ c.if-is_empty.false))

pub write_line-returns-in_ok-write_chain_before-in-None : goal.write_line-returns-in_ok-write_chain_before-in-None
write_line-returns-in_ok-write_chain_before-in-None t c =
    after_ok c.write_chain_behind-in-None.result c.args.out.now c.write_chain_before-in-None.new.out c.write_chain_behind-in-None.new.out _ _ _
    c.in_ok-write_chain_before-in-None.ensures c.write_chain_behind-in-None.ensures
    (is_chain c.args.size c.args.line.now c.as_slice-tasks.result.now (c.as_slice-tasks.ensures.value ∙ c.get.ensures) c.in-None.is c.if-tasks-eq1.false)

pub write_last-returns-in_ok-write_line-in-Some : goal.write_last-returns-in_ok-write_line-in-Some
write_last-returns-in_ok-write_line-in-Some t c =
    let out = c.args.out.now in
    let named = then_tokens out c.write_opening.new.out c.key.new.self _ (key (codes "body") ∷ []) c.in_ok-write_opening.ensures
    (c.in_ok-key-in-Some.ensures.ok, c.in_ok-key-in-Some.ensures.room.0) in
    let body = then_tokens out c.key.new.self c.write_line.new.out _ _ named c.in_ok-write_line-in-Some.ensures in
    after_ok c.write_rest.result out c.write_line.new.out c.write_rest.new.out _ _ _ body c.write_rest.ensures
    (chord_written c.args.size c.args.end.now c.in-Some.body c.in-Some.is)

pub write_last-returns-in-None : goal.write_last-returns-in-None
write_last-returns-in-None t c =
    after_ok c.write_rest-in-None.result c.args.out.now c.write_opening.new.out c.write_rest-in-None.new.out _ _ _ c.in_ok-write_opening.ensures
    c.write_rest-in-None.ensures (group_written c.args.size c.args.end.now c.in-None.is)

pub write_chain_before-returns-in_err-write_opening : goal.write_chain_before-returns-in_err-write_opening
write_chain_before-returns-in_err-write_opening t c = IfOk-from_err c.from_residual.result _ c.from_residual.ensures.0

pub write_chain_before-returns-in_err-key : goal.write_chain_before-returns-in_err-key
write_chain_before-returns-in_err-key t c =
    IfOk-from_err c.from_residual-in_err-key.result _ c.from_residual-in_err-key.ensures.0

pub write_chain_before-returns-in_err-begin_array : goal.write_chain_before-returns-in_err-begin_array
write_chain_before-returns-in_err-begin_array t c =
    IfOk-from_err c.from_residual-in_err-begin_array.result _ c.from_residual-in_err-begin_array.ensures.0

pub write_chain_before-returns-in_err-write_task : goal.write_chain_before-returns-in_err-write_task
write_chain_before-returns-in_err-write_task t c =
    IfOk-from_err c.from_residual-in_err-write_task.result _ c.from_residual-in_err-write_task.ensures.0

pub write_chord-returns-in_err-key-in-Some-chord : goal.write_chord-returns-in_err-key-in-Some-chord
write_chord-returns-in_err-key-in-Some-chord t c = IfOk-from_err c.from_residual.result _ c.from_residual.ensures.0

pub write_last-returns-in_err-write_opening : goal.write_last-returns-in_err-write_opening
write_last-returns-in_err-write_opening t c = IfOk-from_err c.from_residual.result _ c.from_residual.ensures.0

pub write_last-returns-in_err-key-in-Some : goal.write_last-returns-in_err-key-in-Some
write_last-returns-in_err-key-in-Some t c =
    IfOk-from_err c.from_residual-in_err-key-in-Some.result _ c.from_residual-in_err-key-in-Some.ensures.0

pub write_last-returns-in_err-write_line-in-Some : goal.write_last-returns-in_err-write_line-in-Some
write_last-returns-in_err-write_line-in-Some t c =
    IfOk-from_err c.from_residual-in_err-write_line-in-Some.result _ c.from_residual-in_err-write_line-in-Some.ensures.0

pub write_line-returns-in_err-write_chain_before-in-Some : goal.write_line-returns-in_err-write_chain_before-in-Some
write_line-returns-in_err-write_chain_before-in-Some t c =
    IfOk-from_err c.from_residual.result _ c.from_residual.ensures.0

pub write_line-returns-in_err-write_last-in-Some : goal.write_line-returns-in_err-write_last-in-Some
write_line-returns-in_err-write_last-in-Some t c =
    IfOk-from_err c.from_residual-in_err-write_last-in-Some.result _ c.from_residual-in_err-write_last-in-Some.ensures.0

pub write_line-returns-in_err-write_chain_before-in-None : goal.write_line-returns-in_err-write_chain_before-in-None
write_line-returns-in_err-write_chain_before-in-None t c =
    IfOk-from_err c.from_residual-in_err-write_chain_before-in-None.result _ c.from_residual-in_err-write_chain_before-in-None.ensures.0

pub write_link-returns-in_err-key : goal.write_link-returns-in_err-key
write_link-returns-in_err-key t c = IfOk-from_err c.from_residual.result _ c.from_residual.ensures.0

pub write_link-returns-in_err-begin_array : goal.write_link-returns-in_err-begin_array
write_link-returns-in_err-begin_array t c =
    IfOk-from_err c.from_residual-in_err-begin_array.result _ c.from_residual-in_err-begin_array.ensures.0

pub write_rest-returns-in_err-key : goal.write_rest-returns-in_err-key
write_rest-returns-in_err-key t c = IfOk-from_err c.from_residual.result _ c.from_residual.ensures.0

pub write_rest-returns-in_err-begin_array : goal.write_rest-returns-in_err-begin_array
write_rest-returns-in_err-begin_array t c =
    IfOk-from_err c.from_residual-in_err-begin_array.result _ c.from_residual-in_err-begin_array.ensures.0

pub write_rest-returns-in_err-write_line : goal.write_rest-returns-in_err-write_line
write_rest-returns-in_err-write_line t c =
    IfOk-from_err c.from_residual-in_err-write_line.result _ c.from_residual-in_err-write_line.ensures.0

pub write_rest-returns-in_err-end_array : goal.write_rest-returns-in_err-end_array
write_rest-returns-in_err-end_array t c =
    IfOk-from_err c.from_residual-in_err-end_array.result _ c.from_residual-in_err-end_array.ensures.0

pub write_rest-returns-in_err-end_object : goal.write_rest-returns-in_err-end_object
write_rest-returns-in_err-end_object t c =
    IfOk-from_err c.from_residual-in_err-end_object.result _ c.from_residual-in_err-end_object.ensures.0

pub write_task-returns-in_err-write_task_front : goal.write_task-returns-in_err-write_task_front
write_task-returns-in_err-write_task_front t c = IfOk-from_err c.from_residual.result _ c.from_residual.ensures.0

pub write_task-returns-in_err-write_chord : goal.write_task-returns-in_err-write_chord
write_task-returns-in_err-write_chord t c =
    IfOk-from_err c.from_residual-in_err-write_chord.result _ c.from_residual-in_err-write_chord.ensures.0

pub write_task_behind-returns-in_err-write_group : goal.write_task_behind-returns-in_err-write_group
write_task_behind-returns-in_err-write_group t c = IfOk-from_err c.from_residual.result _ c.from_residual.ensures.0

pub write_task_behind-returns-in_err-write_link : goal.write_task_behind-returns-in_err-write_link
write_task_behind-returns-in_err-write_link t c =
    IfOk-from_err c.from_residual-in_err-write_link.result _ c.from_residual-in_err-write_link.ensures.0

pub write_task_behind-returns-in_err-write_link-2 : goal.write_task_behind-returns-in_err-write_link-2
write_task_behind-returns-in_err-write_link-2 t c =
    IfOk-from_err c.from_residual-in_err-write_link-2.result _ c.from_residual-in_err-write_link-2.ensures.0

pub write_task_behind-returns-in_err-write_own_id : goal.write_task_behind-returns-in_err-write_own_id
write_task_behind-returns-in_err-write_own_id t c =
    IfOk-from_err c.from_residual-in_err-write_own_id.result _ c.from_residual-in_err-write_own_id.ensures.0

pub write_tasks-returns-in_err-write_task : goal.write_tasks-returns-in_err-write_task
write_tasks-returns-in_err-write_task t c = IfOk-from_err c.from_residual.result _ c.from_residual.ensures.0
