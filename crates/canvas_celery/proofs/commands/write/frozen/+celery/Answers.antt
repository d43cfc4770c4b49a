use Rattle.std.proofs.Common.{◌≡◌, ◌-◌, [], ◌∷◌, ◌++◌, ◌∙◌, map, reverse, length, drop, codes, refl, sym, ap, arith, append-nil}
use Rattle.std.proofs.lemmas.Result.{IfOk-from_err}
use Rattle.std.proofs.lemmas.List.{drop_all}
use Rattle.json.specs.Token.{null, key, begin_array, begin_object, end_array, end_object}
use Rattle.canvas_values.specs.steps.Tokens.{data_tokens}
use Rattle.canvas_values.proofs.Written.Writers.{after_ok, then_tokens}
use Rattle.canvas_rewrite.specs.FrozenView.{p_task_view, p_line_view, p_end_view}
use Rattle.canvas_envelope.specs.MessageView.{place_seen}
use Rattle.canvas_envelope.specs.steps.Tokens.{named_tokens}
use Rattle.canvas_envelope.proofs.Seen.{group_place}
use Rattle.canvas_celery.specs.Signatures.{elements, behind, carried_wire, first_wire}
use Rattle.canvas_celery.specs.ExportView.{naming}
use Rattle.canvas_celery.specs.steps.Elements.{chord_option, each_tokens, task_sigs}
use Rattle.canvas_celery.proofs.Exported.Tokens.{appends_as}
use Rattle.canvas_celery.proofs.Exported.Sigs.{task_whole, each_items, two_elements, linked_behind, none_behind, chain_member, lone_member, chain_written, members_ended, first_whole}
use Rattle.canvas_celery.proofs.Exported.Elements.{no_link, a_chord, no_tail, no_element, a_group, end_stands, link_written, task_written, group_front, chord_front}
use Rattle.canvas_celery.proofs.Exported.Lines.{nothing, appended, next_task, last_task, next_line, last_line, task_before, elements_written, others_written, end_behind, task_first, carried_task, others_turned, end_first, carried_end, end_turned, tail_written, tail_turned, body_behind}
use Rattle.canvas_celery.proofs.commands.write.frozen.+celery.Goals as goal

-- ---- tasks

pub write_link-returns-then-is_empty : goal.write_link-returns-then-is_empty
write_link-returns-then-is_empty t c = nothing c.args.out.now _ (no_link (naming c.args.names.now) c.args.name.now c.args.tasks.now
    (sym c.is_empty.ensures ∙ c.if-is_empty.true))

pub write_link-returns : goal.write_link-returns
write_link-returns t c =
    let named = c.in_ok-key.ensures in
    let begun = c.in_ok-begin_array.ensures in
    let first = then_tokens c.args.out.now c.key.new.self c.begin_array.new.self (key c.args.name.now ∷ []) (begin_array ∷ []) (named.ok, named.room.0)
    (begun.ok, begun.room.0) in
    let second = then_tokens c.args.out.now c.begin_array.new.self c.write_each.new.out _ _ first c.in_ok-write_each.ensures in
    after_ok c.end_array.result c.args.out.now c.write_each.new.out c.end_array.new.self _ (end_array ∷ []) _ second
    (appended c.end_array.result c.write_each.new.out c.end_array.new.self end_array c.end_array.ensures)
    (link_written (naming c.args.names.now) c.args.name.now c.args.tasks.now (sym c.is_empty.ensures ∙ c.if-is_empty.false))

pub write_each-loop-task-init : goal.write_each-loop-task-init
write_each-loop-task-init t c = (refl, refl)

pub write_each-loop-task-preserved : goal.write_each-loop-task-preserved
write_each-loop-task-preserved t c =
    let written = c.in_ok-write_task.ensures in (
      next_task (naming c.args.names.now) c.args.tasks.now c.loop-task.task-index c.task-item.result c.loop-task.out.tokens c.write_task.new.out.tokens _
          (omega (arith, c.loop-task-test.true)) c.task-item.is written.0 c.loop-task.invariant.0,
      written.1 ∙ c.loop-task.invariant.1,
    )

pub write_each-returns : goal.write_each-returns
write_each-returns t c = (
  last_task (naming c.args.names.now) c.args.tasks.now c.loop-task.task-index c.loop-task.out.tokens _ (omega (arith, c.loop-task-test.false))
      c.loop-task.invariant.0,
  c.loop-task.invariant.1,
)

pub write_chord_option-returns-in_ok-key-in-Some-chord : goal.write_chord_option-returns-in_ok-key-in-Some-chord
write_chord_option-returns-in_ok-key-in-Some-chord t c =
    let n = naming c.args.names.now in
    let named = c.in_ok-key-in-Some-chord.ensures in
    after_ok c.write_carried.result c.args.out.now c.key.new.self c.write_carried.new.out (key (codes "chord") ∷ []) _ _ (named.ok, named.room.0)
    c.write_carried.ensures
    (ap (λ l. named_tokens (codes "chord") (carried_wire (elements n (p_line_view l)))) c.deref.ensures
    ∙ (sym (a_chord n c.in-Some.place c.in-Some-chord.carried c.in-Some-chord.is) ∙ ap (λ p. chord_option n (place_seen p)) (sym c.in-Some.is)))

pub write_chord_option-returns-in-None-chord : goal.write_chord_option-returns-in-None-chord
write_chord_option-returns-in-None-chord t c =
    let n = naming c.args.names.now in
    nothing c.args.out.now _
    (ap (λ p. chord_option n (place_seen p)) c.in-Some.is ∙ ap (chord_option n) (group_place c.in-Some.place c.in-None-chord.is))

pub write_chord_option-returns-in-None : goal.write_chord_option-returns-in-None
write_chord_option-returns-in-None t c = nothing c.args.out.now _ (ap (λ p. chord_option (naming c.args.names.now) (place_seen p)) c.in-None.is)

pub write_task_rest-returns : goal.write_task_rest-returns
write_task_rest-returns t c =
    let place = then_tokens c.args.out.now c.write_chord_option.new.out c.write_group_options.new.out _ _ c.in_ok-write_chord_option.ensures
    c.in_ok-write_group_options.ensures in
    let links = then_tokens c.write_group_options.new.out c.write_link.new.out c.write_link-2.new.out _ _ c.in_ok-write_link.ensures
    c.in_ok-write_link-2.ensures in
    let both = then_tokens c.args.out.now c.write_group_options.new.out c.write_link-2.new.out _ _ place links in
    let closed = c.in_ok-end_object.ensures in
    let id = then_tokens c.write_link-2.new.out c.write_task_member.new.out c.end_object.new.self _ (end_object ∷ []) c.in_ok-write_task_member.ensures
    (closed.ok, closed.room.0) in
    let own = then_tokens c.args.out.now c.write_link-2.new.out c.end_object.new.self _ _ both id in
    after_ok c.write_end.result c.args.out.now c.end_object.new.self c.write_end.new.out _ _ _ own c.write_end.ensures
    (task_written (naming c.args.names.now) c.args.task.now _ _ _ (c.deref.ensures.value ∙ c.get.ensures) (c.deref-2.ensures.value ∙ c.get-2.ensures)
    (c.deref-3.ensures ∙ c.get-3.ensures))

pub write_task-returns : goal.write_task-returns
write_task-returns t c =
    after_ok c.write_task_rest.result c.args.out.now c.write_task_front.new.out c.write_task_rest.new.out _ _ _ c.in_ok-write_task_front.ensures
    c.write_task_rest.ensures
    (task_whole (naming c.args.names.now) (p_task_view c.args.task.now))

pub write_reversed-loop-left-init : goal.write_reversed-loop-left-init
write_reversed-loop-left-init t c =
    let o = c.args.out.now.tokens in
    let ts = c.args.tasks.now in
    let ended : drop (length ts) ts ≡ [] = drop_all (length ts) ts (omega arith) in
    (omega arith, sym (ap (λ xs. o ++ each_tokens (reverse (task_sigs (naming c.args.names.now) (map p_task_view xs)))) ended ∙ append-nil o), refl)

pub write_reversed-loop-left-preserved : goal.write_reversed-loop-left-preserved
write_reversed-loop-left-preserved t c =
    let written = c.in_ok-write_task.ensures in (
      omega arith,
      task_before (naming c.args.names.now) c.args.tasks.now (c.loop-left.left - 1) c.loop-left.left c.index-tasks-left.result c.loop-left.out.tokens
          c.write_task.new.out.tokens c.args.out.now.tokens
          (omega (arith, c.loop-left-test.true)) (omega (arith, c.loop-left-test.true, c.loop-left.invariant.0)) c.index-tasks-left.is written.0
          c.loop-left.invariant.1,
      written.1 ∙ c.loop-left.invariant.2,
    )

pub write_reversed-returns : goal.write_reversed-returns
write_reversed-returns t c =
    let first : c.loop-left.left ≡ 0 = omega (arith, c.loop-left-test.false) in (
      c.loop-left.invariant.1 ∙ ap (λ k. c.args.out.now.tokens ++ each_tokens
          (reverse (task_sigs (naming c.args.names.now) (map p_task_view (drop k c.args.tasks.now))))) first,
      c.loop-left.invariant.2,
    )

-- ---- the option `chain`

pub write_chain_option-returns-then-has_more : goal.write_chain_option-returns-then-has_more
write_chain_option-returns-then-has_more t c =
    let n = naming c.args.names.now in
    let l = p_line_view c.args.line.now in
    let named = c.in_ok-key.ensures in
    let begun = c.in_ok-begin_array.ensures in
    let first = then_tokens c.args.out.now c.key.new.self c.begin_array.new.self (key (codes "chain") ∷ []) (begin_array ∷ []) (named.ok, named.room.0)
    (begun.ok, begun.room.0) in
    let second = then_tokens c.args.out.now c.begin_array.new.self c.write_further_backwards.new.out _ _ first c.in_ok-write_further_backwards.ensures in
    after_ok c.end_array.result c.args.out.now c.write_further_backwards.new.out c.end_array.new.self _ (end_array ∷ []) _ second
    (appended c.end_array.result c.write_further_backwards.new.out c.end_array.new.self end_array c.end_array.ensures)
    (ap (λ x. key (codes "chain") ∷ begin_array ∷ x) (each_items (reverse (behind (elements n l))))
    ∙ linked_behind (codes "chain") (elements n l) (two_elements n l ∙ (sym c.has_more.ensures ∙ c.if-has_more.true)))

pub write_chain_option-returns : goal.write_chain_option-returns
write_chain_option-returns t c =
    let n = naming c.args.names.now in
    let l = p_line_view c.args.line.now in
    nothing c.args.out.now _ (none_behind (codes "chain") (elements n l) (two_elements n l ∙ (sym c.has_more.ensures ∙ c.if-has_more.false)))

-- ---- groups and chords

pub write_last-returns : goal.write_last-returns
write_last-returns t c =
    let n = naming c.args.names.now in
    after_ok c.write_end_rest.result c.args.out.now c.write_end_front.new.out c.write_end_rest.new.out _ _ _ c.in_ok-write_end_front.ensures
    c.write_end_rest.ensures
    (first_whole (elements n (p_end_view c.args.end.now)) (end_stands n c.args.end.now))

pub write_end_front-returns-in_ok-write_first-in-Some : goal.write_end_front-returns-in_ok-write_first-in-Some
write_end_front-returns-in_ok-write_first-in-Some t c =
    let named = c.in_ok-key-in-Some.ensures in
    let first = then_tokens c.args.out.now c.write_opening.new.out c.key.new.self _ (key (codes "body") ∷ []) c.in_ok-write_opening.ensures
    (named.ok, named.room.0) in
    let second = then_tokens c.args.out.now c.key.new.self c.write_first.new.out _ _ first c.in_ok-write_first-in-Some.ensures in
    after_ok c.write_members.result c.args.out.now c.write_first.new.out c.write_members.new.out _ _ _ second c.write_members.ensures
    (chord_front (naming c.args.names.now) c.args.end.now c.in-Some.body c.deref.result.now c.in-Some.is (c.deref.ensures.value ∙ c.get.ensures))

pub write_end_front-returns-in-None : goal.write_end_front-returns-in-None
write_end_front-returns-in-None t c =
    after_ok c.write_members-in-None.result c.args.out.now c.write_opening.new.out c.write_members-in-None.new.out _ _ _ c.in_ok-write_opening.ensures
    c.write_members-in-None.ensures
    (group_front (naming c.args.names.now) c.args.end.now c.deref-in-None.result.now c.in-None.is (c.deref-in-None.ensures.value ∙ c.get-in-None.ensures))

pub write_members-loop-line-init : goal.write_members-loop-line-init
write_members-loop-line-init t c = (refl, refl)

pub write_members-loop-line-preserved : goal.write_members-loop-line-preserved
write_members-loop-line-preserved t c =
    let written = c.in_ok-write_member.ensures in (
      next_line (naming c.args.names.now) c.args.lines.now c.loop-line.line-index c.line-item.result c.loop-line.out.tokens c.write_member.new.out.tokens _
          (omega (arith, c.loop-line-test.true)) c.line-item.is written.0 c.loop-line.invariant.0,
      written.1 ∙ c.loop-line.invariant.1,
    )

pub write_members-returns : goal.write_members-returns
write_members-returns t c =
    let named = c.in_ok-key.ensures in
    let begun = c.in_ok-begin_array.ensures in
    let first = then_tokens c.args.out.now c.key.new.self c.begin_array.new.self (key c.args.name.now ∷ []) (begin_array ∷ []) (named.ok, named.room.0)
    (begun.ok, begun.room.0) in
    let listed = c.in_ok-end_array.ensures in
    let closed = c.in_ok-end_object.ensures in
    let further = c.in_ok-key-2.ensures in
    let lines = last_line (naming c.args.names.now) c.args.lines.now c.loop-line.line-index c.begin_array.new.self c.loop-line.out c.end_array.new.self _
    (omega (arith, c.loop-line-test.false)) c.loop-line.invariant (listed.ok, listed.room.0) in
    let second = then_tokens c.args.out.now c.begin_array.new.self c.end_array.new.self _ _ first lines in
    let third = then_tokens c.args.out.now c.end_array.new.self c.end_object.new.self _ (end_object ∷ []) second (closed.ok, closed.room.0) in
    let fourth = then_tokens c.args.out.now c.end_object.new.self c.key-2.new.self _ (key (codes "options") ∷ []) third (further.ok, further.room.0) in
    after_ok c.begin_object.result c.args.out.now c.key-2.new.self c.begin_object.new.self _ (begin_object ∷ []) _ fourth
    (appended c.begin_object.result c.key-2.new.self c.begin_object.new.self begin_object c.begin_object.ensures)
    (members_ended c.args.name.now _)

pub write_member-returns-then-has_more : goal.write_member-returns-then-has_more
write_member-returns-then-has_more t c =
    let n = naming c.args.names.now in
    let l = p_line_view c.args.line.now in
    let named = c.in_ok-key.ensures in
    let begun = c.in_ok-begin_array.ensures in
    let listed = c.in_ok-end_array.ensures in
    let closed = c.in_ok-end_object.ensures in
    let first = then_tokens c.args.out.now c.write_opening.new.out c.key.new.self _ (key (codes "tasks") ∷ []) c.in_ok-write_opening.ensures
    (named.ok, named.room.0) in
    let second = then_tokens c.args.out.now c.key.new.self c.begin_array.new.self _ (begin_array ∷ []) first (begun.ok, begun.room.0) in
    let elements_of = then_tokens c.begin_array.new.self c.write_each.new.out c.write_tail.new.out _ _ c.in_ok-write_each.ensures c.in_ok-write_tail.ensures in
    let third = then_tokens c.args.out.now c.begin_array.new.self c.write_tail.new.out _ _ second elements_of in
    let fourth = then_tokens c.args.out.now c.write_tail.new.out c.end_array.new.self _ (end_array ∷ []) third (listed.ok, listed.room.0) in
    let fifth = then_tokens c.args.out.now c.end_array.new.self c.end_object.new.self _ (end_object ∷ []) fourth (closed.ok, closed.room.0) in
    after_ok c.write_closing.result c.args.out.now c.end_object.new.self c.write_closing.new.out _ _ _ fifth c.write_closing.ensures
    (chain_written _ (elements n l) (elements_written n c.args.line.now c.deref.result.now (c.deref.ensures.value ∙ c.get.ensures))
    ∙ chain_member (elements n l) (two_elements n l ∙ (sym c.has_more.ensures ∙ c.if-has_more.true)))

pub write_member-returns : goal.write_member-returns
write_member-returns t c =
    let n = naming c.args.names.now in
    let l = p_line_view c.args.line.now in
    appends_as c.write_first.result c.args.out.now c.write_first.new.out _ _
    (lone_member (elements n l) (two_elements n l ∙ (sym c.has_more.ensures ∙ c.if-has_more.false))) c.write_first.ensures

-- ---- the end of a line

pub write_tail-returns-in_ok-write_last-in-Some : goal.write_tail-returns-in_ok-write_last-in-Some
write_tail-returns-in_ok-write_last-in-Some t c =
    after_ok c.write_behind.result c.args.out.now c.write_last.new.out c.write_behind.new.out _ _ _ c.in_ok-write_last-in-Some.ensures
    c.write_behind.ensures
    (tail_written (naming c.args.names.now) c.args.line.now c.in-Some.end c.in-Some.is c.deref.result.now c.deref-in-Some.result.now c.deref.ensures
    c.deref-in-Some.ensures)

pub write_tail-returns-in-None : goal.write_tail-returns-in-None
write_tail-returns-in-None t c = nothing c.args.out.now _ (ap each_tokens (no_tail (naming c.args.names.now) c.args.line.now c.in-None.is))

pub write_behind-returns-in_ok-write_each-in-Some-split_first : goal.write_behind-returns-in_ok-write_each-in-Some-split_first
write_behind-returns-in_ok-write_each-in-Some-split_first t c =
    let n = naming c.args.names.now in
    after_ok c.write_tail.result c.args.out.now c.write_each.new.out c.write_tail.new.out _ _ _ c.in_ok-write_each-in-Some-split_first.ensures
    c.write_tail.ensures
    (others_written n c.in-Some.body c.deref.result.now c.in-Some-split_first.others.now c.in-Some-split_first._task.now
    (c.deref.ensures.value ∙ c.get.ensures) c.in-Some-split_first.ensures.cases.0
    ∙ ap each_tokens (body_behind n c.args.end.now c.in-Some.body c.in-Some.is))

pub write_behind-returns-in-Some-tail : goal.write_behind-returns-in-Some-tail
write_behind-returns-in-Some-tail t c =
    let n = naming c.args.names.now in
    appends_as c.write_behind.result c.args.out.now c.write_behind.new.out _ _
    (end_behind n c.in-Some.body c.deref.result.now c.in-Some-tail.last (c.deref.ensures.value ∙ c.get.ensures)
    c.in-None-split_first.ensures.cases c.in-Some-tail.is c.deref-in-Some-tail.result.now c.deref-in-Some-tail.ensures
    ∙ ap each_tokens (body_behind n c.args.end.now c.in-Some.body c.in-Some.is)) c.write_behind.ensures

pub write_behind-returns-in-None-tail : goal.write_behind-returns-in-None-tail
write_behind-returns-in-None-tail t c =
    let n = naming c.args.names.now in
    nothing c.args.out.now _
    (ap each_tokens (sym (body_behind n c.args.end.now c.in-Some.body c.in-Some.is))
    ∙ ap (λ ss. each_tokens (behind ss)) (no_element n c.in-Some.body c.deref.result.now
    (c.deref.ensures.value ∙ c.get.ensures) c.in-None-split_first.ensures.cases c.in-None-tail.is))

pub write_behind-returns-in-None : goal.write_behind-returns-in-None
write_behind-returns-in-None t c = nothing c.args.out.now _ (ap (λ ss. each_tokens (behind ss))
    (a_group (naming c.args.names.now) c.args.end.now c.in-None.is))

pub write_behind_backwards-returns-in-Some : goal.write_behind_backwards-returns-in-Some
write_behind_backwards-returns-in-Some t c =
    appends_as c.write_further_backwards.result c.args.out.now c.write_further_backwards.new.out _ _
    (ap (λ ss. each_tokens (reverse ss)) (body_behind (naming c.args.names.now) c.args.end.now c.in-Some.body c.in-Some.is))
    c.write_further_backwards.ensures

pub write_behind_backwards-returns-in-None : goal.write_behind_backwards-returns-in-None
write_behind_backwards-returns-in-None t c = nothing c.args.out.now _ (ap (λ ss. each_tokens (reverse (behind ss)))
    (a_group (naming c.args.names.now) c.args.end.now c.in-None.is))

pub write_tail_backwards-returns-in_ok-write_behind_backwards-in-Some : goal.write_tail_backwards-returns-in_ok-write_behind_backwards-in-Some
write_tail_backwards-returns-in_ok-write_behind_backwards-in-Some t c =
    after_ok c.write_last.result c.args.out.now c.write_behind_backwards.new.out c.write_last.new.out _ _ _ c.in_ok-write_behind_backwards-in-Some.ensures
    c.write_last.ensures
    (tail_turned (naming c.args.names.now) c.args.line.now c.in-Some.end c.in-Some.is c.deref.result.now c.deref-in-Some.result.now c.deref.ensures
    c.deref-in-Some.ensures)

pub write_tail_backwards-returns-in-None : goal.write_tail_backwards-returns-in-None
write_tail_backwards-returns-in-None t c = nothing c.args.out.now _ (ap (λ ss. each_tokens (reverse ss))
    (no_tail (naming c.args.names.now) c.args.line.now c.in-None.is))

-- ---- lines, by their first element

pub write_carried-returns-in_ok-write_chain_option-in-Some : goal.write_carried-returns-in_ok-write_chain_option-in-Some
write_carried-returns-in_ok-write_chain_option-in-Some t c =
    let front = then_tokens c.args.out.now c.write_task_front.new.out c.write_chain_option.new.out _ _ c.in_ok-write_task_front-in-Some.ensures
    c.in_ok-write_chain_option-in-Some.ensures in
    after_ok c.write_task_rest.result c.args.out.now c.write_chain_option.new.out c.write_task_rest.new.out _ _ _ front c.write_task_rest.ensures
    (carried_task (naming c.args.names.now) c.args.line.now c.deref.result.now c.in-Some._others.now c.in-Some.task.now
    (c.deref.ensures.value ∙ c.get.ensures) c.in-Some.ensures.cases.0)

pub write_carried-returns-in_ok-write_chain_option-in-Some-tail : goal.write_carried-returns-in_ok-write_chain_option-in-Some-tail
write_carried-returns-in_ok-write_chain_option-in-Some-tail t c =
    let front = then_tokens c.args.out.now c.write_end_front.new.out c.write_chain_option-in-Some-tail.new.out _ _
    c.in_ok-write_end_front-in-Some-tail.ensures c.in_ok-write_chain_option-in-Some-tail.ensures in
    after_ok c.write_end_rest.result c.args.out.now c.write_chain_option-in-Some-tail.new.out c.write_end_rest.new.out _ _ _ front c.write_end_rest.ensures
    (carried_end (naming c.args.names.now) c.args.line.now c.deref.result.now c.in-Some-tail.end (c.deref.ensures.value ∙ c.get.ensures)
    c.in-None.ensures.cases c.in-Some-tail.is
    c.deref-in-Some-tail.result.now c.deref-in-Some-tail-2.result.now c.deref-in-Some-tail.ensures c.deref-in-Some-tail-2.ensures)

pub write_carried-returns-in-None-tail : goal.write_carried-returns-in-None-tail
write_carried-returns-in-None-tail t c =
    appends_as c.null.result c.args.out.now c.null.new.self (null ∷ []) _
    (ap (λ ss. data_tokens (carried_wire ss)) (sym (no_element (naming c.args.names.now) c.args.line.now c.deref.result.now
    (c.deref.ensures.value ∙ c.get.ensures) c.in-None.ensures.cases c.in-None-tail.is)))
    (appended c.null.result c.args.out.now c.null.new.self null c.null.ensures)

pub write_first-returns-in-Some : goal.write_first-returns-in-Some
write_first-returns-in-Some t c =
    appends_as c.write_task.result c.args.out.now c.write_task.new.out _ _
    (task_first (naming c.args.names.now) c.args.line.now c.deref.result.now c.in-Some._others.now c.in-Some.task.now
    (c.deref.ensures.value ∙ c.get.ensures) c.in-Some.ensures.cases.0) c.write_task.ensures

pub write_first-returns-in-Some-tail : goal.write_first-returns-in-Some-tail
write_first-returns-in-Some-tail t c =
    appends_as c.write_last.result c.args.out.now c.write_last.new.out _ _
    (end_first (naming c.args.names.now) c.args.line.now c.deref.result.now c.in-Some-tail.end (c.deref.ensures.value ∙ c.get.ensures)
    c.in-None.ensures.cases c.in-Some-tail.is c.deref-in-Some-tail.result.now c.deref-in-Some-tail.ensures) c.write_last.ensures

pub write_first-returns-in-None-tail : goal.write_first-returns-in-None-tail
write_first-returns-in-None-tail t c =
    appends_as c.null.result c.args.out.now c.null.new.self (null ∷ []) _
    (ap (λ ss. data_tokens (first_wire ss)) (sym (no_element (naming c.args.names.now) c.args.line.now c.deref.result.now
    (c.deref.ensures.value ∙ c.get.ensures) c.in-None.ensures.cases c.in-None-tail.is)))
    (appended c.null.result c.args.out.now c.null.new.self null c.null.ensures)

pub write_further_backwards-returns-in_ok-write_tail_backwards-in-Some : goal.write_further_backwards-returns-in_ok-write_tail_backwards-in-Some
write_further_backwards-returns-in_ok-write_tail_backwards-in-Some t c =
    after_ok c.write_reversed.result c.args.out.now c.write_tail_backwards.new.out c.write_reversed.new.out _ _ _
    c.in_ok-write_tail_backwards-in-Some.ensures c.write_reversed.ensures
    (others_turned (naming c.args.names.now) c.args.line.now c.deref.result.now c.in-Some.others.now c.in-Some._task.now
    (c.deref.ensures.value ∙ c.get.ensures) c.in-Some.ensures.cases.0)

pub write_further_backwards-returns-in-Some-tail : goal.write_further_backwards-returns-in-Some-tail
write_further_backwards-returns-in-Some-tail t c =
    appends_as c.write_behind_backwards.result c.args.out.now c.write_behind_backwards.new.out _ _
    (end_turned (naming c.args.names.now) c.args.line.now c.deref.result.now c.in-Some-tail.end (c.deref.ensures.value ∙ c.get.ensures)
    c.in-None.ensures.cases c.in-Some-tail.is c.deref-in-Some-tail.result.now c.deref-in-Some-tail.ensures) c.write_behind_backwards.ensures

pub write_further_backwards-returns-in-None-tail : goal.write_further_backwards-returns-in-None-tail
write_further_backwards-returns-in-None-tail t c =
    nothing c.args.out.now _ (ap (λ ss. each_tokens (reverse (behind ss)))
    (no_element (naming c.args.names.now) c.args.line.now c.deref.result.now (c.deref.ensures.value ∙ c.get.ensures) c.in-None.ensures.cases
    c.in-None-tail.is))

pub write_behind-returns-in_err-write_each-in-Some-split_first : goal.write_behind-returns-in_err-write_each-in-Some-split_first
write_behind-returns-in_err-write_each-in-Some-split_first t c =
    IfOk-from_err c.from_residual.result _ c.from_residual.ensures.0

pub write_carried-returns-in_err-write_task_front-in-Some : goal.write_carried-returns-in_err-write_task_front-in-Some
write_carried-returns-in_err-write_task_front-in-Some t c =
    IfOk-from_err c.from_residual.result _ c.from_residual.ensures.0

pub write_carried-returns-in_err-write_chain_option-in-Some : goal.write_carried-returns-in_err-write_chain_option-in-Some
write_carried-returns-in_err-write_chain_option-in-Some t c =
    IfOk-from_err c.from_residual-in_err-write_chain_option-in-Some.result _ c.from_residual-in_err-write_chain_option-in-Some.ensures.0

pub write_carried-returns-in_err-write_end_front-in-Some-tail : goal.write_carried-returns-in_err-write_end_front-in-Some-tail
write_carried-returns-in_err-write_end_front-in-Some-tail t c =
    IfOk-from_err c.from_residual-in_err-write_end_front-in-Some-tail.result _ c.from_residual-in_err-write_end_front-in-Some-tail.ensures.0

pub write_carried-returns-in_err-write_chain_option-in-Some-tail : goal.write_carried-returns-in_err-write_chain_option-in-Some-tail
write_carried-returns-in_err-write_chain_option-in-Some-tail t c =
    IfOk-from_err c.from_residual-in_err-write_chain_option-in-Some-tail.result _ c.from_residual-in_err-write_chain_option-in-Some-tail.ensures.0

pub write_chain_option-returns-in_err-key : goal.write_chain_option-returns-in_err-key
write_chain_option-returns-in_err-key t c = IfOk-from_err c.from_residual.result _ c.from_residual.ensures.0

pub write_chain_option-returns-in_err-begin_array : goal.write_chain_option-returns-in_err-begin_array
write_chain_option-returns-in_err-begin_array t c =
    IfOk-from_err c.from_residual-in_err-begin_array.result _ c.from_residual-in_err-begin_array.ensures.0

pub write_chain_option-returns-in_err-write_further_backwards : goal.write_chain_option-returns-in_err-write_further_backwards
write_chain_option-returns-in_err-write_further_backwards t c =
    IfOk-from_err c.from_residual-in_err-write_further_backwards.result _ c.from_residual-in_err-write_further_backwards.ensures.0

pub write_chord_option-returns-in_err-key-in-Some-chord : goal.write_chord_option-returns-in_err-key-in-Some-chord
write_chord_option-returns-in_err-key-in-Some-chord t c =
    IfOk-from_err c.from_residual.result _ c.from_residual.ensures.0

pub write_each-returns-in_err-write_task : goal.write_each-returns-in_err-write_task
write_each-returns-in_err-write_task t c = IfOk-from_err c.from_residual.result _ c.from_residual.ensures.0

pub write_end_front-returns-in_err-write_opening : goal.write_end_front-returns-in_err-write_opening
write_end_front-returns-in_err-write_opening t c = IfOk-from_err c.from_residual.result _ c.from_residual.ensures.0

pub write_end_front-returns-in_err-key-in-Some : goal.write_end_front-returns-in_err-key-in-Some
write_end_front-returns-in_err-key-in-Some t c =
    IfOk-from_err c.from_residual-in_err-key-in-Some.result _ c.from_residual-in_err-key-in-Some.ensures.0

pub write_end_front-returns-in_err-write_first-in-Some : goal.write_end_front-returns-in_err-write_first-in-Some
write_end_front-returns-in_err-write_first-in-Some t c =
    IfOk-from_err c.from_residual-in_err-write_first-in-Some.result _ c.from_residual-in_err-write_first-in-Some.ensures.0

pub write_further_backwards-returns-in_err-write_tail_backwards-in-Some : goal.write_further_backwards-returns-in_err-write_tail_backwards-in-Some
write_further_backwards-returns-in_err-write_tail_backwards-in-Some t c =
    IfOk-from_err c.from_residual.result _ c.from_residual.ensures.0

pub write_last-returns-in_err-write_end_front : goal.write_last-returns-in_err-write_end_front
write_last-returns-in_err-write_end_front t c = IfOk-from_err c.from_residual.result _ c.from_residual.ensures.0

pub write_link-returns-in_err-key : goal.write_link-returns-in_err-key
write_link-returns-in_err-key t c = IfOk-from_err c.from_residual.result _ c.from_residual.ensures.0

pub write_link-returns-in_err-begin_array : goal.write_link-returns-in_err-begin_array
write_link-returns-in_err-begin_array t c =
    IfOk-from_err c.from_residual-in_err-begin_array.result _ c.from_residual-in_err-begin_array.ensures.0

pub write_link-returns-in_err-write_each : goal.write_link-returns-in_err-write_each
write_link-returns-in_err-write_each t c =
    IfOk-from_err c.from_residual-in_err-write_each.result _ c.from_residual-in_err-write_each.ensures.0

pub write_member-returns-in_err-write_opening : goal.write_member-returns-in_err-write_opening
write_member-returns-in_err-write_opening t c = IfOk-from_err c.from_residual.result _ c.from_residual.ensures.0

pub write_member-returns-in_err-key : goal.write_member-returns-in_err-key
write_member-returns-in_err-key t c =
    IfOk-from_err c.from_residual-in_err-key.result _ c.from_residual-in_err-key.ensures.0

pub write_member-returns-in_err-begin_array : goal.write_member-returns-in_err-begin_array
write_member-returns-in_err-begin_array t c =
    IfOk-from_err c.from_residual-in_err-begin_array.result _ c.from_residual-in_err-begin_array.ensures.0

pub write_member-returns-in_err-write_each : goal.write_member-returns-in_err-write_each
write_member-returns-in_err-write_each t c =
    IfOk-from_err c.from_residual-in_err-write_each.result _ c.from_residual-in_err-write_each.ensures.0

pub write_member-returns-in_err-write_tail : goal.write_member-returns-in_err-write_tail
write_member-returns-in_err-write_tail t c =
    IfOk-from_err c.from_residual-in_err-write_tail.result _ c.from_residual-in_err-write_tail.ensures.0

pub write_member-returns-in_err-end_array : goal.write_member-returns-in_err-end_array
write_member-returns-in_err-end_array t c =
    IfOk-from_err c.from_residual-in_err-end_array.result _ c.from_residual-in_err-end_array.ensures.0

pub write_member-returns-in_err-end_object : goal.write_member-returns-in_err-end_object
write_member-returns-in_err-end_object t c =
    IfOk-from_err c.from_residual-in_err-end_object.result _ c.from_residual-in_err-end_object.ensures.0

pub write_members-returns-in_err-key : goal.write_members-returns-in_err-key
write_members-returns-in_err-key t c = IfOk-from_err c.from_residual.result _ c.from_residual.ensures.0

pub write_members-returns-in_err-begin_array : goal.write_members-returns-in_err-begin_array
write_members-returns-in_err-begin_array t c =
    IfOk-from_err c.from_residual-in_err-begin_array.result _ c.from_residual-in_err-begin_array.ensures.0

pub write_members-returns-in_err-write_member : goal.write_members-returns-in_err-write_member
write_members-returns-in_err-write_member t c =
    IfOk-from_err c.from_residual-in_err-write_member.result _ c.from_residual-in_err-write_member.ensures.0

pub write_members-returns-in_err-end_array : goal.write_members-returns-in_err-end_array
write_members-returns-in_err-end_array t c =
    IfOk-from_err c.from_residual-in_err-end_array.result _ c.from_residual-in_err-end_array.ensures.0

pub write_members-returns-in_err-end_object : goal.write_members-returns-in_err-end_object
write_members-returns-in_err-end_object t c =
    IfOk-from_err c.from_residual-in_err-end_object.result _ c.from_residual-in_err-end_object.ensures.0

pub write_members-returns-in_err-key-2 : goal.write_members-returns-in_err-key-2
write_members-returns-in_err-key-2 t c =
    IfOk-from_err c.from_residual-in_err-key-2.result _ c.from_residual-in_err-key-2.ensures.0

pub write_reversed-returns-in_err-write_task : goal.write_reversed-returns-in_err-write_task
write_reversed-returns-in_err-write_task t c = IfOk-from_err c.from_residual.result _ c.from_residual.ensures.0

pub write_tail-returns-in_err-write_last-in-Some : goal.write_tail-returns-in_err-write_last-in-Some
write_tail-returns-in_err-write_last-in-Some t c = IfOk-from_err c.from_residual.result _ c.from_residual.ensures.0

pub write_tail_backwards-returns-in_err-write_behind_backwards-in-Some : goal.write_tail_backwards-returns-in_err-write_behind_backwards-in-Some
write_tail_backwards-returns-in_err-write_behind_backwards-in-Some t c =
    IfOk-from_err c.from_residual.result _ c.from_residual.ensures.0

pub write_task-returns-in_err-write_task_front : goal.write_task-returns-in_err-write_task_front
write_task-returns-in_err-write_task_front t c = IfOk-from_err c.from_residual.result _ c.from_residual.ensures.0

pub write_task_rest-returns-in_err-write_chord_option : goal.write_task_rest-returns-in_err-write_chord_option
write_task_rest-returns-in_err-write_chord_option t c = IfOk-from_err c.from_residual.result _ c.from_residual.ensures.0

pub write_task_rest-returns-in_err-write_group_options : goal.write_task_rest-returns-in_err-write_group_options
write_task_rest-returns-in_err-write_group_options t c =
    IfOk-from_err c.from_residual-in_err-write_group_options.result _ c.from_residual-in_err-write_group_options.ensures.0

pub write_task_rest-returns-in_err-write_link : goal.write_task_rest-returns-in_err-write_link
write_task_rest-returns-in_err-write_link t c =
    IfOk-from_err c.from_residual-in_err-write_link.result _ c.from_residual-in_err-write_link.ensures.0

pub write_task_rest-returns-in_err-write_link-2 : goal.write_task_rest-returns-in_err-write_link-2
write_task_rest-returns-in_err-write_link-2 t c =
    IfOk-from_err c.from_residual-in_err-write_link-2.result _ c.from_residual-in_err-write_link-2.ensures.0

pub write_task_rest-returns-in_err-write_task_member : goal.write_task_rest-returns-in_err-write_task_member
write_task_rest-returns-in_err-write_task_member t c =
    IfOk-from_err c.from_residual-in_err-write_task_member.result _ c.from_residual-in_err-write_task_member.ensures.0

pub write_task_rest-returns-in_err-end_object : goal.write_task_rest-returns-in_err-end_object
write_task_rest-returns-in_err-end_object t c =
    IfOk-from_err c.from_residual-in_err-end_object.result _ c.from_residual-in_err-end_object.ensures.0
