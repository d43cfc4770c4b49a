use Rattle.std.proofs.Common.{◌≡◌, ◌∙◌, ◌∷◌, ◌++◌, map, refl, ap}
use Rattle.canvas_task.proofs.Turns.{put_part, put_on, put_all}
use Rattle.canvas_rewrite.specs.FrozenView.{p_line_view}
use Rattle.canvas_effects.specs.steps.Walks.{raised_stores, all_raised_stores, raised_messages, all_raised_messages}
use Rattle.canvas_rewrite.proofs.PlanLines.{ok_same}
use Rattle.canvas_effects.proofs.Raised.{first_there, raised_on, first_messages, raised_tail, raised_tail_messages, never_whole, stores_group, messages_group, stores_chord, messages_chord, ok_there}
use Rattle.canvas_effects.proofs.Walked.{whole_on}
use Rattle.canvas_effects.proofs.effects.raised.+raise.Goals as goal

pub raise_line-raise_task-requires-clause-number : goal.raise_line-raise_task-requires-clause-number
raise_line-raise_task-requires-clause-number t c =
    (first_there c.args.line.now _ _ c.in-Some.first.now (c.deref.ensures.value ∙ c.get.ensures) c.in-Some.ensures.cases.0 c.requires).numbered

pub raise_line-raise_task-requires-clause-callbacks : goal.raise_line-raise_task-requires-clause-callbacks
raise_line-raise_task-requires-clause-callbacks t c =
    let split : c.deref.result.now ≡ c.in-Some.first.now ∷ c.in-Some.others.now = c.in-Some.ensures.cases.0 in
    (first_there c.args.line.now _ _ c.in-Some.first.now (c.deref.ensures.value ∙ c.get.ensures) split c.requires).called_back

pub raise_line-returns-in_ok-raise_task-in-Some-clause-stores : goal.raise_line-returns-in_ok-raise_task-in-Some-clause-stores
raise_line-returns-in_ok-raise_task-in-Some-clause-stores t c =
    let split : c.deref.result.now ≡ c.in-Some.first.now ∷ c.in-Some.others.now = c.in-Some.ensures.cases.0 in
    ok_same _ _ _ _ (raised_on c.args.fault.now c.args.line.now _ c.in-Some.others.now c.in-Some.first.now c.args.stores.now.items _
    (c.deref.ensures.value ∙ c.get.ensures) split c.in_ok-raise_task-in-Some.ensures.stores) c.skip_rest.ensures

pub raise_line-returns-in_ok-raise_task-in-Some-clause-messages : goal.raise_line-returns-in_ok-raise_task-in-Some-clause-messages
raise_line-returns-in_ok-raise_task-in-Some-clause-messages t c =
    let split : c.deref.result.now ≡ c.in-Some.first.now ∷ c.in-Some.others.now = c.in-Some.ensures.cases.0 in
    ok_there c.skip_rest.result _ _
    (first_messages c.args.fault.now c.args.line.now _ _ c.in-Some.first.now _ _
    (c.deref.ensures.value ∙ c.get.ensures) split c.in_ok-raise_task-in-Some.ensures.messages)

pub raise_line-returns-in-Some-tail-clause-stores : goal.raise_line-returns-in-Some-tail-clause-stores
raise_line-returns-in-Some-tail-clause-stores t c =
    ok_same _ _ _ _ (ap (λ xs. c.args.stores.now.items ++ xs)
    (raised_tail c.args.fault.now c.args.line.now c.in-Some-tail.end _ c.deref-in-Some-tail.result.now c.in-Some-tail.is
    (c.deref.ensures.value ∙ c.get.ensures)
    c.in-None.ensures.cases c.deref-in-Some-tail.ensures)) c.raise_end.ensures.stores

pub raise_line-returns-in-Some-tail-clause-messages : goal.raise_line-returns-in-Some-tail-clause-messages
raise_line-returns-in-Some-tail-clause-messages t c =
    ok_same _ _ _ _ (ap (λ xs. c.args.messages.now.items ++ xs)
    (raised_tail_messages c.args.fault.now c.args.line.now c.in-Some-tail.end _ c.deref-in-Some-tail.result.now c.in-Some-tail.is
    (c.deref.ensures.value ∙ c.get.ensures)
    c.in-None.ensures.cases c.deref-in-Some-tail.ensures)) c.raise_end.ensures.messages

pub raise_line-returns-in-None-tail-clause-stores : goal.raise_line-returns-in-None-tail-clause-stores
raise_line-returns-in-None-tail-clause-stores t c =
    absurd (never_whole c.args.line.now _ c.in-None-tail.is (c.deref.ensures.value ∙ c.get.ensures) c.in-None.ensures.cases c.requires)

pub raise_line-returns-in-None-tail-clause-messages : goal.raise_line-returns-in-None-tail-clause-messages
raise_line-returns-in-None-tail-clause-messages t c =
    absurd (never_whole c.args.line.now _ c.in-None-tail.is (c.deref.ensures.value ∙ c.get.ensures) c.in-None.ensures.cases c.requires)

pub raise_end-returns-in-Some-clause-stores : goal.raise_end-returns-in-Some-clause-stores
raise_end-returns-in-Some-clause-stores t c =
    ok_same _ _ _ _ (put_part _ _ _ _ _ _ c.in_ok-raise_lines.ensures.stores
    (stores_chord c.args.fault.now _ c.args.end.now c.in-Some.body _ c.in-Some.is
    c.whole_members-members.ensures.value c.fault_behind-behind.ensures) refl) c.raise_line.ensures.stores

pub raise_end-returns-in-Some-clause-messages : goal.raise_end-returns-in-Some-clause-messages
raise_end-returns-in-Some-clause-messages t c =
    ok_same _ _ _ _ (put_part _ _ _ _ _ _ c.in_ok-raise_lines.ensures.messages
    (messages_chord c.args.fault.now _ c.args.end.now c.in-Some.body _ c.in-Some.is
    c.whole_members-members.ensures.value c.fault_behind-behind.ensures) refl) c.raise_line.ensures.messages

pub raise_end-returns-in-None-clause-stores : goal.raise_end-returns-in-None-clause-stores
raise_end-returns-in-None-clause-stores t c =
    c.in_ok-raise_lines.ensures.stores
    ∙ ap (λ xs. c.args.stores.now.items ++ xs) (stores_group c.args.fault.now c.args.end.now _ c.in-None.is c.whole_members-members.ensures.value)

pub raise_end-returns-in-None-clause-messages : goal.raise_end-returns-in-None-clause-messages
raise_end-returns-in-None-clause-messages t c =
    c.in_ok-raise_lines.ensures.messages
    ∙ ap (λ xs. c.args.messages.now.items ++ xs) (messages_group c.args.fault.now c.args.end.now _ c.in-None.is c.whole_members-members.ensures.value)

pub raise_lines-loop-line-init : goal.raise_lines-loop-line-init
raise_lines-loop-line-init t c = (c.requires, refl, refl)

pub raise_lines-loop-line-preserved : goal.raise_lines-loop-line-preserved
raise_lines-loop-line-preserved t c = (
  (whole_on c.args.lines.now c.loop-line.line-index c.line-item.result c.loop-line-test.true c.line-item.is c.loop-line.invariant.0).1,
  put_on (λ ls. all_raised_stores c.args.fault.now (map p_line_view ls)) c.args.lines.now c.loop-line.line-index c.line-item.result
      (raised_stores c.args.fault.now (p_line_view c.line-item.result)) _ _ _ c.loop-line-test.true c.line-item.is refl c.loop-line.invariant.1
      c.in_ok-raise_line.ensures.stores,
  put_on (λ ls. all_raised_messages c.args.fault.now (map p_line_view ls)) c.args.lines.now c.loop-line.line-index c.line-item.result
      (raised_messages c.args.fault.now (p_line_view c.line-item.result)) _ _ _ c.loop-line-test.true c.line-item.is refl c.loop-line.invariant.2
      c.in_ok-raise_line.ensures.messages,
)

pub raise_lines-returns-clause-stores : goal.raise_lines-returns-clause-stores
raise_lines-returns-clause-stores t c =
    put_all (λ ls. all_raised_stores c.args.fault.now (map p_line_view ls)) c.args.lines.now c.loop-line.line-index _ _ c.loop-line-test.false refl
    c.loop-line.invariant.1

pub raise_lines-returns-clause-messages : goal.raise_lines-returns-clause-messages
raise_lines-returns-clause-messages t c =
    put_all (λ ls. all_raised_messages c.args.fault.now (map p_line_view ls)) c.args.lines.now c.loop-line.line-index _ _ c.loop-line-test.false refl
    c.loop-line.invariant.2
