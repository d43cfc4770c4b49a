use Rattle.std.proofs.Common.{◌∙◌, [], ◌∷◌, ◌++◌, codes, append-nil, refl, sym, ap}
use Rattle.json.specs.Token.{key}
use Rattle.canvas_values.proofs.Written.Writers.{after_ok, then_tokens}
use Rattle.canvas_envelope.specs.steps.Around.{line_before}
use Rattle.canvas_envelope.proofs.Written.TaskTokens.{alike}
use Rattle.canvas_envelope.proofs.Written.AroundLines.{group_before, chord_before_is, only_end, only_tasks, long_end_before}
use Rattle.canvas_envelope.proofs.writing.around.+before.Goals as goal

pub write_end_before-returns-in_ok-key-in-Some : goal.write_end_before-returns-in_ok-key-in-Some
write_end_before-returns-in_ok-key-in-Some t c =
    let named = then_tokens c.args.out.now c.write_opening.new.out c.key.new.self _ (key (codes "body") ∷ []) c.in_ok-write_opening-in-Some.ensures
    (c.in_ok-key-in-Some.ensures.ok, c.in_ok-key-in-Some.ensures.room.0) in
    after_ok c.write_line_before.result c.args.out.now c.key.new.self c.write_line_before.new.out _ _ _ named c.write_line_before.ensures
    (chord_before_is c.args.size c.args.end.now c.in-Some.body c.in-Some.is)

pub write_end_before-returns-in-None : goal.write_end_before-returns-in-None
write_end_before-returns-in-None t c =
    (sym (ap (λ ts. c.args.out.now.tokens ++ ts) (group_before c.args.size c.args.end.now c.in-None.is) ∙ append-nil c.args.out.now.tokens), refl)

pub write_line_before-returns-then-is_empty : goal.write_line_before-returns-then-is_empty
write_line_before-returns-then-is_empty t c =
    alike c.write_end_before.result c.args.out.now c.write_end_before.new.out _ _
    (only_end c.args.line.now c.as_slice-tasks.result.now (c.as_slice-tasks.ensures.value ∙ c.get.ensures) (line_before c.args.size) c.in-Some.end
    c.deref.result.now c.in-Some.is c.deref.ensures (sym c.is_empty.ensures ∙ c.if-is_empty.true))
    c.write_end_before.ensures

pub write_line_before-returns-in_ok-write_chain_before-in-Some : goal.write_line_before-returns-in_ok-write_chain_before-in-Some
write_line_before-returns-in_ok-write_chain_before-in-Some t c =
    after_ok c.write_end_before-in-Some.result c.args.out.now c.write_chain_before.new.out c.write_end_before-in-Some.new.out _ _ _
    c.in_ok-write_chain_before-in-Some.ensures c.write_end_before-in-Some.ensures
    (long_end_before c.args.line.now c.as_slice-tasks.result.now (c.as_slice-tasks.ensures.value ∙ c.get.ensures) c.args.size c.in-Some.end
    c.deref-in-Some.result.now c.in-Some.is c.deref-in-Some.ensures (sym c.is_empty.ensures ∙ c.if-is_empty.false))

pub write_line_before-returns-in-None : goal.write_line_before-returns-in-None
write_line_before-returns-in-None t c =
    alike c.write_tasks_before.result c.args.out.now c.write_tasks_before.new.out _ _
    (only_tasks c.args.line.now c.as_slice-tasks.result.now (c.as_slice-tasks.ensures.value ∙ c.get.ensures) (line_before c.args.size) c.in-None.is)
    c.write_tasks_before.ensures
