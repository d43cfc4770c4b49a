use Rattle.std.proofs.Common.{◌∙◌, ◌++◌, append-nil, refl, sym, ap}
use Rattle.canvas_values.proofs.Written.Writers.{after_ok}
use Rattle.canvas_envelope.specs.steps.Around.{line_behind}
use Rattle.canvas_envelope.proofs.Written.TaskTokens.{alike}
use Rattle.canvas_envelope.proofs.Written.AroundLines.{group_behind, chord_behind_is, only_end, only_tasks, long_end_behind}
use Rattle.canvas_envelope.proofs.writing.around.+behind.Goals as goal

pub write_end_behind-returns-in_ok-write_line_behind-in-Some : goal.write_end_behind-returns-in_ok-write_line_behind-in-Some
write_end_behind-returns-in_ok-write_line_behind-in-Some t c =
    after_ok c.write_rest.result c.args.out.now c.write_line_behind.new.out c.write_rest.new.out _ _ _
    c.in_ok-write_line_behind-in-Some.ensures c.write_rest.ensures (chord_behind_is c.args.end.now c.in-Some.body c.in-Some.is)

pub write_line_behind-returns-else-is_empty : goal.write_line_behind-returns-else-is_empty
write_line_behind-returns-else-is_empty t c =
    after_ok c.write_chain_behind.result c.args.out.now c.write_end_behind.new.out c.write_chain_behind.new.out _ _ _
    c.in_ok-write_end_behind-in-Some.ensures c.write_chain_behind.ensures
    (long_end_behind c.args.line.now c.as_slice-tasks.result.now (c.as_slice-tasks.ensures.value ∙ c.get.ensures) c.in-Some.end c.deref.result.now
    c.in-Some.is c.deref.ensures (sym c.is_empty.ensures ∙ c.if-is_empty.false))

pub write_end_behind-returns-in-None : goal.write_end_behind-returns-in-None
write_end_behind-returns-in-None t c =
    (sym (ap (λ ts. c.args.out.now.tokens ++ ts) (group_behind c.args.end.now c.in-None.is) ∙ append-nil c.args.out.now.tokens), refl)

pub write_line_behind-returns-then-is_empty : goal.write_line_behind-returns-then-is_empty
write_line_behind-returns-then-is_empty t c =
    let same = only_end c.args.line.now c.as_slice-tasks.result.now (c.as_slice-tasks.ensures.value ∙ c.get.ensures) line_behind c.in-Some.end
    c.deref.result.now c.in-Some.is c.deref.ensures (sym c.is_empty.ensures ∙ c.if-is_empty.true) in
    let written = c.in_ok-write_end_behind-in-Some.ensures in
    (written.0 ∙ ap (λ ts. c.args.out.now.tokens ++ ts) same, written.1)

pub write_line_behind-returns-in-None : goal.write_line_behind-returns-in-None
write_line_behind-returns-in-None t c =
    alike c.write_tasks_behind.result c.args.out.now c.write_tasks_behind.new.out _ _
    (only_tasks c.args.line.now c.as_slice-tasks.result.now (c.as_slice-tasks.ensures.value ∙ c.get.ensures) line_behind c.in-None.is)
    c.write_tasks_behind.ensures
