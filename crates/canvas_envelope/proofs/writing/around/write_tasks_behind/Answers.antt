use Rattle.std.proofs.Common.{◌∙◌, ◌++◌, append-nil, refl, sym, ap}
use Rattle.canvas_values.proofs.Written.Writers.{after_ok}
use Rattle.canvas_envelope.proofs.Written.AroundLines.{one_behind, more_behind, none_behind}
use Rattle.canvas_envelope.proofs.writing.around.write_tasks_behind.Goals as goal

pub returns-then-is_empty : goal.returns-then-is_empty
returns-then-is_empty c =
    let same = one_behind c.args.tasks.now c.in-Some.others.now c.in-Some.last.now c.in-Some.ensures.cases.0
    (sym c.is_empty.ensures ∙ c.if-is_empty.true) in
    let written = c.in_ok-write_task_behind-in-Some.ensures in
    (written.0 ∙ ap (λ ts. c.args.out.now.tokens ++ ts) same, written.1)

pub returns-else-is_empty : goal.returns-else-is_empty
returns-else-is_empty c =
    after_ok c.write_chain_behind.result c.args.out.now c.write_task_behind.new.out c.write_chain_behind.new.out _ _ _
    c.in_ok-write_task_behind-in-Some.ensures c.write_chain_behind.ensures
    (more_behind c.args.tasks.now c.in-Some.others.now c.in-Some.last.now c.in-Some.ensures.cases.0 (sym c.is_empty.ensures ∙ c.if-is_empty.false))

pub returns-in-None : goal.returns-in-None
returns-in-None c =
    (sym (ap (λ ts. c.args.out.now.tokens ++ ts) (none_behind c.args.tasks.now c.in-None.ensures.cases) ∙ append-nil c.args.out.now.tokens), refl)
