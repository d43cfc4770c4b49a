use Rattle.std.proofs.Common.{◌∙◌, ◌++◌, append-nil, refl, sym, ap}
use Rattle.canvas_values.proofs.Written.Writers.{after_ok}
use Rattle.canvas_envelope.proofs.Written.TaskTokens.{alike}
use Rattle.canvas_envelope.proofs.Written.AroundLines.{one_before, more_before, none_before}
use Rattle.canvas_envelope.proofs.writing.around.write_tasks_before.Goals as goal

pub returns-then-is_empty : goal.returns-then-is_empty
returns-then-is_empty c =
    alike c.write_task_before.result c.args.out.now c.write_task_before.new.out _ _
    (one_before c.args.tasks.now c.in-Some.others.now c.in-Some.last.now c.in-Some.ensures.cases.0 c.args.size
    (sym c.is_empty.ensures ∙ c.if-is_empty.true))
    c.write_task_before.ensures

pub returns-in_ok-write_chain_before-in-Some : goal.returns-in_ok-write_chain_before-in-Some
returns-in_ok-write_chain_before-in-Some c =
    after_ok c.write_task_before-in-Some.result c.args.out.now c.write_chain_before.new.out c.write_task_before-in-Some.new.out _ _ _
    c.in_ok-write_chain_before-in-Some.ensures c.write_task_before-in-Some.ensures
    (more_before c.args.tasks.now c.in-Some.others.now c.in-Some.last.now c.in-Some.ensures.cases.0 c.args.size
    (sym c.is_empty.ensures ∙ c.if-is_empty.false))

pub returns-in-None : goal.returns-in-None
returns-in-None c =
    (sym (ap (λ ts. c.args.out.now.tokens ++ ts) (none_before c.args.size c.args.tasks.now c.in-None.ensures.cases) ∙ append-nil c.args.out.now.tokens), refl)
