use Rattle.std.proofs.Common.{◌∙◌, ◌++◌, append-nil, refl, sym, ap}
use Rattle.canvas_envelope.specs.steps.Around.{last_before}
use Rattle.canvas_envelope.proofs.Written.TaskTokens.{alike}
use Rattle.canvas_envelope.proofs.Written.AroundLines.{last_before_end, last_before_task, nothing_there}
use Rattle.canvas_envelope.proofs.writing.around.write_last_before.Goals as goal

pub returns-in-Some : goal.returns-in-Some
returns-in-Some c =
    alike c.write_end_before.result c.args.out.now c.write_end_before.new.out _ _
    (last_before_end c.args.line.now c.in-Some.end c.deref.result.now c.in-Some.is c.deref.ensures) c.write_end_before.ensures

pub returns-in-Some-split_last : goal.returns-in-Some-split_last
returns-in-Some-split_last c =
    alike c.write_task_before.result c.args.out.now c.write_task_before.new.out _ _
    (last_before_task c.args.line.now c.deref-in-None.result.now c.in-Some-split_last._others.now c.in-Some-split_last.last.now c.in-None.is
    (c.deref-in-None.ensures.value ∙ c.get.ensures) c.in-Some-split_last.ensures.cases.0)
    c.write_task_before.ensures

pub returns-in-None-split_last : goal.returns-in-None-split_last
returns-in-None-split_last c =
    let none = sym (nothing_there c.args.line.now last_before c.deref-in-None.result.now c.in-None.is (c.deref-in-None.ensures.value ∙ c.get.ensures)
    c.in-None-split_last.ensures.cases) in
    (sym (ap (λ ts. c.args.out.now.tokens ++ ts) none ∙ append-nil c.args.out.now.tokens), refl)
