use Rattle.std.proofs.Common.{rules, arith, ◌≡◌, ◌∙◌, length, sym, ap, Some, None, true, false}
use Rattle.std.proofs.lemmas.Slice.Eq.{bytes_eq-Decides}
use Rattle.canvas_celery.specs.Run.{run_task}
use Rattle.canvas_celery.proofs.Collected.Identifiers.{full}
use Rattle.canvas_celery.proofs.results.named.task_named.Goals as goal

pub returns-in_err-number_in : goal.returns-in_err-number_in
returns-in_err-number_in c =
    let as_long : length c.args.run.now.digits ≡ 22 = full c.digits-digits.result c.args.run.now.digits c.digits-digits.ensures (search rules) in
    rw c.from_residual.ensures
    (λ k least most named.
    let none : None ≡ Some k = c.in_err-number_in.ensures c.args.run.now.digits k as_long (omega arith) named in
    absurd cc)

pub returns-in_err-task : goal.returns-in_err-task
returns-in_err-task c =
    let as_long : length c.args.run.now.digits ≡ 22 = full c.digits-digits.result c.args.run.now.digits c.digits-digits.ensures (search rules) in
    rw c.from_residual-in_err-task.ensures
    (λ k least most named.
    let found : Some c.in_ok-number_in.field-0 ≡ Some k = c.in_ok-number_in.ensures c.args.run.now.digits k as_long (omega arith) named in
    let same : c.in_ok-number_in.field-0 ≡ k = cc in
    absurd (omega (arith, same, c.in_err-task.ensures)))

pub returns-then-tasks-get : goal.returns-then-tasks-get
returns-then-tasks-get c k least most named =
    let as_long : length c.args.run.now.digits ≡ 22 = full c.digits-digits.result c.args.run.now.digits c.digits-digits.ensures (search rules) in
    let found : Some c.in_ok-number_in.field-0 ≡ Some k = c.in_ok-number_in.ensures c.args.run.now.digits k as_long (omega arith) named in
    let same : c.in_ok-number_in.field-0 ≡ k = cc in
    absurd (omega (arith, same, c.in_ok-task.ensures.0))

pub returns-else-eq : goal.returns-else-eq
returns-else-eq c k least most named =
    let as_long : length c.args.run.now.digits ≡ 22 = full c.digits-digits.result c.args.run.now.digits c.digits-digits.ensures (search rules) in
    let found : Some c.in_ok-number_in.field-0 ≡ Some k = c.in_ok-number_in.ensures c.args.run.now.digits k as_long (omega arith) named in
    let number : c.in_ok-number_in.field-0 ≡ k = cc in
    let same : c.in_ok-task.task ≡ k = c.in_ok-task.ensures.0 ∙ number in
    let text : c.as_slice.result.now ≡ c.args.id.now =
    c.as_slice.ensures ∙ (c.task_text-text.ensures.value ∙ (ap (λ n. run_task c.args.run.now.digits n) same ∙ sym named)) in
    let bad : false ≡ true = c.if-eq.ensures ∙ (bytes_eq-Decides c.as_slice.result.now c.args.id.now).1 text in
    absurd cc
