use Rattle.std.proofs.Common.{rules, ◌≡◌, arith, codes, length, sym, ◌∙◌}
use Rattle.canvas_semantics.specs.Line.{count_line}
use Rattle.canvas_celery.specs.Run.{run_task}
use Rattle.canvas_celery.proofs.Collected.Dependency.{in_parts, parts_of}
use Rattle.canvas_celery.proofs.Collected.Identifiers.{full}
use Rattle.canvas_celery.proofs.results.stored.blame_in.Goals as goal

pub returns : goal.returns
returns c =
    let dep = c.in_ok-dep.ensures in
    let raised = c.in_ok-raised.raised.now in
    let said =
    in_parts (codes "Dependency ") c.in_ok-text.text.now (run_task c.args.run.now.digits c.in_ok-dep.dep)
    (codes " raised ") raised c.args.message.now 36 c.in_ok-text.ensures
    (sym c.split_at.ensures.front ∙ dep.0) (sym c.split_at.ensures.back ∙ c.in_ok-raised.ensures) in
    (dep.1, dep.2, (raised, said, sym c.split_at_byte.ensures.before))

pub returns-in_err-text : goal.returns-in_err-text
returns-in_err-text c = rw c.from_residual.ensures (λ dep name b. c.in_err-text.ensures _ b.2.1)

pub returns-then-text-lt36 : goal.returns-then-text-lt36
returns-then-text-lt36 c dep name b =
    let as_long : length c.args.run.now.digits ≡ 22 = full c.digits-digits.result c.args.run.now.digits c.digits-digits.ensures (search rules) in
    let parts = parts_of c.args.run.now.digits c.in_ok-text.text.now c.args.message.now (count_line c.args.plan.now) dep name as_long c.in_ok-text.ensures b in
    absurd (omega (arith, parts.long))

pub returns-in_err-dep : goal.returns-in_err-dep
returns-in_err-dep c =
    let as_long : length c.args.run.now.digits ≡ 22 = full c.digits-digits.result c.args.run.now.digits c.digits-digits.ensures (search rules) in
    rw c.from_residual-in_err-dep.ensures
    (λ dep name b.
    let parts = parts_of c.args.run.now.digits c.in_ok-text.text.now c.args.message.now (count_line c.args.plan.now) dep name as_long c.in_ok-text.ensures b in
    c.in_err-dep.ensures dep parts.least parts.within (c.split_at.ensures.front ∙ parts.named))

pub returns-in_err-raised : goal.returns-in_err-raised
returns-in_err-raised c =
    let as_long : length c.args.run.now.digits ≡ 22 = full c.digits-digits.result c.args.run.now.digits c.digits-digits.ensures (search rules) in
    rw c.from_residual-in_err-raised.ensures
    (λ dep name b.
    let parts = parts_of c.args.run.now.digits c.in_ok-text.text.now c.args.message.now (count_line c.args.plan.now) dep name as_long c.in_ok-text.ensures b in
    c.in_err-raised.ensures parts.raised.0 (c.split_at.ensures.back ∙ parts.raised.1))
