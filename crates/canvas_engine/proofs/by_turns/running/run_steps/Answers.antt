use Rattle.std.proofs.Common.{refl, sym, subst, map}
use Rattle.canvas_engine.specs.Noted.{step_seen}
use Rattle.canvas_engine.specs.steps.AgainRuns.{IsNotedWithin}
use Rattle.canvas_engine.specs.steps.TurnRuns.{IsRunThrough, IsEarlyEnd}
use Rattle.canvas_engine.proofs.ByTurns.WholeRuns.{noted_rows, early_fault}
use Rattle.canvas_engine.proofs.by_turns.running.run_steps.Goals as goal

pub returns-in-Ok-run_through-clause-ok : goal.returns-in-Ok-run_through-clause-ok
returns-in-Ok-run_through-clause-ok g c =
    let behaviour = g.T.Tasks.behaviour c.args.tasks.now in
    let asked = c.args.schedule.now in
    let begun = c.in-Ok-new.turn_run in
    let ended = c.run_through.new.turn_run in
    let by_again = subst (λ es. IsRunThrough behaviour c.args.plan.now asked.workers begun.steps (es, begun.notes.keeps) asked.turns.now ended)
    c.in-Ok-new.ensures.again c.in-Ok-run_through.ensures.ok in
    let by_keeps = subst (λ b. IsRunThrough behaviour c.args.plan.now asked.workers begun.steps (asked.again.now, b) asked.turns.now ended)
    c.in-Ok-new.ensures.keeps by_again in
    let through = subst (λ most. IsRunThrough behaviour c.args.plan.now asked.workers most (asked.again.now, asked.keeps) asked.turns.now ended)
    c.in-Ok-new.ensures.steps by_keeps in
    let whole = noted_rows behaviour c.args.plan.now asked.workers asked.steps asked.turns.now asked.again.now asked.keeps c.report_of.result.rows ended
    c.report_of.ensures c.requires.0.0 c.in-Ok-new.ensures.few through in
    subst (λ m. IsNotedWithin behaviour c.args.plan.now asked.workers asked.turns.now asked.again.now asked.steps asked.keeps c.report_of.result.rows m
    (map step_seen c.into_steps.result.items)) (sym c.repeats.ensures)
    (subst (λ v. IsNotedWithin behaviour c.args.plan.now asked.workers asked.turns.now asked.again.now asked.steps asked.keeps c.report_of.result.rows
    ended.repeats (map step_seen v.items)) (sym c.into_steps.ensures) whole)

pub returns-in-Err-clause-err : goal.returns-in-Err-clause-err
returns-in-Err-clause-err g c =
    let behaviour = g.T.Tasks.behaviour c.args.tasks.now in
    let asked = c.args.schedule.now in
    let begun = c.in-Ok-new.turn_run in
    let ended = c.run_through.new.turn_run in
    let cause = c.in-Err.cause in
    let by_again = subst (λ es. IsEarlyEnd behaviour cause c.args.plan.now asked.workers begun.steps (es, begun.notes.keeps) asked.turns.now ended)
    c.in-Ok-new.ensures.again c.in-Err.ensures.err in
    let early = subst (λ most. IsEarlyEnd behaviour cause c.args.plan.now asked.workers most (asked.again.now, begun.notes.keeps) asked.turns.now ended)
    c.in-Ok-new.ensures.steps by_again in
    early_fault behaviour c.args.plan.now asked.workers asked.steps asked.turns.now asked.again.now begun.notes.keeps _ ended
    c.report_of-in-Err.ensures cause c.report_of-in-Err.result refl c.in-Ok.ensures.planned c.requires early
