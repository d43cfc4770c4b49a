use Rattle.std.proofs.lemmas.Result.{err_from_is_err_and}
use Rattle.canvas_engine.specs.steps.TurnRuns.{HasReached, IsRunThrough, IsEarlyEnd}
use Rattle.canvas_engine.proofs.ByTurns.WholeRuns.{starts, ok_at, err_at}
use Rattle.canvas_engine.proofs.by_turns.running.run_through.Goals as goal

pub run_list-requires-clause-reached : goal.run_list-requires-clause-reached
run_list-requires-clause-reached g c = (
  c.args.turn_run.now.steps,
  (c.args.turn_run.now.again.items, c.args.turn_run.now.notes.keeps),
  starts (g.T.Tasks.behaviour c.args.tasks.now) c.args.plan.now c.args.workers c.args.turn_run.now c.open.new.self c.requires.planned c.requires.new c.in-Ok.ensures.queue c.in-Ok.ensures.back c.open.ensures.others.0 c.open.ensures.others.1 c.open.ensures.others.2 c.open.ensures.entries.0 c.open.ensures.entries.1 c.in-Ok.ensures.noted,
)

pub run_rounds-requires : goal.run_rounds-requires
run_rounds-requires g c = (
  c.args.turn_run.now.steps,
  (c.args.turn_run.now.again.items, c.args.turn_run.now.notes.keeps),
  c.in_ok-run_list.ensures.ok c.args.turn_run.now.steps (c.args.turn_run.now.again.items, c.args.turn_run.now.notes.keeps)
      (starts (g.T.Tasks.behaviour c.args.tasks.now) c.args.plan.now c.args.workers c.args.turn_run.now c.open.new.self c.requires.planned c.requires.new c.in-Ok.ensures.queue c.in-Ok.ensures.back c.open.ensures.others.0 c.open.ensures.others.1 c.open.ensures.others.2 c.open.ensures.entries.0 c.open.ensures.entries.1 c.in-Ok.ensures.noted),
)

pub returns-clause-ok : goal.returns-clause-ok
returns-clause-ok g c =
    ok_at c.run_rounds.result
    (λ m es. HasReached (g.T.Tasks.behaviour c.args.tasks.now) c.args.plan.now c.args.workers m es c.args.turns.now c.run_list.new.turn_run)
    (λ m es. IsRunThrough (g.T.Tasks.behaviour c.args.tasks.now) c.args.plan.now c.args.workers m es c.args.turns.now c.run_rounds.new.turn_run) c.args.turn_run.now.steps (c.args.turn_run.now.again.items, c.args.turn_run.now.notes.keeps)
    (c.in_ok-run_list.ensures.ok c.args.turn_run.now.steps (c.args.turn_run.now.again.items, c.args.turn_run.now.notes.keeps)
    (starts (g.T.Tasks.behaviour c.args.tasks.now) c.args.plan.now c.args.workers c.args.turn_run.now c.open.new.self c.requires.planned c.requires.new c.in-Ok.ensures.queue c.in-Ok.ensures.back c.open.ensures.others.0 c.open.ensures.others.1 c.open.ensures.others.2 c.open.ensures.entries.0 c.open.ensures.entries.1 c.in-Ok.ensures.noted)) c.run_rounds.ensures.ok

pub returns-clause-err : goal.returns-clause-err
returns-clause-err g c =
    err_at c.run_rounds.result
    (λ m es. HasReached (g.T.Tasks.behaviour c.args.tasks.now) c.args.plan.now c.args.workers m es c.args.turns.now c.run_list.new.turn_run)
    (λ cause m es. IsEarlyEnd (g.T.Tasks.behaviour c.args.tasks.now) cause c.args.plan.now c.args.workers m es c.args.turns.now c.run_rounds.new.turn_run)
    c.args.turn_run.now.steps (c.args.turn_run.now.again.items, c.args.turn_run.now.notes.keeps)
    (c.in_ok-run_list.ensures.ok c.args.turn_run.now.steps (c.args.turn_run.now.again.items, c.args.turn_run.now.notes.keeps)
    (starts (g.T.Tasks.behaviour c.args.tasks.now) c.args.plan.now c.args.workers c.args.turn_run.now c.open.new.self c.requires.planned c.requires.new c.in-Ok.ensures.queue c.in-Ok.ensures.back c.open.ensures.others.0 c.open.ensures.others.1 c.open.ensures.others.2 c.open.ensures.entries.0 c.open.ensures.entries.1 c.in-Ok.ensures.noted)) c.run_rounds.ensures.err

pub returns-in_err-run_list-clause-err : goal.returns-in_err-run_list-clause-err
returns-in_err-run_list-clause-err g c =
    let p = err_from_is_err_and c.from_residual.result c.from_residual.ensures.1 in
    rw (p.1, p.2)
    (c.in_err-run_list.ensures.err c.args.turn_run.now.steps (c.args.turn_run.now.again.items, c.args.turn_run.now.notes.keeps)
    (starts (g.T.Tasks.behaviour c.args.tasks.now) c.args.plan.now c.args.workers c.args.turn_run.now c.open.new.self c.requires.planned c.requires.new c.in-Ok.ensures.queue c.in-Ok.ensures.back c.open.ensures.others.0 c.open.ensures.others.1 c.open.ensures.others.2 c.open.ensures.entries.0 c.open.ensures.entries.1 c.in-Ok.ensures.noted))
