use Rattle.std.proofs.Common.{suc, ◌++◌, subst}
use Rattle.std.proofs.lemmas.Result.{err_from_is_err_and}
use Rattle.canvas_runs.specs.Turns.{rounds}
use Rattle.canvas_engine.specs.steps.TurnRuns.{IsPartOfRound}
use Rattle.canvas_engine.proofs.ByTurns.RoundTurns.{another_round, halt_in_rounds, last_round}
use Rattle.canvas_engine.proofs.by_turns.running.run_rounds.Goals as goal

pub run_round-requires : goal.run_round-requires
run_round-requires g c = let here = c.loop.invariant c.requires.0 c.requires.1 c.requires.2 in (c.requires.0, c.requires.1, _, here.1)

pub loop-smaller : goal.loop-smaller
loop-smaller g c =
    let here = c.loop.invariant c.requires.0 c.requires.1 c.requires.2 in
    let us = c.args.turns.now ++ rounds c.args.workers here.0 in
    let part = c.in_ok-run_round.ensures.ok c.requires.0 c.requires.1 us here.1.0 here.1.1 in
    (subst (λ b. IsPartOfRound
    (g.T.Tasks.behaviour c.args.tasks.now) b c.args.plan.now c.args.workers c.requires.0 c.requires.1 us here.1.0 c.args.workers c.loop.turn_run.steps c.run_round.new.turn_run) c.if-branch.true part).1

pub loop-preserved : goal.loop-preserved
loop-preserved g c = λ most es reached.
    let here = c.loop.invariant most es reached in
    let us = c.args.turns.now ++ rounds c.args.workers here.0 in
    let part = c.in_ok-run_round.ensures.ok most es us here.1.0 here.1.1 in
    let whole = subst (λ b. IsPartOfRound
    (g.T.Tasks.behaviour c.args.tasks.now) b c.args.plan.now c.args.workers most es us here.1.0 c.args.workers c.loop.turn_run.steps c.run_round.new.turn_run) c.if-branch.true part in (
      suc here.0,
      another_round
          (g.T.Tasks.behaviour c.args.tasks.now) c.args.plan.now c.args.workers most es c.args.turns.now here.0 c.run_round.new.turn_run whole.0,
    )

pub returns-clause-ok : goal.returns-clause-ok
returns-clause-ok g c = λ most es reached.
    let here = c.loop.invariant most es reached in
    let us = c.args.turns.now ++ rounds c.args.workers here.0 in
    let part = c.in_ok-run_round.ensures.ok most es us here.1.0 here.1.1 in
    let whole = subst (λ b. IsPartOfRound
    (g.T.Tasks.behaviour c.args.tasks.now) b c.args.plan.now c.args.workers most es us here.1.0 c.args.workers c.loop.turn_run.steps c.run_round.new.turn_run) c.if-branch.false part in
    last_round (g.T.Tasks.behaviour c.args.tasks.now) c.args.plan.now c.args.workers most es c.args.turns.now here.0 here.1.0 c.run_round.new.turn_run
    whole.0 whole.1

pub returns-in_err-run_round-clause-err : goal.returns-in_err-run_round-clause-err
returns-in_err-run_round-clause-err g c =
    let p = err_from_is_err_and c.from_residual.result c.from_residual.ensures.1 in
    rw (p.1, p.2) (λ most es reached.
    let here = c.loop.invariant most es reached in
    let us = c.args.turns.now ++ rounds c.args.workers here.0 in
    halt_in_rounds (g.T.Tasks.behaviour c.args.tasks.now) c.args.plan.now c.args.workers most es c.args.turns.now
    c.in_err-run_round.field-0.0 here.0 c.run_round.new.turn_run
    (c.in_err-run_round.ensures.err most es us here.1.0 here.1.1))
