use Rattle.std.proofs.Common.{true, false}
use Rattle.std.proofs.lemmas.Result.{err_from_is_err_and}
use Rattle.canvas_runs.specs.Core as C
use Rattle.canvas_core.specs.declared.ask.Reply.TheVariants as R
use Rattle.canvas_worker.specs.Polls.{WorkerView}
use Rattle.canvas_worker.proofs.Polls.ToldAnswers.{rest_asks, asked_well, asked_badly, rests_well}
use Rattle.canvas_worker.proofs.working.Working.rest.Goals as goal

pub returns-then-has_more-clause-acted : goal.returns-then-has_more-clause-acted
returns-then-has_more-clause-acted g c =
    let w : WorkerView = c.args.self.now in
    asked_well (g.T.Tasks.behaviour c.args.tasks.now) w w c.answer.new.self C.rest (R.Rested true) c.answer.result c.answer.ensures.value c.requires.ready
    (rest_asks (g.T.Tasks.behaviour c.args.tasks.now) w true c.requires.ready c.requires.asks c.requires.reads_back)

pub returns-clause-acted : goal.returns-clause-acted
returns-clause-acted g c =
    let w : WorkerView = c.args.self.now in
    rests_well (g.T.Tasks.behaviour c.args.tasks.now) w w c.answer-2.new.self c.in_ok-answer.ensures.value c.requires.ready
    (rest_asks (g.T.Tasks.behaviour c.args.tasks.now) w false c.requires.ready c.requires.asks c.requires.reads_back)

pub returns-in_err-answer-clause-acted : goal.returns-in_err-answer-clause-acted
returns-in_err-answer-clause-acted g c =
    let w : WorkerView = c.args.self.now in
    let p = err_from_is_err_and c.from_residual.result c.from_residual.ensures.1 in
    rw (p.1, p.2)
    (asked_badly (g.T.Tasks.behaviour c.args.tasks.now) w w c.answer-2.new.self C.rest (R.Rested false) c.in_err-answer.field-0.0
    c.in_err-answer.ensures.value c.requires.ready
    (rest_asks (g.T.Tasks.behaviour c.args.tasks.now) w false c.requires.ready c.requires.asks c.requires.reads_back))
