use Rattle.std.proofs.Common.{refl, subst, sym}
use Rattle.canvas_command.specs.Worded.{IsToldAs}
use Rattle.canvas_command.proofs.Wording.{from_err, from_ok, told_done}
use Rattle.canvas_command.proofs.program.told_asked.Goals as goal
use Rattle.canvas_command.proofs.program.told_asked.Goals.{in-Ok, in-Err}

pub returns-else-request : goal.returns-else-request
returns-else-request g c =
    let behaviour = g.T.Tasks.behaviour c.args.tasks.now in
    let input = g.R.Read.remaining c.args.input.now in
    let request = c.args.request.now in
    let answer = c.match-answer_asked.answer in
    told_done behaviour input request c.args.stubs answer answer
    (subst (λ json. IsToldAs json answer answer) (sym c.if-request.false) refl)
    (elim c.match-answer_asked.branch [
      | in-Ok w ↦ from_ok behaviour input request c.args.stubs c.answer_asked.result w.in-Ok.answer answer w.in-Ok.is w.answer-is c.answer_asked.ensures
      | in-Err w ↦ from_err behaviour input request c.args.stubs w.refused-answer.result answer w.in-Err.refusal w.answer-is w.refused-answer.ensures
    ])

pub returns-then-request : goal.returns-then-request
returns-then-request g c =
    let behaviour = g.T.Tasks.behaviour c.args.tasks.now in
    let input = g.R.Read.remaining c.args.input.now in
    let request = c.args.request.now in
    let answer = c.match-answer_asked.answer in
    let same = c.in_json.ensures.same in
    told_done behaviour input request c.args.stubs answer c.in_json.result
    (subst (λ json. IsToldAs json answer c.in_json.result) (sym c.if-request.true) (same.0, same.2, c.in_json.ensures.refusal))
    (elim c.match-answer_asked.branch [
      | in-Ok w ↦ from_ok behaviour input request c.args.stubs c.answer_asked.result w.in-Ok.answer answer w.in-Ok.is w.answer-is c.answer_asked.ensures
      | in-Err w ↦ from_err behaviour input request c.args.stubs w.refused-answer.result answer w.in-Err.refusal w.answer-is w.refused-answer.ensures
    ])
