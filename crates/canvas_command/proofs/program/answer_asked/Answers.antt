use Rattle.std.proofs.Common.{ap}
use Rattle.canvas_command.proofs.Wording.{with_stubs}
use Rattle.canvas_command.proofs.program.answer_asked.Goals as goal

pub returns : goal.returns
returns g c =
    with_stubs (g.R.Read.remaining c.args.input.now) (g.R.Read.remaining c.read.new.input) (g.T.Tasks.behaviour c.args.tasks.now)
    c.args.request.now c.args.stubs c.in_ok-answers.answers c.answer_request.result
    (λ is. ap (λ i. g.R.Read.remaining i) (c.read.ensures.kept (c.takes_input_twice.ensures c.if-takes_input_twice.false is)))
    c.in_ok-answers.ensures.answers c.answer_request.ensures
