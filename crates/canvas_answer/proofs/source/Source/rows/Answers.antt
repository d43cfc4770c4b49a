use Rattle.std.proofs.Common.{IfOk, subst}
use Rattle.canvas_answer.specs.Raised.{AreShown, class_of, own_class}
use Rattle.canvas_answer.proofs.source.Source.rows.Goals as goal

pub returns-clause-shown : goal.returns-clause-shown
returns-clause-shown g c = λ n numbered.
    let its = c.args.self.now.setting in
    subst
    (λ l. IfOk c.named_rows.result (λ rows. AreShown (class_of c.args.fates.now (own_class its.stubs.now its.errors.now l)) c.args.report.now.rows rows.items))
    c.run.ensures (c.named_rows.ensures.shown n numbered)
