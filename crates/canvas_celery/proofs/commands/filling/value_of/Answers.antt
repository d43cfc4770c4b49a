use Rattle.json.specs.Value.{value_view}
use Rattle.canvas_celery.proofs.Exported.FilledTokens.{value_read, number_kept}
use Rattle.canvas_celery.proofs.commands.filling.value_of.Goals as goal

pub returns-then-number-values-clause-value : goal.returns-then-number-values-clause-value
returns-then-number-values-clause-value c =
    let number = c.in_ok-number.ensures in
    value_read value_view c.args.values.now c.args.text.now c.in_ok-number.number c.index-values-number.result c.index-values-number.result number.0 number.1
    c.if-number-values.true c.index-values-number.is

pub returns-then-number-values-clause-numbers : goal.returns-then-number-values-clause-numbers
returns-then-number-values-clause-numbers c =
    number_kept value_view c.args.values.now c.in_ok-number.number c.index-values-number.result c.index-values-number.result c.requires
    c.if-number-values.true c.index-values-number.is
