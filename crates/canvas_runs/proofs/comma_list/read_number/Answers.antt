use Rattle.canvas_runs.proofs.ListTexts.CommaTexts.{not_plain, number_or_not}
use Rattle.canvas_runs.proofs.comma_list.read_number.Goals as goal

pub returns-then-begins_plainly : goal.returns-then-begins_plainly
returns-then-begins_plainly c = number_or_not c.args.text.now c.parse.result c.ok.result c.if-begins_plainly.ensures c.parse.ensures.value.0 c.ok.ensures.value

pub returns-else-begins_plainly : goal.returns-else-begins_plainly
returns-else-begins_plainly c = λ k. not_plain k c.args.text.now c.if-begins_plainly.ensures
