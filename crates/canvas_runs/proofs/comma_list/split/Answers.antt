use Rattle.std.proofs.Common.{arith}
use Rattle.canvas_runs.proofs.ListTexts.CommaTexts.{split_or_not}
use Rattle.canvas_runs.proofs.comma_list.split.Goals as goal

pub returns : goal.returns
returns c = split_or_not c.args.text.now c.split_once.result (c.split_once.ensures.byte (omega arith) (λ w o f. f))
