use Rattle.canvas_adapt.proofs.Stubbing.Splits.{split_or_not}
use Rattle.canvas_adapt.proofs.stubs.reading.split.Goals as goal

pub returns : goal.returns
returns c = split_or_not c.args.text.now c.rsplit_once.result c.rsplit_once.ensures.cases
