use Rattle.canvas_adapt.proofs.Stubbing.WordNumbers.{parsed}
use Rattle.canvas_adapt.proofs.stubs.word.value_of.Goals as goal

pub returns : goal.returns
returns c = parsed c.args.word.now c.parse.result c.ok.result c.requires c.parse.ensures.value.0 c.ok.ensures.value
