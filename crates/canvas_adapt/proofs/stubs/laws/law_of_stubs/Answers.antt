use Rattle.canvas_adapt.proofs.Stubbing.TheLaws.{stub_laws}
use Rattle.canvas_adapt.proofs.stubs.laws.law_of_stubs.Goals as goal

pub returns : goal.returns
returns c = stub_laws
