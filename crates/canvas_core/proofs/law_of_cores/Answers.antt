use Rattle.canvas_core.proofs.Cores.CoreLaw.{cores_are_workers}
use Rattle.canvas_core.proofs.law_of_cores.Goals as goal

pub returns : goal.returns
returns c = cores_are_workers
