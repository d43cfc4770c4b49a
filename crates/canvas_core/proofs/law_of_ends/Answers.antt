use Rattle.canvas_core.proofs.Cores.EndLaw.{end_stays, failing_ends, ends_behind, fails_behind}
use Rattle.canvas_core.proofs.law_of_ends.Goals as goal

pub returns-clause-stays : goal.returns-clause-stays
returns-clause-stays c = end_stays

pub returns-clause-fails : goal.returns-clause-fails
returns-clause-fails c = failing_ends

pub returns-clause-behind : goal.returns-clause-behind
returns-clause-behind c = ends_behind

pub returns-clause-failing : goal.returns-clause-failing
returns-clause-failing c = fails_behind
