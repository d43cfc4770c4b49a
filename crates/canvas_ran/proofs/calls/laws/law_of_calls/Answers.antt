use Rattle.canvas_ran.proofs.Called.AfterEnds.{after_ends}
use Rattle.canvas_ran.proofs.Called.SameCalls.{give_the_same}
use Rattle.canvas_ran.proofs.calls.laws.law_of_calls.Goals as goal

pub returns-clause-same : goal.returns-clause-same
returns-clause-same c = give_the_same

pub returns-clause-after : goal.returns-clause-after
returns-clause-after c = after_ends
