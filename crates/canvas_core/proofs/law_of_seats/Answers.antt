use Rattle.canvas_core.proofs.Rights.Seats.{can_ask, can_go_on}
use Rattle.canvas_core.proofs.law_of_seats.Goals as goal

pub returns-clause-allows : goal.returns-clause-allows
returns-clause-allows c = can_ask

pub returns-clause-goes_on : goal.returns-clause-goes_on
returns-clause-goes_on c = can_go_on
