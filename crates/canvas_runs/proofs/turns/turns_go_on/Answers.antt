use Rattle.canvas_runs.proofs.ByTurns.TurnWays.{turns_under_way}
use Rattle.canvas_runs.proofs.turns.turns_go_on.Goals as goal

pub returns : goal.returns
returns c = turns_under_way
