use Rattle.canvas_runs.proofs.ByTurns.ChordTurns.{stands, none_hasty}
use Rattle.canvas_runs.proofs.turns.turns_of_a_chord.Goals as goal

pub returns-clause-stands : goal.returns-clause-stands
returns-clause-stands c = stands

pub returns-clause-none_hasty : goal.returns-clause-none_hasty
returns-clause-none_hasty c = λ us t. none_hasty us t
