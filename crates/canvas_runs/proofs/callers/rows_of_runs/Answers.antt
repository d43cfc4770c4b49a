use Rattle.canvas_runs.proofs.ByCallers.Rows.{rows_of_well, rows_of_any}
use Rattle.canvas_runs.proofs.ByCallers.Tallies.{tallies_count}
use Rattle.canvas_runs.proofs.ByCallers.Witness.{stands}
use Rattle.canvas_runs.proofs.callers.rows_of_runs.Goals as goal

pub returns-clause-well : goal.returns-clause-well
returns-clause-well c = λ behaviour l plan pass seat rows r. rows_of_well behaviour l plan pass seat rows r

pub returns-clause-any : goal.returns-clause-any
returns-clause-any c = λ behaviour l plan pass seat rows r. rows_of_any behaviour l plan pass seat rows r

pub returns-clause-tallies : goal.returns-clause-tallies
returns-clause-tallies c = λ behaviour l plan pass seat r w own o. tallies_count behaviour l plan pass seat r w own o

pub returns-clause-one : goal.returns-clause-one
returns-clause-one c = stands
