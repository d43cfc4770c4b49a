use Rattle.std.proofs.Common.{refl}
use Rattle.canvas_runs.proofs.ByCallers.Closing.{closing_held}
use Rattle.canvas_runs.proofs.ByCallers.FromCallerRuns.{passes, seats, the_run, the_closed}
use Rattle.canvas_runs.proofs.ByCallers.CallerRunLists.{callers_of, ran}
use Rattle.canvas_runs.proofs.callers.runs_of_callers.Goals as goal

pub returns-clause-passes : goal.returns-clause-passes
returns-clause-passes c = λ behaviour l pass seat r. (passes behaviour l pass seat r).1

pub returns-clause-seats : goal.returns-clause-seats
returns-clause-seats c = λ behaviour l pass seat r. seats behaviour l pass seat r

pub returns-clause-run : goal.returns-clause-run
returns-clause-run c = λ behaviour l pass seat r. (the_run behaviour l pass seat r, refl, refl, λ w. the_closed behaviour l pass seat r w)

pub returns-clause-reads : goal.returns-clause-reads
returns-clause-reads c = λ behaviour l pass seat r. closing_held behaviour l pass seat r

pub returns-clause-callers : goal.returns-clause-callers
returns-clause-callers c = callers_of

pub returns-clause-sides : goal.returns-clause-sides
returns-clause-sides c = ran
