use Rattle.canvas_runs.proofs.ByTurns.EntryRuns.{product_stands, quotient_stands, none_unspent}
use Rattle.canvas_runs.proofs.turns.runs_by_entries.Goals as goal

pub returns-clause-both : goal.returns-clause-both
returns-clause-both c = product_stands

pub returns-clause-idle : goal.returns-clause-idle
returns-clause-idle c = quotient_stands

pub returns-clause-none_unspent : goal.returns-clause-none_unspent
returns-clause-none_unspent c = λ us rest t. none_unspent us rest t
