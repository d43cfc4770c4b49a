use Rattle.std.proofs.Common.{◌≡◌, true}
use Rattle.canvas_worker.proofs.Polls.Finishing.{workers_start, workers_finish}
use Rattle.canvas_worker.proofs.law_of_workers.Goals as goal

pub returns-clause-starts : goal.returns-clause-starts
returns-clause-starts c = workers_start

pub returns-clause-finishes : goal.returns-clause-finishes
returns-clause-finishes c = λ behaviour wanted. workers_finish behaviour (λ p k. wanted p k ≡ true)
