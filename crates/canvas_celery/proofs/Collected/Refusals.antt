-- What an exception lacks its result does.
use Rattle.std.proofs.Common.{◌≡◌, ℕ, codes}
use Rattle.serde_json.specs.Data.{Data}
use Rattle.canvas_task.specs.Text.{Text}
use Rattle.canvas_celery.specs.declared.results.stored.Lack.{Lack}
use Rattle.canvas_celery.specs.declared.results.stored.Lack.TheVariants as lack
use Rattle.canvas_celery.specs.Stored.{state_of, result_of}
use Rattle.canvas_celery.specs.steps.Lacking.{LacksFault, LacksOutcome}

pub of_exception : (run : Text) (count : ℕ) (d : Data) (l : Lack) → state_of d ≡ codes "FAILURE" → LacksFault run count (result_of d) l → LacksOutcome run count d l
of_exception run count d lack.State failed h = absurd h
of_exception run count d lack.Number failed h = absurd h
of_exception run count d lack.Exception failed h = (failed, h)
of_exception run count d lack.Dependency failed h = (failed, h)
