-- What is left to do of a message or of a completed header, as data (Celery user guide, Canvas).
use Rattle.std.specs.Prelude.{List, ◌++◌, map, option_map}
use Rattle.canvas_task.specs.declared.outcome.Outcome.{Outcome}
use Rattle.canvas_rewrite.specs.FrozenView.{PCarried}
use Rattle.canvas_effects.specs.Effects.{part_jobs}
use Rattle.canvas_effects.specs.Job.{Job, store, publish}
use Rattle.canvas_effects.specs.Todos.{part_view}
use Rattle.canvas_core.specs.EnvelopeWorker.{Applied, unapplied, enclosed}
use Rattle.canvas_core.specs.declared.script.Script.{Script}

abbrev pub EnvelopeJobs : Type 0
EnvelopeJobs = List (Job Applied PCarried Outcome)

abbrev pub jobs_of : Script → EnvelopeJobs
jobs_of s =
    map (λ e. store e.0 e.1) s.stores.items
    ++ (map (λ p. publish (unapplied p.envelope)) s.publishes.items
    ++ map enclosed (part_jobs (option_map part_view s.part)))
