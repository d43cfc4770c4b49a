-- A core, which keeps messages as their envelopes (Celery's task message protocol, version 2),
-- matches the worker that keeps their contents.
use Rattle.std.specs.Prelude.{◌≡◌, List, map}
use Rattle.canvas_task.specs.Apply.{Behaviour}
use Rattle.canvas_semantics.specs.Line.{Line}
use Rattle.canvas_rewrite.specs.FrozenView.{PCarried}
use Rattle.canvas_envelope.specs.Content.{Content}
use Rattle.canvas_effects.specs.Effects.{outcome_of}
use Rattle.canvas_history.specs.Roster.{roster_of}
use Rattle.canvas_runs.specs.Core.{CoreState, taking, resting, over, failed, owning, doing, reading, ask, left_after, Between, ReadsBack, IsCoreRun, acking}
use Rattle.canvas_runs.specs.Worker.{worker}
use Rattle.canvas_core.specs.Asks.{Asked, Answer}
use Rattle.canvas_core.specs.EnvelopeWorker.{said, enclosed, enveloped}
use Rattle.canvas_core.specs.CoreState.{Left}

module _ (behaviour : Behaviour) where
  -- Both are at the same point of a script: the envelope of a message that was taken says its
  -- content, and its outcome is that of its call; each further message is there as its envelope.
  abbrev pub IsAlike : Left → CoreState Content PCarried → Type 0
  IsAlike taking taking = Unit {0}
  IsAlike resting resting = Unit {0}
  IsAlike over over = Unit {0}
  IsAlike failed failed = Unit {0}
  IsAlike acking acking = Unit {0}
  IsAlike (owning m) (owning c) = (said m.envelope ≡ c) × (m.outcome ≡ outcome_of behaviour c)
  IsAlike (doing js b) (doing ks d) = (js ≡ map enclosed ks) × (b ≡ d)
  IsAlike (reading g c t fs) (reading h d u gs) = (g ≡ h) × ((c ≡ d) × ((t ≡ u) × (fs ≡ gs)))
  IsAlike s t = ⊥

  -- a core's state and that of the plan's worker match
  pub record GoTogether (l : Line) (s : Left) (t : CoreState Content PCarried) :
      Type 0 where
    pub alike : IsAlike s t
    -- both have the same next ask
    pub asks : ReadsBack (enveloped behaviour (roster_of l)) s
        → ask (worker behaviour l) t ≡ ask (enveloped behaviour (roster_of l)) s
    pub reads_back : ReadsBack (enveloped behaviour (roster_of l)) s
        → ReadsBack (worker behaviour l) t
    -- the one is between scripts exactly if the other is
    pub closed : Between s → Between t
    pub closes : Between t → Between s

-- A core run with messages kept as their envelopes is one of the worker, and both have the same
-- left to do.
abbrev pub CoresAreWorkers : Type 0
CoresAreWorkers =
    (behaviour : Behaviour) (l : Line) (xs : List (Asked × Answer))
    → IsCoreRun (enveloped behaviour (roster_of l)) taking xs
    → IsCoreRun (worker behaviour l) taking xs
    × GoTogether behaviour l (left_after (enveloped behaviour (roster_of l)) taking xs)
    (left_after (worker behaviour l) taking xs)
