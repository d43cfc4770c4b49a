-- The steps that a run has noted.
use Rattle.std.specs.Prelude.{◌≡◌, Bool, true, false, List, [], ◌++◌, map, filter}
use Rattle.canvas_envelope.specs.declared.envelope.Envelope.{Envelope}
use Rattle.canvas_history.specs.Queue as queue
use Rattle.canvas_runs.specs.Core.{Ask, to_queue}
use Rattle.canvas_runs.specs.Turns.{Step}
use Rattle.canvas_engine.specs.Noted.{step_seen}
use Rattle.canvas_engine.specs.declared.by_turns.notes.Keeps.{Keeps}
use Rattle.canvas_engine.specs.declared.by_turns.notes.Keeps.TheVariants.{Nothing, Published, All}
use Rattle.canvas_engine.specs.declared.by_turns.notes.Notes.{Notes}

abbrev pub publishes : Ask Envelope → Bool
publishes (to_queue (queue.publish e)) = true
publishes a = false

-- the run keeps none of these steps, those that publish, or all
abbrev pub kept : Keeps → List Step → List Step
kept Nothing xs = []
kept Published xs = filter (λ x. publishes x.1.0) xs
kept All xs = xs

-- these were noted after those that were there
abbrev pub Noted : Notes → List Step → Notes → Type 0
Noted s xs t =
    (t.keeps ≡ s.keeps)
    × (map step_seen t.steps.items ≡ map step_seen s.steps.items ++ kept s.keeps xs)
