-- The envelopes that a run by turns publishes, in its order: the first messages, and then what each
-- step publishes. A redelivered envelope is not published again.
--     sent_after l xs        the envelopes that are published up to there
--     IsTraced l n turns rows sent    rows of a whole run by these turns, and what it published
use Rattle.std.specs.Prelude.{◌≡◌, ℕ, List, [], ◌∷◌, ◌++◌, map}
use Rattle.canvas_task.specs.Apply.{Behaviour}
use Rattle.canvas_semantics.specs.Evaluation.{State}
use Rattle.canvas_semantics.specs.Line.{Line}
use Rattle.canvas_effects.specs.Effects.{first_messages}
use Rattle.canvas_envelope.specs.declared.envelope.Envelope.{Envelope}
use Rattle.canvas_history.specs.Queue as queue
use Rattle.canvas_runs.specs.Core.{Ask, to_queue}
use Rattle.canvas_runs.specs.Worker.{sealed}
use Rattle.canvas_runs.specs.Turns.{Step}
use Rattle.canvas_engine.specs.Correct.{IsWholeRun}

abbrev pub sent_by : Ask Envelope → List Envelope
sent_by (to_queue (queue.publish e)) = e ∷ []
sent_by a = []

abbrev pub sent_in : List Step → List Envelope
sent_in [] = []
sent_in (x ∷ xs) = sent_by x.1.0 ++ sent_in xs

abbrev pub sent_after : Line → List Step → List Envelope
sent_after l xs = map sealed (first_messages l) ++ sent_in xs

pub record IsTraced (behaviour : Behaviour) (l : Line) (n : ℕ) (turns : List ℕ)
    (rows : List State) (sent : List Envelope) : Type 0 where
  pub whole : IsWholeRun behaviour l n turns rows
  pub sent_are : sent ≡ sent_after l whole.run.steps
