-- The steps of a run by turns as a run reports them, in their order. The first messages come before
-- all turns: worker 0 publishes them.
--     step_seen s        the worker's ask with its answer that a step of the code is
--     IsStepped l n turns es rows m steps    rows of a run by these turns with these entries, m of
--                                            its stores answered Again, and its steps
use Rattle.std.specs.Prelude.{◌≡◌, ℕ, List, ◌++◌, map, None}
use Rattle.canvas_task.specs.Apply.{Behaviour}
use Rattle.canvas_semantics.specs.Evaluation.{State}
use Rattle.canvas_semantics.specs.Line.{Line}
use Rattle.canvas_effects.specs.Effects.{first_messages}
use Rattle.canvas_envelope.specs.declared.envelope.Envelope.{Envelope}
use Rattle.canvas_history.specs.Queue as queue
use Rattle.canvas_history.specs.Table as table
use Rattle.canvas_runs.specs.Core.{Ask, Reply, to_queue, to_table, rest, ack, from_queue, from_table, rested, acked}
use Rattle.canvas_runs.specs.Worker.{sealed}
use Rattle.canvas_runs.specs.Redeliveries.{Entry}
use Rattle.canvas_runs.specs.Turns.{Step}
use Rattle.canvas_engine.specs.Correct.{IsWholeAgain}
use Rattle.canvas_engine.specs.declared.by_turns.notes.Did.{Did}
use Rattle.canvas_engine.specs.declared.by_turns.notes.Did.TheVariants as did
use Rattle.canvas_engine.specs.declared.by_turns.notes.Step as told

abbrev pub did_seen : Did → Ask Envelope × Reply Envelope
did_seen (did.Took x) = (to_queue queue.take, from_queue x)
did_seen (did.Published e) = (to_queue (queue.publish e), from_queue None)
did_seen (did.Redelivered e) = (to_queue (queue.redeliver e), from_queue None)
did_seen (did.Stored t o s) = (to_table (table.store t o), from_table (table.was s))
did_seen (did.Returned g t n) = (to_table (table.part g t), from_table (table.count n))
did_seen (did.Read t x) = (to_table (table.read t), from_table (table.found x))
did_seen did.Acked = (ack, acked)
did_seen (did.Rested more) = (rest, rested more)

abbrev pub step_seen : told.Step → Step
step_seen s = (s.worker, did_seen s.did)

-- worker 0 publishes the first messages
abbrev pub opening_step : Envelope → Step
opening_step e = (0, (to_queue (queue.publish e), from_queue None))

abbrev pub opening_steps : Line → List Step
opening_steps l = map opening_step (map sealed (first_messages l))

pub record IsStepped (behaviour : Behaviour) (l : Line) (n : ℕ) (turns : List ℕ) (es : List Entry)
    (rows : List State) (m : ℕ) (steps : List Step) : Type 0 where
  pub whole : IsWholeAgain behaviour l n turns es rows m
  pub steps_are : steps ≡ opening_steps l ++ whole.run.steps
