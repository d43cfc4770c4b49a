-- What one worker does, in its order: the messages that it publishes, and its calls of the table
-- with their answers. The two histories say less, since nothing compares them in time.
use mathlib.Core.Logic.{inl, inr}
use Rattle.std.specs.Prelude.{ℕ, eqb, cond, List, [], ◌∷◌, ◌++◌, ◌⊎◌, map}
use Rattle.canvas_task.specs.Apply.{Behaviour}
use Rattle.canvas_history.specs.History.{calls}
use Rattle.canvas_semantics.specs.Line.{Line}
use Rattle.canvas_envelope.specs.declared.envelope.Envelope.{Envelope}
use Rattle.canvas_history.specs.Queue.{QueueEntry, publish}
use Rattle.canvas_runs.specs.Calls.{TableAnswered, AskedAndAnswered}
use Rattle.canvas_runs.specs.Core.{Ask, Reply, to_queue, to_table, from_queue, from_table}
use Rattle.canvas_runs.specs.Run.{Run}
use Rattle.canvas_runs.specs.Worker.{sealed}

abbrev pub ProgramOrder : Type 0
ProgramOrder = List (Envelope ⊎ TableAnswered)

-- the envelopes that it publishes
abbrev pub sent_in : ProgramOrder → List Envelope
sent_in [] = []
sent_in (inl e ∷ xs) = e ∷ sent_in xs
sent_in (inr c ∷ xs) = sent_in xs

-- and its calls of the table
abbrev pub called_in : ProgramOrder → List TableAnswered
called_in [] = []
called_in (inl e ∷ xs) = called_in xs
called_in (inr c ∷ xs) = c ∷ called_in xs

-- The envelopes that a history publishes, each with its caller. A redelivered envelope is not
-- published again.
abbrev pub published_in : List (QueueEntry Envelope) → List (ℕ × Envelope)
published_in [] = []
published_in (calls p (publish e) a ∷ es) = (p, e) ∷ published_in es
published_in (x ∷ es) = published_in es

-- the order of a core run: its publishes that were accepted, and its calls of the table
abbrev pub step_of : Ask Envelope → Reply Envelope → ProgramOrder
step_of (to_queue (publish e)) (from_queue x) = inl e ∷ []
step_of (to_table c) (from_table r) = inr (c, r) ∷ []
step_of a r = []

abbrev pub steps : List (AskedAndAnswered Envelope) → ProgramOrder
steps [] = []
steps (x ∷ xs) = step_of x.0 x.1 ++ steps xs

-- The program order of each caller of a run is that of its core run. Worker 0 also publishes the
-- first messages before it, and reads the tasks after it.
abbrev pub program_order : {behaviour : Behaviour} {l : Line} → Run behaviour l → ℕ → ProgramOrder
program_order r p =
    map inl (cond (eqb p 0) (map sealed r.opening) [])
    ++ (steps (r.core p) ++ map inr (cond (eqb p 0) r.closing []))
