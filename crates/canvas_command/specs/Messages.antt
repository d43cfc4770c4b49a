-- The answer of `canvas messages`: what a run publishes, a line each (Celery's task message
-- protocol, version 2).
use Rattle.std.specs.Prelude.{◌≡◌, ℕ, Bool, true, false, List}
use Rattle.canvas_task.specs.Apply.{Behaviour}
use Rattle.canvas_task.specs.Text.{Text}
use Rattle.canvas_semantics.specs.Evaluation.{State}
use Rattle.canvas_semantics.specs.Line.{Line}
use Rattle.canvas_envelope.specs.declared.envelope.Envelope.{Envelope}
use Rattle.canvas_ran.specs.Calls.{calls_text}
use Rattle.canvas_ran.specs.Fronts.{fronts}
use Rattle.canvas_engine.specs.Traced.{IsTraced}
use Rattle.canvas_answer.specs.Answers.{AnswersAll}
use Rattle.canvas_answer.specs.Letters.{message_lines}
use Rattle.canvas_answer.specs.declared.answer.Answer.{Answer}

-- what a run of the plan's line by n workers that take these turns publishes
abbrev pub IsPublished : Behaviour → Line → ℕ → List ℕ → List Envelope → Type 0
IsPublished behaviour l n turns sent =
    (rows : List State) × IsTraced behaviour l n turns rows sent

abbrev pub AreMessages : Behaviour → Line → ℕ → List ℕ → Answer → Type 0
AreMessages behaviour l n turns a =
    (sent : List Envelope) × IsPublished behaviour l n turns sent
    × AnswersAll (message_lines sent) 0 a

-- the calls that they ask for, with the names of the plan that is shown
abbrev pub AreCallLines : Behaviour → (shown run : Line) → ℕ → List ℕ → Text → Type 0
AreCallLines behaviour shown run n turns lines =
    (sent : List Envelope) × IsPublished behaviour run n turns sent
    × (lines ≡ calls_text (fronts behaviour run) shown sent)

abbrev pub AreCalls : Behaviour → (shown run : Line) → ℕ → List ℕ → Answer → Type 0
AreCalls behaviour shown run n turns a =
    (lines : Text) × AreCallLines behaviour shown run n turns lines × AnswersAll lines 0 a

-- the messages, or the calls if these are asked for
abbrev pub ArePublished : Behaviour → (shown run : Line) → ℕ → List ℕ → (calls : Bool) → Answer
    → Type 0
ArePublished behaviour shown run n turns false a = AreMessages behaviour run n turns a
ArePublished behaviour shown run n turns true a = AreCalls behaviour shown run n turns a
