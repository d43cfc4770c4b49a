-- From what words ask for to what is answered.
use Rattle.std.proofs.Common.{◌≡◌, ◌∙◌, ◌⊎◌, inl, inr, Bool, true, false, IfOk, List, [], Option, Some, Ok, Err, Result, option_map, ap, subst, sym}
use Rattle.std.specs.Prelude.{codes}
use Rattle.canvas_task.specs.Apply.{Behaviour}
use Rattle.canvas_task.specs.Text.{Text}
use Rattle.clap.specs.Walk.{Row}
use Rattle.canvas_words.specs.declared.subcommand.Subcommand.{Subcommand}
use Rattle.canvas_answer.specs.Answers.{AnswersPart, IsKept, bytes_in}
use Rattle.canvas_answer.specs.Asking.{Asking, asked_of}
use Rattle.canvas_answer.specs.Inputs.{IsCanvasRead}
use Rattle.canvas_answer.specs.Stubbing.{AreAnswers, added_by, standing}
use Rattle.canvas_answer.specs.Wanted.{AreAnswersOf, AreAsked, IsAskedBy}
use Rattle.canvas_answer.specs.declared.answer.Answer.{Answer}
use Rattle.canvas_answer.specs.declared.command_line.CommandLine.{CommandLine}
use Rattle.canvas_answer.specs.declared.command_line.Request.{Request}
use Rattle.canvas_answer.specs.declared.command_line.Action.{Action}
use Rattle.canvas_answer.specs.declared.command_line.Action.TheVariants.{One, Each, Failures, Page}
use Rattle.canvas_answer.specs.declared.refusal.Refusal.{Refusal}
use Rattle.canvas_answer.specs.declared.refusal.Refusal.TheVariants.{Memory}
use Rattle.canvas_answer.specs.declared.stubs.Answers.{Answers}
use Rattle.canvas_answer.specs.declared.stubs.AskedStubs.{AskedStubs}
use Rattle.canvas_command.specs.Worded.{IsAnswerToWords, IsAnswerWith, IsRefused, IsToldAs, IsActionDone}

still : (after : Answer) (refusal : Refusal) → IsKept (Some refusal) after.refusal → bytes_in after.out ≡ [] → IsRefused after
still after refusal (inl same) out = (refusal, same, out)
still after refusal (inr memory) out = (Memory, memory, out)

pub refused_still : (json : Bool) (before after : Answer) → IsRefused before → IsToldAs json before after → IsRefused after
refused_still false before after refused is = subst IsRefused (sym is) refused
refused_still true before after (refusal, refused, out) (same, status, kept) =
    still after refusal (subst (λ r. IsKept r after.refusal) refused kept) (ap bytes_in same ∙ out)

pub answers_asked : (command : Subcommand) (given : List Row) (stubs : AskedStubs) (answers : Answers) → AreAsked given command stubs
    → AreAnswersOf stubs answers → AreAnswers command given answers
answers_asked command given stubs answers asked added = (
  stubs.answers,
  asked.said,
  subst (λ file. added_by (standing command) file stubs.answers answers) asked.file
      (subst (λ stands. added_by stands (option_map (λ f. f.now) stubs.file) stubs.answers answers) asked.stands added),
)

-- what is answered of a text that was read
pub of_text : (Read : Text → Type 0) (Answers : Text → Answer → Type 0) (bytes : Text) (r : Result Answer Refusal) → Read bytes → IfOk r (Answers bytes)
    → IfOk r (λ a. (x : Text) × Read x × Answers x a)
of_text Read Answers bytes (Ok a) read h = (bytes, read, h)
of_text Read Answers bytes (Err e) read h = h

module _ (before after : Option Text) where
  action_moved : (behaviour : Behaviour) (its : Asking) (file : Text) → (file ≡ codes "-" → after ≡ before) → (action : Action) (a : Answer) → IsActionDone behaviour after its file action a
      → IsActionDone behaviour before its file action a
  action_moved behaviour its file same (One verb) a (bytes, read, h) = (bytes, λ is. subst (λ input. IsCanvasRead file input bytes) (same is) read is, h)
  action_moved behaviour its file same (Each each) a h = h
  action_moved behaviour its file same (Failures failures) a (bytes, read, h) =
      (bytes, λ is. subst (λ input. IsCanvasRead file input bytes) (same is) read is, h)
  action_moved behaviour its file same (Page failures) a (bytes, read, h) =
      (bytes, λ is. subst (λ input. IsCanvasRead file input bytes) (same is) read is, h)

  -- an answer by an input that is as it was, if that is the canvas
  pub with_stubs : (behaviour : Behaviour) (request : Request) (stubs : AskedStubs) (answers : Answers) (r : Result Answer Refusal)
      → (request.file.now ≡ codes "-" → after ≡ before) → AreAnswersOf stubs answers → IfOk r (IsAnswerWith behaviour after request answers)
      → IfOk r (λ a. (x : Answers) × AreAnswersOf stubs x × IsAnswerWith behaviour before request x a)
  with_stubs behaviour request stubs answers (Ok a) same are h =
      (answers, are, action_moved behaviour (asked_of request.adapts answers) request.file.now same request.action a h)
  with_stubs behaviour request stubs answers (Err e) same are h = h

-- ---- what words ask for

-- the answer before it is put into JSON
abbrev pub IsAskedDone : Behaviour → (input : Option Text) → Request → AskedStubs → Answer → Type 0
IsAskedDone behaviour input request stubs a = (x : Answers) × AreAnswersOf stubs x × IsAnswerWith behaviour input request x a

abbrev pub IsToldDone : Behaviour → (input : Option Text) → Request → AskedStubs → Answer → Type 0
IsToldDone behaviour input request stubs a =
    IsRefused a ⊎ ((x : Answers) × AreAnswersOf stubs x
    × ((before : Answer) × IsAnswerWith behaviour input request x before × IsToldAs request.is_json before a))

module _ (behaviour : Behaviour) (input : Option Text) (request : Request) (stubs : AskedStubs) where
  pub from_ok : (r : Result Answer Refusal) (a b : Answer) → r ≡ Ok a → b ≡ a → IfOk r (IsAskedDone behaviour input request stubs)
      → IsRefused b ⊎ IsAskedDone behaviour input request stubs b
  from_ok r a b is same h =
      inr (subst (IsAskedDone behaviour input request stubs) (sym same) (subst (λ r. IfOk r (IsAskedDone behaviour input request stubs)) is h))

  pub from_err : (a b : Answer) (refusal : Refusal) → b ≡ a → AnswersPart [] refusal a → IsRefused b ⊎ IsAskedDone behaviour input request stubs b
  from_err a b refusal same h = inl (subst IsRefused (sym same) (refusal, h.refused, h.out))

  pub told_done : (before after : Answer) → IsToldAs request.is_json before after → IsRefused before ⊎ IsAskedDone behaviour input request stubs before
      → IsToldDone behaviour input request stubs after
  told_done before after told (inl refused) = inl (refused_still request.is_json before after refused told)
  told_done before after told (inr (x, are, done)) = inr (x, are, (before, done, told))

pub words_answered : (behaviour : Behaviour) (input : Option Text) (words : List Text) (asked : CommandLine) (a : Answer) → IsAskedBy words asked
    → IsToldDone behaviour input asked.request asked.stubs a → IsAnswerToWords behaviour input words a
words_answered behaviour input words asked a by (inl refused) = inl refused
words_answered behaviour input words asked a (command, given, is, its) (inr (answers, are, (before, done, told))) =
    inr (
      command,
      given,
      is,
      (
        asked.request,
        its.request,
        (answers, answers_asked command given asked.stubs answers its.stubs are, (before, done, told)),
      ),
    )
