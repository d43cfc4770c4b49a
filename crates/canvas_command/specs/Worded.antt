-- The program's answer to words, if its parser accepts them.
use Rattle.std.specs.Prelude.{◌≡◌, ◌⊎◌, Bool, true, false, List, [], Option, Some}
use Rattle.clap.specs.Walk.{Row}
use Rattle.canvas_task.specs.Apply.{Behaviour}
use Rattle.canvas_task.specs.Text.{Text}
use Rattle.canvas_semantics.specs.Tree.{Tree}
use Rattle.canvas_adapt.specs.Stubs.{stubs_behaviour}
use Rattle.canvas_words.specs.Options.{IsAsked}
use Rattle.canvas_words.specs.declared.subcommand.Subcommand.{Subcommand}
use Rattle.canvas_answer.specs.Answers.{IsKept, bytes_in}
use Rattle.canvas_answer.specs.Asking.{Asking, asked_of}
use Rattle.canvas_answer.specs.Inputs.{IsCanvasRead}
use Rattle.canvas_answer.specs.Plans.{IsCanvasOf}
use Rattle.canvas_answer.specs.Requests.{IsRequest}
use Rattle.canvas_answer.specs.Stubbing.{AreAnswers}
use Rattle.canvas_answer.specs.declared.answer.Answer.{Answer}
use Rattle.canvas_answer.specs.declared.command_line.Request.{Request}
use Rattle.canvas_answer.specs.declared.command_line.Action.{Action}
use Rattle.canvas_answer.specs.declared.command_line.Action.TheVariants.{One, Each, Failures, Page}
use Rattle.canvas_answer.specs.declared.refusal.Refusal.{Refusal}
use Rattle.canvas_answer.specs.declared.stubs.Answers.{Answers}
use Rattle.canvas_command.specs.Asked.{IsAnswerTo}
use Rattle.canvas_command.specs.Each.{IsEachDone}
use Rattle.canvas_command.specs.Failing.{IsFailuresDone}
use Rattle.canvas_command.specs.Paged.{IsPaged}

-- only a refusal, and nothing else
abbrev pub IsRefused : Answer → Type 0
IsRefused a = (refusal : Refusal) × (a.refusal ≡ Some refusal) × (bytes_in a.out ≡ [])

-- the same answer, with its refusal as JSON if that is asked for
abbrev pub IsToldAs : (json : Bool) → (before after : Answer) → Type 0
IsToldAs false before after = after ≡ before
IsToldAs true before after =
    (after.out ≡ before.out) × (after.status ≡ before.status)
    × IsKept before.refusal after.refusal

-- Tasks that have no stub behave so; the input has these bytes, if they are known.
module _ (behaviour : Behaviour) (input : Option Text) where
  -- the work on the bytes of one text, which is the input if the file is `-`; or of many texts
  abbrev pub IsActionDone : Asking → (file : Text) → Action → Answer → Type 0
  IsActionDone its file (One verb) a =
      (bytes : Text) × IsCanvasRead file input bytes
      × IsAnswerTo (stubs_behaviour its.stubs behaviour) its bytes verb a
  IsActionDone its file (Each each) a = IsEachDone each.fails a
  IsActionDone its file (Failures failures) a =
      (bytes : Text) × IsCanvasRead file input bytes
      × ((c : Tree) × IsCanvasOf its.adapts bytes c
      × IsFailuresDone (stubs_behaviour its.stubs behaviour) its c failures.fails a)
  IsActionDone its file (Page failures) a =
      (bytes : Text) × IsCanvasRead file input bytes
      × IsPaged behaviour its failures.word.now bytes a

module _ (behaviour : Behaviour) (input : Option Text) where
  -- the answer if some tasks answer so
  abbrev pub IsAnswerWith : Request → Answers → Answer → Type 0
  IsAnswerWith request answers a =
      IsActionDone behaviour input (asked_of request.adapts answers) request.file.now
      request.action a

  -- the request of the words is done
  abbrev pub IsDoneFor : (words : List Text) → Answer → Type 0
  IsDoneFor words a =
      (command : Subcommand) × (given : List Row) × IsAsked words command given
      × ((request : Request) × IsRequest given command request
      × ((answers : Answers) × AreAnswers command given answers
      × ((before : Answer) × IsAnswerWith request answers before
      × IsToldAs request.is_json before a)))

  abbrev pub IsAnswerToWords : (words : List Text) → Answer → Type 0
  IsAnswerToWords words a = IsRefused a ⊎ IsDoneFor words a
