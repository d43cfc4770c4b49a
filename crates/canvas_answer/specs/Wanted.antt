-- What the words of the command line ask for, if their parser accepts them.
use Rattle.std.specs.Prelude.{◌≡◌, List, codes, option_map}
use Rattle.clap.specs.Values.{kind_of}
use Rattle.clap.specs.Walk.{Row, first_of}
use Rattle.canvas_task.specs.Text.{Text}
use Rattle.canvas_words.specs.Options.{IsAsked, IsMistake}
use Rattle.canvas_words.specs.declared.subcommand.Subcommand.{Subcommand}
use Rattle.canvas_answer.specs.Given.{texts_of}
use Rattle.canvas_answer.specs.Requests.{IsRequest}
use Rattle.canvas_answer.specs.Stubbing.{AreSaid, added_by, standing}
use Rattle.canvas_answer.specs.declared.command_line.CommandLine.{CommandLine}
use Rattle.canvas_answer.specs.declared.command_line.Unasked.{Unasked}
use Rattle.canvas_answer.specs.declared.command_line.Unasked.TheVariants.{Words, Refused}
use Rattle.canvas_answer.specs.declared.stubs.Answers.{Answers}
use Rattle.canvas_answer.specs.declared.stubs.AskedStubs.{AskedStubs}

-- the stubs of the words, and the file that has more
pub record AreAsked (given : List Row) (command : Subcommand) (stubs : AskedStubs) : Type 0 where
  pub said : AreSaid (standing command) (texts_of given (codes "task")) stubs.answers
  pub file : option_map (λ f. f.now) stubs.file ≡ first_of (codes "tasks") given
  pub stands : stubs.stands.now ≡ standing command

pub record IsAskedWith (given : List Row) (command : Subcommand) (asked : CommandLine) :
    Type 0 where
  pub request : IsRequest given command asked.request
  pub stubs : AreAsked given command asked.stubs

abbrev pub IsAskedBy : (words : List Text) → CommandLine → Type 0
IsAskedBy words asked =
    (command : Subcommand) × (given : List Row) × IsAsked words command given
    × IsAskedWith given command asked

-- the words ask for nothing because of a mistake, and not because of help
abbrev pub IsNoHelp : Unasked → Type 0
IsNoHelp (Words error) = IsMistake (kind_of error)
IsNoHelp (Refused refusal) = Unit {0}

-- the answers that the words ask for, once the file is read
abbrev pub AreAnswersOf : AskedStubs → Answers → Type 0
AreAnswersOf stubs answers =
    added_by stubs.stands.now (option_map (λ f. f.now) stubs.file) stubs.answers answers
