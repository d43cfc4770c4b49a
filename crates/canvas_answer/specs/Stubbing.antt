-- The answers of tasks, as texts give them: those of `--task`, and the lines of a file. A text is a
-- stub, which may raise an exception of any class; or, if it begins with `#`, one for a task's
-- number. In a run the class `stands` replaces a class that isn't one of the four of built-in
-- tasks, and a task with a numbered stub has that number's name, such as `#3`.
use Rattle.std.specs.Prelude.{◌≡◌, ◌==◌, ◌++◌, Bool, false, if◌then◌else◌, List, [], ◌∷◌, Option, Some, None, Ok, map, string_bytes, codes}
use Rattle.std.specs.List.{filter_map}
use Rattle.clap.specs.Walk.{Row, first_of}
use Rattle.canvas_task.specs.Text.{Text}
use Rattle.canvas_adapt.specs.RenameTexts.{IsRenameText}
use Rattle.canvas_adapt.specs.declared.renames.Rename.{Rename}
use Rattle.canvas_adapt.specs.Raising.{other_error, plain_text}
use Rattle.canvas_adapt.specs.Stubs.{has_stub}
use Rattle.canvas_adapt.specs.StubTexts.{stub_reading, stubs_reading}
use Rattle.canvas_adapt.specs.declared.stubs.stub.Stub.{Stub}
use Rattle.canvas_words.specs.declared.subcommand.Subcommand.{Subcommand}
use Rattle.canvas_words.specs.declared.subcommand.Subcommand.TheVariants.{Check}
use Rattle.canvas_answer.specs.Given.{texts_of}
use Rattle.canvas_answer.specs.declared.errors.OtherError.{OtherError}
use Rattle.canvas_answer.specs.declared.stubs.Answers.{Answers}

-- 35 is `#`
abbrev pub is_numbered : Text → Bool
is_numbered [] = false
is_numbered (b ∷ bs) = b == 35

abbrev pub numbered : Text → Option Text
numbered text = if is_numbered text then Some text else None

abbrev pub named : Text → Option Text
named text = if is_numbered text then None else Some text

abbrev pub error_said : OtherError → Text × Text
error_said e = (string_bytes e.name, string_bytes e.class)

-- the class of a file's stub, if no word has its name
abbrev pub unsaid : List Stub → Text × Text → Option (Text × Text)
unsaid stubs e = if has_stub e.0 stubs then None else Some e

module _ (stands : Text) where
  -- a numbered stub, such as `#3=1`; its name is that of the task in a run: `#3`
  abbrev pub IsNumbered : Text → Rename → Stub → Type 0
  IsNumbered text r s =
      (stub_reading (plain_text stands text) ≡ Ok s) × (string_bytes r.name ≡ s.name)
      × IsRenameText (s.name ++ 61 ∷ s.name) r

  -- each text is a numbered stub
  abbrev pub AreNumbered : List Text → List Rename → List Stub → Type 0
  AreNumbered [] [] [] = Unit {0}
  AreNumbered (text ∷ texts) (r ∷ rs) (s ∷ ss) = IsNumbered text r s × AreNumbered texts rs ss
  AreNumbered texts rs ss = ⊥

  -- the words' stubs: first those by name, then those by number
  pub record AreSaid (texts : List Text) (answers : Answers) : Type 0 where
    pub by_name : List Stub
    pub by_number : List Stub
    pub read : stubs_reading (map (plain_text stands) texts) ≡ Ok by_name
    pub counted : AreNumbered (filter_map numbered texts) answers.renames.items by_number
    pub stubs : answers.stubs.items ≡ by_name ++ by_number
    pub errors : map error_said answers.errors.items
        ≡ filter_map other_error (filter_map named texts)
        ++ filter_map other_error (filter_map numbered texts)

  -- the stubs that the lines of a file add, which have no numbers
  pub record AreAdded (lines : List Text) (before after : Answers) : Type 0 where
    pub more : List Stub
    pub read : stubs_reading (map (plain_text stands) lines) ≡ Ok more
    pub stubs : after.stubs.items ≡ before.stubs.items ++ more
    pub renames : after.renames ≡ before.renames
    pub errors : map error_said after.errors.items
        ≡ map error_said before.errors.items
        ++ filter_map (unsaid before.stubs.items)
        (filter_map other_error (filter_map named lines))

-- `check` warns of tasks without an answer, and so of NotRegistered
abbrev pub standing : Subcommand → Text
standing Check = codes "ZeroDivisionError"
standing command = codes "NotRegistered"

-- the stubs of a command's words, and those of a file's lines if the words name one
abbrev pub added_by : Text → Option Text → (before after : Answers) → Type 0
added_by stands None before after = after ≡ before
added_by stands (Some file) before after = (lines : List Text) × AreAdded stands lines before after

abbrev pub AreAnswers : Subcommand → (given : List Row) → Answers → Type 0
AreAnswers command given answers =
    (said : Answers) × AreSaid (standing command) (texts_of given (codes "task")) said
    × added_by (standing command) (first_of (codes "tasks") given) said answers
