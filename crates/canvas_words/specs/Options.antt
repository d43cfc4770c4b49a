-- The words of the program: its commands, and the options of each, as the crate `clap` reads words
-- (clap_builder 4.6.7: what a word is and what a command's matches are, `subcommand_of`).
use Rattle.std.specs.Prelude.{◌≡◌, ◌≢◌, ℕ, List, [], ◌∷◌, Option, Some, None, map, true, false, codes, if◌then◌else◌}
use Rattle.std.specs.Str.{bytes_eq}
use Rattle.clap.specs.Simple.{App, Shape, new_rule, new_shape, subcommand_of}
use Rattle.clap.specs.Walk.{Row, Rule}
use Rattle.clap.specs.declared.builder.action.ArgAction.TheVariants.{Append, SetTrue}
use Rattle.clap.specs.declared.builder.value_parser.ValueParser.TheVariants.{Unsigned}
use Rattle.clap.specs.declared.error.kind.ErrorKind.{ErrorKind}
use Rattle.clap.specs.declared.error.kind.ErrorKind.TheVariants.{DisplayHelp, DisplayVersion}
use Rattle.canvas_words.specs.declared.subcommand.Subcommand.{Subcommand}
use Rattle.canvas_words.specs.declared.subcommand.Subcommand.TheVariants.{Run, Turns, Normal, Check, Adapt, Graph, Page, Messages, Export, Keys, Collect}

-- ---- the names of the commands

abbrev pub command_name : Subcommand → List ℕ
command_name Run = codes "run"
command_name Turns = codes "turns"
command_name Normal = codes "normal"
command_name Check = codes "check"
command_name Adapt = codes "adapt"
command_name Graph = codes "graph"
command_name Page = codes "page"
command_name Messages = codes "messages"
command_name Export = codes "export"
command_name Keys = codes "keys"
command_name Collect = codes "collect"

-- ---- kinds of options

-- the word without a name: it is required
abbrev pub file : Rule
file = record (new_rule (codes "FILE")) { required = true }

-- `--NAME`
abbrev pub flag : List ℕ → Rule
flag name = record (new_rule name) { long = Some name; action = Some SetTrue }

-- `--NAME TEXT`
abbrev pub text : List ℕ → Rule
text name = record (new_rule name) { long = Some name; value_names = 1 }

-- like `text`, but may be given several times
abbrev pub texts : List ℕ → Rule
texts name = record (text name) { action = Some Append }

-- `--NAME N`, a whole number from `least` to `most`
abbrev pub number : List ℕ → (least most : ℕ) → Rule
number name least most = record (text name) { parser = Some (Unsigned least most) }

-- if it isn't given it is this
abbrev pub or_else : List ℕ → Rule → Rule
or_else value r = record r { defaults = value ∷ [] }

abbrev pub needed : Rule → Rule
needed r = record r { required = true }

-- ---- the options of several commands

abbrev pub workers : Rule
workers = or_else (codes "1") (number (codes "workers") 1 16)

abbrev pub adapt : Rule
adapt = flag (codes "adapt")

abbrev pub task : Rule
task = texts (codes "task")

abbrev pub tasks : Rule
tasks = text (codes "tasks")

abbrev pub turns : Rule
turns = text (codes "turns")

abbrev pub json : Rule
json = flag (codes "json")

abbrev pub fail : Rule
fail = flag (codes "fail")

abbrev pub of_run : Rule
of_run = needed (text (codes "run"))

abbrev pub prefix : Rule
prefix = text (codes "prefix")

-- ---- commands

abbrev pub options : Subcommand → List Rule
options Run =
    file ∷ workers ∷ adapt ∷ task ∷ tasks ∷ json ∷ flag (codes "explain")
    ∷ text (codes "failures") ∷ flag (codes "each") ∷ flag (codes "null")
    ∷ flag (codes "with-tasks") ∷ fail ∷ []
options Turns =
    file ∷ workers ∷ turns ∷ text (codes "again") ∷ flag (codes "steps") ∷ adapt ∷ task ∷ tasks
    ∷ json ∷ fail ∷ []
options Normal = file ∷ flag (codes "numbers") ∷ adapt ∷ json ∷ []
options Check = file ∷ adapt ∷ task ∷ tasks ∷ json ∷ flag (codes "strict") ∷ []
options Adapt = file ∷ texts (codes "rename") ∷ json ∷ []
options Graph =
    file ∷ flag (codes "run") ∷ workers ∷ adapt ∷ task ∷ tasks ∷ text (codes "results")
    ∷ text (codes "of") ∷ flag (codes "complete") ∷ json ∷ []
options Page =
    file ∷ or_else (codes "raise:Exception") (text (codes "failures")) ∷ adapt ∷ task ∷ tasks
    ∷ json ∷ []
options Messages =
    file ∷ workers ∷ turns ∷ flag (codes "calls") ∷ adapt ∷ task ∷ tasks ∷ json ∷ []
options Export =
    file ∷ of_run ∷ adapt ∷ text (codes "values")
    ∷ or_else (codes "celery") (text (codes "queue")) ∷ prefix
    ∷ or_else (codes "86400") (number (codes "expires") 1 1000000000)
    ∷ number (codes "broker-db") 0 1000000 ∷ number (codes "backend-db") 0 1000000
    ∷ flag (codes "without-script") ∷ json ∷ []
options Keys = file ∷ of_run ∷ adapt ∷ prefix ∷ json ∷ []
options Collect = file ∷ of_run ∷ adapt ∷ flag (codes "complete") ∷ json ∷ []

abbrev pub command : Subcommand → Shape
command c = record (new_shape (command_name c)) { rules = options c }

-- the program with some commands
abbrev pub program : List Subcommand → App
program cs =
    record {
      top = record (new_shape (codes "canvas")) {
        is_leaf = false;
        no_binary_name = true;
        has_version = true;
        subcommand_required = true;
      };
      subs = map command cs;
    }

abbrev pub all : List Subcommand
all =
    Run ∷ Turns ∷ Normal ∷ Check ∷ Adapt ∷ Graph ∷ Page ∷ Messages ∷ Export ∷ Keys ∷ Collect ∷ []

-- the first of these commands that has the name
abbrev pub named_among : List Subcommand → List ℕ → Option Subcommand
named_among [] name = None
named_among (c ∷ cs) name =
    if bytes_eq (command_name c) name then Some c else named_among cs name

abbrev pub first_word : List (List ℕ) → List ℕ
first_word [] = []
first_word (w ∷ ws) = w

-- The parser gets the command that the first word names, or all if it names none.
abbrev pub offered : Option Subcommand → List Subcommand
offered (Some c) = c ∷ []
offered None = all

abbrev pub program_for : List (List ℕ) → App
program_for words = program (offered (named_among all (first_word words)))

-- the command that the words ask for, and what is given for its options
abbrev pub IsAsked : List (List ℕ) → Subcommand → List Row → Type 0
IsAsked words c given = subcommand_of (program_for words) words ≡ Some (command_name c, given)

-- an error of the parser: neither help nor the version
abbrev pub IsMistake : ErrorKind → Type 0
IsMistake kind = (kind ≢ DisplayHelp) × (kind ≢ DisplayVersion)
