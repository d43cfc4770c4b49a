-- What the parser gives, where it has the program that the words call for.
use Rattle.std.proofs.Common.{◌≡◌, List, ℕ, Result, Ok, Err, IfOk, IfErr, true, sym, subst}
use Rattle.clap.specs.Simple.{App, HasMatchesOf, subcommand_of, subcommand_rows_of}
use Rattle.clap.specs.Takes.{takes}
use Rattle.clap.specs.Values.{kind_of}
use Rattle.clap.specs.declared.error.Error.{Error}
use Rattle.clap.specs.declared.error.kind.ErrorKind.TheVariants.{OutOfMemory}
use Rattle.clap.specs.declared.parser.matches.ArgMatches.{ArgMatches}
use Rattle.canvas_words.specs.Options.{all, first_word, named_among, program_for}
use Rattle.canvas_words.proofs.AllCommands.{simple}

pub parsed : (a : App) (words : List (List ℕ)) (r : Result ArgMatches Error) → a ≡ program_for words → IfOk r (HasMatchesOf a words)
    → IfOk r (λ m. subcommand_rows_of m ≡ subcommand_of (program_for words) words)
parsed a words (Ok m) is h =
    (subst (λ a. HasMatchesOf a words m) is h (simple (named_among all (first_word words)))).1
parsed a words (Err e) is h = h

pub refused : (a : App) (words : List (List ℕ)) (r : Result ArgMatches Error) → a ≡ program_for words
    → IfErr r (λ e. takes a words ≡ true → kind_of e ≡ OutOfMemory)
    → IfErr r (λ e. takes (program_for words) words ≡ true → kind_of e ≡ OutOfMemory)
refused a words (Ok m) is h = h
refused a words (Err e) is h = λ taken. h (subst (λ a. takes a words ≡ true) (sym is) taken)
