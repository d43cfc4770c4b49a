-- The arguments of the code in terms of the parser.
use Rattle.clap.specs.Simple.{new_rule}
use Rattle.clap.specs.Walk.{Rule}
use Rattle.canvas_words.specs.Options.{flag, text, texts, number, or_else, needed}
use Rattle.canvas_words.specs.declared.arguments.Argument.{Argument}
use Rattle.canvas_words.specs.declared.arguments.Takes.{Takes}
use Rattle.canvas_words.specs.declared.arguments.Takes.TheVariants as takes
use Rattle.canvas_words.specs.declared.arguments.Given.{Given}
use Rattle.canvas_words.specs.declared.arguments.Given.TheVariants as given

abbrev pub named : Takes → Argument → Rule
named takes.Word a = new_rule a.name.now
named takes.Nothing a = flag a.name.now
named (takes.Text value) a = text a.name.now
named (takes.Texts value) a = texts a.name.now
named (takes.Number value least most) a = number a.name.now least most

abbrev pub given_as : Given → Rule → Rule
given_as given.Always r = needed r
given_as given.Maybe r = r
given_as (given.Else value) r = or_else value.now r

abbrev pub rule : Argument → Rule
rule a = given_as a.given (named a.takes a)
