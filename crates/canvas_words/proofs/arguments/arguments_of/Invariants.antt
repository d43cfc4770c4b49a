use Rattle.std.proofs.Common.{◌≡◌, false, map, take}
use Rattle.std.specs.List.{All}
use Rattle.clap.specs.Walk.{rule_of}
use Rattle.canvas_words.specs.steps.Rules.{rule}
use Rattle.canvas_words.proofs.arguments.arguments_of.Given as goal

abbrev pub invariant-loop-argument : goal.invariant-loop-argument
invariant-loop-argument l =
    (map rule_of l.arguments.items ≡ map rule (take l.argument-index l.list))
    × All (λ a. a.global ≡ false) l.arguments.items
