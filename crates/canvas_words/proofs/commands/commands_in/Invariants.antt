use Rattle.std.proofs.Common.{◌≡◌, false, map, take}
use Rattle.std.specs.List.{All}
use Rattle.clap.specs.Simple.{shape_of}
use Rattle.clap.specs.declared.builder.command.Command.TheViews.{out-Command}
use Rattle.canvas_words.specs.Options.{command}
use Rattle.canvas_words.proofs.commands.commands_in.Given as goal

abbrev pub invariant-loop-command : goal.invariant-loop-command
invariant-loop-command l =
    (map shape_of l.commands.items ≡ map command (take l.command-index l.list))
    × All (λ c. (out-Command c).has_globals ≡ false) l.commands.items
