use Rattle.std.proofs.Common.{◌≡◌, drop}
use Rattle.canvas_words.specs.Options.{all, named_among}
use Rattle.canvas_words.proofs.AllCommands.{Left}
use Rattle.canvas_words.proofs.subcommand.Subcommand.named.Given as goal

-- the command of this name, or one, is still to come
abbrev pub invariant-loop-command : goal.invariant-loop-command
invariant-loop-command l =
    Left l.name (drop l.command-index l.command-items)
    × (named_among all l.name ≡ named_among (drop l.command-index l.command-items) l.name)
