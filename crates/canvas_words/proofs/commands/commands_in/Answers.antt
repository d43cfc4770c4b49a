use Rattle.std.proofs.Common.{◌≡◌, false}
use Rattle.clap.specs.Simple.{shape_of}
use Rattle.clap.specs.declared.builder.command.Command.TheViews.{out-Command}
use Rattle.canvas_words.specs.Options.{command}
use Rattle.canvas_words.proofs.Making.{one_more, all_more}
use Rattle.canvas_words.proofs.commands.commands_in.Goals as goal

pub loop-command-preserved : goal.loop-command-preserved
loop-command-preserved c = (
  one_more shape_of command c.loop-command.commands.items c.push.new.self.items c.in_ok-as_clap.field-0 c.args.list.now c.loop-command.command-index _
      c.loop-command-test.true c.in_ok-push.ensures.items c.in_ok-as_clap.ensures.shape c.loop-command.invariant.0,
  all_more (λ c. (out-Command c).has_globals ≡ false) c.loop-command.commands.items c.push.new.self.items c.in_ok-as_clap.field-0
      c.in_ok-push.ensures.items c.loop-command.invariant.1 c.in_ok-as_clap.ensures.local,
)
