use Rattle.canvas_words.proofs.AllCommands.{not_here, still_left}
use Rattle.canvas_words.proofs.subcommand.Subcommand.named.Goals as goal

pub loop-command-preserved : goal.loop-command-preserved
loop-command-preserved c = (
  still_left c.args.name.now c.name.result.now c.loop-command.command-index c.eq.result c.loop-command-test.true c.loop-command.invariant.0 c.name.ensures
      c.eq.ensures c.if-eq.false,
  not_here c.args.name.now c.name.result.now c.loop-command.command-index c.eq.result c.loop-command-test.true c.loop-command.invariant.1 c.name.ensures
      c.eq.ensures c.if-eq.false,
)
