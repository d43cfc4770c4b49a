use Rattle.std.proofs.Common.{◌≡◌, false}
use Rattle.clap.specs.Walk.{rule_of}
use Rattle.canvas_words.specs.steps.Rules.{rule}
use Rattle.canvas_words.proofs.Making.{one_more, all_more}
use Rattle.canvas_words.proofs.arguments.arguments_of.Goals as goal

pub loop-argument-preserved : goal.loop-argument-preserved
loop-argument-preserved c = (
  one_more rule_of rule c.loop-argument.arguments.items c.push.new.self.items c.as_clap.result c.args.list.now c.loop-argument.argument-index _
      c.loop-argument-test.true c.in_ok-push.ensures.items c.as_clap.ensures.rule c.loop-argument.invariant.0,
  all_more (λ a. a.global ≡ false) c.loop-argument.arguments.items c.push.new.self.items c.as_clap.result c.in_ok-push.ensures.items
      c.loop-argument.invariant.1 c.as_clap.ensures.local,
)
