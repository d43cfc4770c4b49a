use Rattle.canvas_broker.proofs.Begins.{begins, roots_at}
use Rattle.canvas_broker.proofs.broker.Broker.new.Goals as goal

pub with_rule-requires : goal.with_rule-requires
with_rule-requires g c = begins

pub another-requires-clause-rule : goal.another-requires-clause-rule
another-requires-clause-rule g c = roots_at _ _ c.in_ok-queue.ensures.1 c.in_ok-queue.ensures.2
