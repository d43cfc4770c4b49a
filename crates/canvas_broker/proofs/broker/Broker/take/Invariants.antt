use Rattle.std.proofs.Common.{◌≡◌}
use Rattle.crossbeam_queue.specs.SegTies.{IsSegPassOf}
use Rattle.canvas_broker.specs.steps.PassKnowledge.{seg_of}
use Rattle.canvas_broker.proofs.broker.Broker.take.Given as goal

abbrev pub invariant-loop : goal.invariant-loop
invariant-loop g l =
    (goal.iterator-loop g).can_next l.iterator' × (goal.iterator-loop g).is_finite l.iterator' × IsSegPassOf (seg_of l.self) l.pass-inside.pass
    × (l.pass-inside.pass.me.view.client ≡ l.initial.pass-inside.pass.me.view.client)
