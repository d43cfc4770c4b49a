use Rattle.std.proofs.Common.{◌≡◌}
use Rattle.canvas_tests.proofs.runs.by_hand.publish_all.Given as goal

abbrev pub invariant-loop-envelope : goal.invariant-loop-envelope
invariant-loop-envelope g l =
    (goal.iterator-loop-envelope g).can_next l.envelope-iterator × (goal.iterator-loop-envelope g).is_finite l.envelope-iterator × (l.pass.of ≡ l.broker)
