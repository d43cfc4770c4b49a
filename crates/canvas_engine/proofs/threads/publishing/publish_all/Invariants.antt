use Rattle.std.proofs.Common.{◌≡◌}
use Rattle.std.specs.Vec.Iter.{into_iter_items}
use Rattle.canvas_runs.specs.Following.{Pass, Makes}
use Rattle.canvas_runs.specs.Run.{published_all}
use Rattle.canvas_engine.proofs.threads.publishing.publish_all.Given as goal

-- what is left to publish leads from here to where all leads from the start
abbrev pub invariant-loop-envelope : goal.invariant-loop-envelope
invariant-loop-envelope g l =
    (goal.iterator-loop-envelope g).can_next l.envelope-iterator ×
    (goal.iterator-loop-envelope g).is_finite l.envelope-iterator ×
    (l.pass.of ≡ l.broker) ×
    ((p : Pass) → Makes l.pass (published_all (into_iter_items l.envelope-iterator)) p
    → Makes l.initial.pass (published_all (into_iter_items l.initial.envelope-iterator)) p)
