use Rattle.std.proofs.Common.{◌≡◌}
use Rattle.std.specs.Vec.Iter.{into_iter_items}
use Rattle.canvas_runs.specs.Following.{Pass, Seat}
use Rattle.canvas_engine.specs.steps.WorkerSlots.{AreOf, TakesIn}
use Rattle.canvas_engine.proofs.threads.handles.join_all.Given as goal

-- what is left to take in leads from here to where all leads from the start
abbrev pub invariant-loop-slot : goal.invariant-loop-slot
invariant-loop-slot g l =
    (goal.iterator-loop-slot g).can_next l.slot-iterator ×
    (goal.iterator-loop-slot g).is_finite l.slot-iterator ×
    ((l.handles.pass.of ≡ l.objects.broker) × (l.handles.seat.of ≡ l.objects.backend.id)) ×
    AreOf l.objects.broker l.objects.backend.id (into_iter_items l.slot-iterator) ×
    ((p : Pass) (s : Seat) → TakesIn l.objects.backend.plan l.handles.pass l.handles.seat (into_iter_items l.slot-iterator) p s
    → TakesIn l.objects.backend.plan l.initial.handles.pass l.initial.handles.seat (into_iter_items l.initial.slot-iterator) p s)
