use Rattle.std.proofs.Common.{◌≡◌, All, length}
use Rattle.canvas_engine.specs.steps.WorkerSlots.{IsReadySlot, SplitsOff}
use Rattle.canvas_engine.proofs.threads.handles.split_all.Given as goal

abbrev pub invariant-loop-index : goal.invariant-loop-index
invariant-loop-index g l =
    ((l.handles.pass.of ≡ l.objects.broker) × (l.handles.seat.of ≡ l.objects.backend.id)) ×
    (length l.slots.items ≡ l.index) ×
    All (IsReadySlot l.objects.broker l.objects.backend.id) l.slots.items ×
    SplitsOff l.objects.backend.plan 1 l.initial.handles.pass l.initial.handles.seat l.slots.items l.handles.pass l.handles.seat
