use Rattle.std.proofs.Common.{◌≡◌, max, map, drop}
use Rattle.canvas_values.specs.steps.LineReach.{sigs_reach}
use Rattle.canvas_values.specs.SignatureView.{task_view, tasks_of}
use Rattle.canvas_values.proofs.reach.+sigs.Given as goal

abbrev pub invariant-sigs_reach-loop-sig : goal.invariant-sigs_reach-loop-sig
invariant-sigs_reach-loop-sig l =
    max l.most (sigs_reach (tasks_of (map task_view (drop l.sig-index l.sigs)))) ≡ sigs_reach (tasks_of (map task_view l.sigs))
