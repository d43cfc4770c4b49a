use Rattle.std.proofs.Common.{◌≡◌, map, take}
use Rattle.canvas_values.specs.SignatureView.{task_view}
use Rattle.canvas_values.proofs.copy.+copy.Given as goal

abbrev pub invariant-copy_sigs-loop-sig : goal.invariant-copy_sigs-loop-sig
invariant-copy_sigs-loop-sig l = map task_view l.copies.items ≡ map task_view (take l.sig-index l.sigs)
