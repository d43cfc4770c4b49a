use Rattle.std.proofs.Common.{◌≡◌}
use Rattle.canvas_adapt.proofs.text.+write.Given as goal

abbrev pub invariant-write_items-loop-value : goal.invariant-write_items-loop-value
invariant-write_items-loop-value l = l.out.before ≡ l.fn.out.before

abbrev pub invariant-write_members-loop-member : goal.invariant-write_members-loop-member
invariant-write_members-loop-member l = l.out.before ≡ l.fn.out.before
