use Rattle.std.proofs.Common.{arith}
use Rattle.canvas_adapt.proofs.inherited.+same.Goals as goal

pub is_same-overflow_sub-left : goal.is_same-overflow_sub-left
is_same-overflow_sub-left t c = omega (arith, c.if-left-eq0.false)

pub is_same-overflow_sub-left-in-Object-Object : goal.is_same-overflow_sub-left-in-Object-Object
is_same-overflow_sub-left-in-Object-Object t c = omega (arith, c.if-left-eq0.false)

pub is_same-are_same_items-requires : goal.is_same-are_same_items-requires
is_same-are_same_items-requires t c = (omega (arith, c.decreases, c.if-left-eq0.false), tt)

pub is_same-are_same_members-requires : goal.is_same-are_same_members-requires
is_same-are_same_members-requires t c = (omega (arith, c.decreases, c.if-left-eq0.false), tt)

pub are_same_items-is_same-requires : goal.are_same_items-is_same-requires
are_same_items-is_same-requires t c = (omega (arith, c.decreases), tt)

pub are_same_members-is_same-requires : goal.are_same_members-is_same-requires
are_same_members-is_same-requires t c = (omega (arith, c.decreases), tt)
