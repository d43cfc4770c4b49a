use Rattle.std.proofs.Common.{◌∙◌, ◌-◌, sym, ap, arith}
use Rattle.canvas_sig.specs.Datum.{view}
use Rattle.canvas_check.specs.Limits.{ends_where, ends_in_group}
use Rattle.canvas_check.proofs.Searches.{ends_below}
use Rattle.canvas_check.proofs.limits.+ends.Goals as goal

pub ends_in_group-overflow_sub-left : goal.ends_in_group-overflow_sub-left
ends_in_group-overflow_sub-left t c = omega (arith, c.if-left-eq0.false)

pub ends_in_group-ends_as-requires : goal.ends_in_group-ends_as-requires
ends_in_group-ends_as-requires t c = (omega (arith, c.decreases, c.if-left-eq0.false), tt)

pub ends_as-last_ends-requires : goal.ends_as-last_ends-requires
ends_as-last_ends-requires t c = (omega (arith, c.decreases), tt)

pub ends_as-body_ends-requires : goal.ends_as-body_ends-requires
ends_as-body_ends-requires t c = (omega (arith, c.decreases), tt)

pub last_ends-ends_in_group-requires : goal.last_ends-ends_in_group-requires
last_ends-ends_in_group-requires t c = (omega (arith, c.decreases), tt)

pub body_ends-ends_in_group-requires : goal.body_ends-ends_in_group-requires
body_ends-ends_in_group-requires t c = (omega (arith, c.decreases), tt)

pub body_ends-ends_in_group-requires-in-None : goal.body_ends-ends_in_group-requires-in-None
body_ends-ends_in_group-requires-in-None t c = (omega (arith, c.decreases), tt)

pub ends_in_group-returns : goal.ends_in_group-returns
ends_in_group-returns t c =
    c.ends_as.ensures ∙ ap (λ k. ends_where (ends_in_group (c.args.left - 1)) k (view c.args.value.now)) c.kind_of.ensures
    ∙ sym (ends_below c.args.left (view c.args.value.now) c.if-left-eq0.false)
