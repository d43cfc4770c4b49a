use Rattle.std.proofs.Common.{ap, arith, length}
use Rattle.canvas_command.proofs.Batches.{last_batch, none_read, one_longer, one_read, some_batch}
use Rattle.canvas_command.proofs.each.Flow.next_batch.Goals as goal

pub loop-place-init : goal.loop-place-init
loop-place-init g c = (ap length c.new-batch.ensures.items, none_read c.args.self.now.each.end _ _ c.new-batch.ensures.items)

pub returns-then-not-contains : goal.returns-then-not-contains
returns-then-not-contains g c =
    let (long, read) = c.loop-place.invariant in
    some_batch c.args.self.now.each.end _ _ _ (omega (arith, long, c.if-place-gt0.true)) read

pub returns-then-not-branch : goal.returns-then-not-branch
returns-then-not-branch g c =
    let (long, read) = c.loop-place.invariant in
    last_batch c.args.self.now.each.end _ _ _ _ _ c.in_ok-push_next.field-0 c.if-not-branch.true read c.in_ok-push_next.ensures

pub loop-place-preserved : goal.loop-place-preserved
loop-place-preserved g c =
    let (long, read) = c.loop-place.invariant in
    let more = c.in_ok-push_next.ensures in (
      one_longer c.args.self.now.each.end _ _ _ _ c.in_ok-push_next.field-0 c.loop-place.place c.if-not-branch.false more long,
      one_read c.args.self.now.each.end _ _ _ _ _ c.in_ok-push_next.field-0 c.if-not-branch.false read more,
    )

pub returns : goal.returns
returns g c =
    let (long, read) = c.loop-place.invariant in
    some_batch c.args.self.now.each.end _ _ _ (omega (arith, long, c.loop-place-test.false)) read
