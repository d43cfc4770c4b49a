use Rattle.std.proofs.Common.{◌≡◌, ◌-◌, arith, length, refl, sym, subst}
use Rattle.canvas_envelope.specs.steps.Listing.{Listing}
use Rattle.canvas_envelope.proofs.Written.Listing.{from_none, from_next, from_task}
use Rattle.canvas_envelope.proofs.writing.line.add_all.Goals as goal

pub loop-left-init : goal.loop-left-init
loop-left-init c = (
  omega arith,
  λ head line h. subst (Listing head c.args.listed.text.items c.args.listed.ends.items)
      (sym (from_none c.args.tasks.now (length c.args.tasks.now) line refl)) h,
)

pub loop-left-preserved : goal.loop-left-preserved
loop-left-preserved c = (
  omega arith,
  λ head line h. subst (Listing head c.in_ok-listed.listed.text.items c.in_ok-listed.listed.ends.items)
      (sym (from_next c.args.tasks.now c.loop-left.left (c.loop-left.left - 1) c.index-tasks-left.result line (omega arith) (omega arith)
      c.index-tasks-left.is))
      (c.in_ok-listed.ensures head (from_task c.args.tasks.now c.loop-left.left line) (c.loop-left.invariant.1 head line h)),
)

pub returns : goal.returns
returns c head line h =
    let all : c.loop-left.left ≡ 0 = omega arith in
    subst (λ n. Listing head c.loop-left.listed.text.items c.loop-left.listed.ends.items (from_task c.args.tasks.now n line)) all
    (c.loop-left.invariant.1 head line h)
