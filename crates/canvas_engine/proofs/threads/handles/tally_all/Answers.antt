use Rattle.std.proofs.Common.{◌+◌, ◌∷◌, drop, length, map, arith, ap, sym, refl}
use Rattle.canvas_task.proofs.Turns.{item_first, put_on, put_all}
use Rattle.canvas_engine.specs.steps.WorkerSlots.{tally_in}
use Rattle.canvas_engine.proofs.threads.handles.tally_all.Goals as goal

pub loop-slot-init : goal.loop-slot-init
loop-slot-init c = (refl, c.requires)

pub unreachable-requires : goal.unreachable-requires
unreachable-requires c =
    let l = c.loop-slot in
    let left = ap (λ ss. length ss) (item_first c.args.slots.now l.slot-index c.slot-item.result c.loop-slot-test.true c.slot-item.is) in
    omega (arith, left, l.invariant.1, c.in-Err.ensures.full)

pub loop-slot-preserved : goal.loop-slot-preserved
loop-slot-preserved c =
    let l = c.loop-slot in
    let left = ap (λ ss. length ss) (item_first c.args.slots.now l.slot-index c.slot-item.result c.loop-slot-test.true c.slot-item.is) in (
      put_on (map tally_in) c.args.slots.now l.slot-index c.slot-item.result _ l.tallies.items c.push.new.self.items _ c.loop-slot-test.true
          c.slot-item.is (ap (λ t. t ∷ map tally_in (drop (l.slot-index + 1) c.args.slots.now)) (sym c.tally.ensures)) l.invariant.0
          c.in-Ok.ensures.items,
      omega (arith, left, l.invariant.1, c.in-Ok.ensures.len, c.in-Ok.ensures.capacity),
    )

pub returns : goal.returns
returns c = put_all (map tally_in) c.args.slots.now c.loop-slot.slot-index c.loop-slot.tallies.items _ c.loop-slot-test.false refl c.loop-slot.invariant.0
