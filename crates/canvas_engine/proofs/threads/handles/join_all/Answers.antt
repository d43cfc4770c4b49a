use Rattle.std.proofs.Common.{rules, ◌≡◌, ◌∷◌, sym, subst}
use Rattle.std.specs.Vec.Iter.{into_iter_items}
use Rattle.canvas_history.specs.Seats as seats
use Rattle.canvas_history.specs.Passes as passes
use Rattle.canvas_history.specs.Callers.{Owes}
use Rattle.canvas_engine.specs.steps.WorkerSlots.{AreOf, TakesIn}
use Rattle.canvas_engine.specs.declared.threads.slot.SlotState.TheVariants.{Done}
use Rattle.canvas_engine.proofs.threads.handles.join_all.Goals as goal

pub loop-slot-preserved : goal.loop-slot-preserved
loop-slot-preserved g c =
    let items : into_iter_items c.loop-slot.slot-iterator ≡ c.in-Some.slot ∷ into_iter_items c.next.new.self = search rules in
    let state : c.in-Some.slot.state ≡ Done c.in-Done.left = search rules in
    let passes : Owes c.loop-slot.handles.pass c.in-Done.left.pass c.join_one.new.handles.pass × passes.IsHistory c.join_one.new.handles.pass = search rules in
    let seats : seats.Joined c.args.objects.now.backend.plan c.loop-slot.handles.seat c.in-Done.left.seat c.join_one.new.handles.seat = search rules in (
      tt,
      tt,
      search rules,
      (subst (λ l. AreOf c.args.objects.now.broker c.args.objects.now.backend.id l) items c.loop-slot.invariant.3).1,
      λ p s t. c.loop-slot.invariant.4 p s
          (subst (λ l. TakesIn c.args.objects.now.backend.plan c.loop-slot.handles.pass c.loop-slot.handles.seat l p s) (sym items) (
            c.in-Done.left,
            state,
            c.join_one.new.handles.pass,
            c.join_one.new.handles.seat,
            passes.0,
            passes.1,
            seats,
            t,
          )),
    )
