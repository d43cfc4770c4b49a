use Rattle.std.proofs.Common.{rules, ◌≡◌, ◌∙◌, ◌+◌, [], ◌∷◌, ◌++◌, All, length, sym, ap, subst, arith}
use Rattle.std.proofs.lemmas.List.Elements.{All-nil, All-cons, All-append}
use Rattle.canvas_engine.proofs.OnThreads.WorkerSlots.{part_more, one_longer}
use Rattle.canvas_engine.specs.steps.WorkerSlots.{IsReadySlot, IsSplitOff, SplitsOff}
use Rattle.canvas_engine.proofs.threads.handles.split_all.Goals as goal

pub loop-index-preserved : goal.loop-index-preserved
loop-index-preserved g c =
    let objects = c.args.objects.now in
    let items : c.push.new.self.items ≡ c.loop-index.slots.items ++ c.in_ok-slot.slot ∷ [] = search rules in
    let ready : IsReadySlot objects.broker objects.backend.id c.in_ok-slot.slot = search rules in
    let part : IsSplitOff objects.backend.plan
    (c.loop-index.index + 1) c.loop-index.handles.pass c.loop-index.handles.seat c.in_ok-slot.slot c.split_one.new.handles.pass c.split_one.new.handles.seat
    = search rules in
    let long : length c.loop-index.slots.items ≡ c.loop-index.index = c.loop-index.invariant.1 in (
      search rules,
      ap (λ l. length l) items ∙ (one_longer c.loop-index.slots.items c.in_ok-slot.slot ∙ ap (λ n. n + 1) long),
      subst (All (IsReadySlot objects.broker objects.backend.id)) (sym items)
          (All-append (IsReadySlot objects.broker objects.backend.id) c.loop-index.slots.items (c.in_ok-slot.slot ∷ []) c.loop-index.invariant.2
          (All-cons (IsReadySlot objects.broker objects.backend.id) c.in_ok-slot.slot [] ready
          (All-nil (IsReadySlot objects.broker objects.backend.id)))),
      subst (λ l. SplitsOff objects.backend.plan 1 c.args.handles.now.pass c.args.handles.now.seat l c.split_one.new.handles.pass
          c.split_one.new.handles.seat) (sym items)
          (part_more objects.backend.plan 1
          (c.loop-index.index + 1) c.args.handles.now.pass c.loop-index.handles.pass c.split_one.new.handles.pass c.args.handles.now.seat c.loop-index.handles.seat c.split_one.new.handles.seat c.loop-index.slots.items
          c.in_ok-slot.slot c.loop-index.invariant.3 (omega (arith, long)) part),
    )
