use Rattle.std.proofs.Common.{rules, ◌≡◌, ◌∙◌, ◌++◌, All, drop, length, map, take, sym, subst}
use Rattle.std.proofs.lemmas.List.{take_at}
use Rattle.canvas_semantics.specs.Line.{Line, tree_of}
use Rattle.canvas_semantics.specs.States.{states}
use Rattle.canvas_effects.specs.Effects.{first_messages}
use Rattle.canvas_runs.specs.Following.{Makes}
use Rattle.canvas_runs.specs.Run.{published_all}
use Rattle.canvas_core.specs.declared.cause.Cause.TheVariants.{Memory}
use Rattle.canvas_engine.specs.Evidence.{IsThreadFault}
use Rattle.canvas_engine.specs.steps.WorkerSlots.{AllRan, AreOf, LeftARecord, TakesIn, tally_in}
use Rattle.canvas_engine.specs.declared.threads.slot.WorkerSlot.{WorkerSlot}
use Rattle.canvas_engine.proofs.OnThreads.WorkerSlots.{are_of, each_ran}
use Rattle.canvas_engine.proofs.OnThreads.ThreadRuns.{gathered, halted_may, if_none, long_envelopes, long_states, pending_may, well_gathered, why_well}
use Rattle.canvas_engine.proofs.threads.running.gather.Goals as goal

pub returns-in-Err-clause-err : goal.returns-in-Err-clause-err
returns-in-Err-clause-err g c =
    let start = c.args.start in
    let l : Line = c.args.plan.now in
    subst (IsThreadFault c.args.workers (states (g.T.Tasks.behaviour c.args.tasks.now) (tree_of l))) (sym c.halted_with.ensures)
    (halted_may c.args.workers (states (g.T.Tasks.behaviour c.args.tasks.now) (tree_of l)) Memory start.run.rows.items c.requires.workers
    (pending_may start.run.rows.items (states (g.T.Tasks.behaviour c.args.tasks.now) (tree_of l))
    (c.requires.start.rows ∙ sym (long_states (g.T.Tasks.behaviour c.args.tasks.now) l)) c.requires.start.pending))

pub join_all-requires-clause-others : goal.join_all-requires-clause-others
join_all-requires-clause-others g c =
    let start = c.args.start in
    let may_want = g.G.Gate.may_want c.args.controls.now.gate.now in
    let whole : take start.slots.len (c.work_on_threads.new.slots ++ drop (length c.work_on_threads.new.slots) start.slots.items)
    ≡ c.work_on_threads.new.slots =
    take_at c.work_on_threads.new.slots _ start.slots.len (search rules) in
    let many : length c.work_on_threads.new.slots ≡ length start.slots.items = search rules in
    let ran : AllRan (g.T.Tasks.behaviour c.args.tasks.now) may_want start.run.objects.backend.plan start.slots.items c.work_on_threads.new.slots = search rules in
    let done : All (λ s. LeftARecord s.state)
    (take start.slots.len (c.work_on_threads.new.slots ++ drop (length c.work_on_threads.new.slots) start.slots.items)) = search rules in
    subst (AreOf start.run.objects.broker start.run.objects.backend.id) (sym whole)
    (are_of (g.T.Tasks.behaviour c.args.tasks.now) may_want start.run.objects.broker start.run.objects.backend.id start.run.objects.backend.plan start.slots.items c.work_on_threads.new.slots c.requires.start.ready
    (each_ran (g.T.Tasks.behaviour c.args.tasks.now) may_want start.run.objects.backend.plan start.slots.items
    c.work_on_threads.new.slots many ran)
    (subst (All (λ (s : WorkerSlot). LeftARecord s.state)) whole done))

pub returns-clause-ok : goal.returns-clause-ok
returns-clause-ok g c =
    let start = c.args.start in
    let may_want = g.G.Gate.may_want c.args.controls.now.gate.now in
    let whole : take start.slots.len (c.work_on_threads.new.slots ++ drop (length c.work_on_threads.new.slots) start.slots.items)
    ≡ c.work_on_threads.new.slots =
    take_at c.work_on_threads.new.slots _ start.slots.len (search rules) in
    let many : length c.work_on_threads.new.slots ≡ length start.slots.items = search rules in
    let ran : AllRan (g.T.Tasks.behaviour c.args.tasks.now) may_want start.run.objects.backend.plan start.slots.items c.work_on_threads.new.slots = search rules in
    let made : Makes start.run.handles.pass (published_all start.envelopes.items) c.publish_all.new.pass = search rules in
    let taken : TakesIn start.run.objects.backend.plan c.publish_all.new.pass start.run.handles.seat c.work_on_threads.new.slots c.join_all.new.handles.pass c.join_all.new.handles.seat =
    subst (λ xs. TakesIn start.run.objects.backend.plan c.publish_all.new.pass start.run.handles.seat xs c.join_all.new.handles.pass c.join_all.new.handles.seat) whole c.join_all.ensures.taken in
    let judged : c.deref-3.result.now ≡ c.work_on_threads.new.slots = search rules in
    let counted : c.tally_all.new.tallies.items ≡ start.run.tallies.items ++ map tally_in c.deref-3.result.now = search rules in
    let all = gathered (g.T.Tasks.behaviour c.args.tasks.now) may_want c.args.plan.now c.args.workers start c.requires.start c.publish_all.new.pass c.work_on_threads.new.slots c.join_all.new.handles.pass c.join_all.new.handles.seat made ran many taken in (
      record {
        planned = c.requires.start.planned;
        plan = c.requires.start.plan;
        own = search rules;
        joined = all.0;
        first = c.requires.start.first ∙ long_envelopes start.envelopes.items (first_messages c.args.plan.now) c.requires.start.envelopes;
        rows = c.requires.start.rows;
        well = if_none c.fault_of-fault.result
            (λ all_well. well_gathered
            (g.T.Tasks.behaviour c.args.tasks.now) c.args.plan.now all.0.callers c.deref-3.result.now c.work_on_threads.new.slots start.run.tallies.items c.tally_all.new.tallies.items judged c.requires.start.tallies all.2 all.3 (all_well, counted))
            (why_well c.deref-3.result.now c.fault_of-fault.result c.fault_of-fault.ensures);
      },
      all.1,
    )
