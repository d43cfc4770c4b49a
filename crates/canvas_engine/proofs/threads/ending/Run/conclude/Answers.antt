use Rattle.std.proofs.Common.{◌∙◌, sym, subst}
use Rattle.std.proofs.lemmas.Result.{IfOk-weaker, IfErr-weaker}
use Rattle.canvas_semantics.specs.Line.{Line, tree_of}
use Rattle.canvas_semantics.specs.States.{states}
use Rattle.canvas_history.specs.Roster.{roster_of}
use Rattle.canvas_worker.specs.Finished.{Finished}
use Rattle.canvas_history.specs.Callers.{told}
use Rattle.canvas_engine.specs.Evidence.{IsRun, IsThreadFault}
use Rattle.canvas_engine.specs.Headline.{OnlyWanted}
use Rattle.canvas_engine.specs.declared.threads.records.Records.{Records}
use Rattle.canvas_engine.proofs.OnThreads.WorkerSlots.{finished_of}
use Rattle.canvas_engine.proofs.OnThreads.ThreadRuns.{concluded, halted_may, worked_may}
use Rattle.canvas_engine.proofs.OnThreads.Wanted.{only_wanted}
use Rattle.canvas_engine.proofs.threads.ending.Run.conclude.Goals as goal

pub finish-requires-clause-own : goal.finish-requires-clause-own
finish-requires-clause-own g c =
    let self = c.args.self in
    (finished_of (g.T.Tasks.behaviour c.args.tasks.now) (λ _ _. ⊥) self.objects.backend.plan 0 self.handles.pass self.handles.seat c.in-Some.left
    c.in-Some.ensures).1
    ∙ c.requires.gathered.0.own.1

pub returns-in-Some-clause-ok : goal.returns-in-Some-clause-ok
returns-in-Some-clause-ok g c =
    let self = c.args.self in
    let l : Line = c.args.plan.now in
    let behaviour = g.T.Tasks.behaviour c.args.tasks.now in
    let all = c.requires.gathered.0 in
    let of = finished_of behaviour (λ _ _. ⊥) self.objects.backend.plan 0 self.handles.pass self.handles.seat c.in-Some.left c.in-Some.ensures in
    let f : Finished behaviour (λ _ _. ⊥) (roster_of l) 0 self.handles.pass self.handles.seat c.in-Some.left =
    subst (λ plan. Finished behaviour (λ _ _. ⊥) plan 0 self.handles.pass self.handles.seat c.in-Some.left) all.plan c.in-Some.ensures in
    IfOk-weaker c.finish.result _ _
    (λ r k. subst (λ records. IsRun behaviour l c.args.workers r.0.rows records) (sym k.4)
    (concluded behaviour l c.args.workers self all c.in-Some.left f k.0 (of.0 ∙ all.own.0) k.1 k.2 r.0.rows k.3)) c.finish.ensures.ok

pub returns-in-Some-clause-wanted : goal.returns-in-Some-clause-wanted
returns-in-Some-clause-wanted g c =
    let self = c.args.self in
    let l : Line = c.args.plan.now in
    let behaviour = g.T.Tasks.behaviour c.args.tasks.now in
    let may_want = g.G.Gate.may_want c.args.controls.now.gate.now in
    let all = c.requires.gathered.0 in
    let f : Finished behaviour (λ _ _. ⊥) (roster_of l) 0 self.handles.pass self.handles.seat c.in-Some.left =
    subst (λ plan. Finished behaviour (λ _ _. ⊥) plan 0 self.handles.pass self.handles.seat c.in-Some.left) all.plan c.in-Some.ensures in
    IfOk-weaker c.finish.result _ _
    (λ r k. subst (λ (records : Records). OnlyWanted may_want (told records.pass)) (sym k.4)
    (only_wanted behaviour l c.args.workers self.objects.broker self.objects.backend.id self.handles.pass self.handles.seat all.joined
    may_want c.requires.gathered.1 c.in-Some.left f k.1 r.0.rows k.3.1)) c.finish.ensures.ok

pub returns-in-Some-clause-err : goal.returns-in-Some-clause-err
returns-in-Some-clause-err g c =
    let self = c.args.self in
    let l : Line = c.args.plan.now in
    let behaviour = g.T.Tasks.behaviour c.args.tasks.now in
    let all = c.requires.gathered.0 in
    let f : Finished behaviour (λ _ _. ⊥) (roster_of l) 0 self.handles.pass self.handles.seat c.in-Some.left =
    subst (λ plan. Finished behaviour (λ _ _. ⊥) plan 0 self.handles.pass self.handles.seat c.in-Some.left) all.plan c.in-Some.ensures in
    IfErr-weaker c.finish.result _ _
    (λ e k. subst (IsThreadFault c.args.workers (states behaviour (tree_of l))) (sym k.3)
    (halted_may c.args.workers (states behaviour (tree_of l)) k.0 k.1 c.requires.workers
    (worked_may behaviour l c.args.workers self.objects.broker self.objects.backend.id self.handles.pass self.handles.seat all.joined all.planned c.in-Some.left
    (λ _ _. ⊥) f k.2 k.1 k.4.1 k.4.0))) c.finish.ensures.err
