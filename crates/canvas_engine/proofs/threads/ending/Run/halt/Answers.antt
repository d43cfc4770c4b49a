use Rattle.std.proofs.Common.{rules, ◌≡◌, ◌++◌, drop, length, take, refl, sym, subst}
use Rattle.std.proofs.lemmas.List.{take_at}
use Rattle.canvas_semantics.specs.Line.{count_line, tree_of}
use Rattle.canvas_semantics.specs.States.{states}
use Rattle.canvas_history.specs.Roster.{roster_of}
use Rattle.canvas_runs.specs.Following.{Serves}
use Rattle.canvas_semantics.specs.States.{EachMay}
use Rattle.canvas_runs.specs.CallerRows.{reads_from}
use Rattle.canvas_engine.specs.Evidence.{IsThreadFault}
use Rattle.canvas_engine.specs.steps.Gathering.{IsHaltedFor}
use Rattle.canvas_engine.proofs.OnThreads.ThreadRuns.{halted_may, unworked_may}
use Rattle.canvas_engine.proofs.threads.ending.Run.halt.Goals as goal

pub returns-clause-err : goal.returns-clause-err
returns-clause-err g c =
    let self = c.args.self in
    let h = c.requires.gathered.1 in
    let many : length c.read_rows.new.rows ≡ count_line c.args.plan.now = search rules in
    let reads : Serves (roster_of c.args.plan.now) self.handles.seat (reads_from 1 c.read_rows.new.rows) c.read_rows.new.seat =
    subst (λ plan. Serves plan self.handles.seat (reads_from 1 c.read_rows.new.rows) c.read_rows.new.seat) h.plan c.read_rows.ensures.read in
    let whole : take self.rows.len (c.read_rows.new.rows ++ drop (length c.read_rows.new.rows) self.rows.items) ≡ c.read_rows.new.rows =
    take_at c.read_rows.new.rows _ self.rows.len (search rules) in
    subst (IsThreadFault c.args.workers (states (g.T.Tasks.behaviour c.args.tasks.now) (tree_of c.args.plan.now))) (sym c.halted_with.ensures)
    (halted_may c.args.workers (states (g.T.Tasks.behaviour c.args.tasks.now) (tree_of c.args.plan.now)) c.args.cause _ c.requires.workers
    (subst (λ rows. EachMay rows (states (g.T.Tasks.behaviour c.args.tasks.now) (tree_of c.args.plan.now))) (sym whole)
    (unworked_may (g.T.Tasks.behaviour c.args.tasks.now) c.args.plan.now c.args.workers self.objects.broker self.objects.backend.id self.handles.pass self.handles.seat h.joined h.planned c.read_rows.new.seat c.read_rows.new.rows reads many)))

pub returns-clause-why : goal.returns-clause-why
returns-clause-why g c = subst (IsHaltedFor c.args.cause) (sym c.halted_with.ensures) refl
