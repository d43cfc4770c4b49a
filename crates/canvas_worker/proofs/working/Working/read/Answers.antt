use Rattle.std.proofs.Common.{rules, ◌≡◌, Some, refl, sym, subst, ◌≤◌}
use Rattle.std.specs.Prelude.{slice_get}
use Rattle.canvas_history.specs.Table as table
use Rattle.canvas_history.specs.Roster.{members}
use Rattle.canvas_runs.specs.Book.{book_on}
use Rattle.canvas_runs.specs.Core as C
use Rattle.canvas_worker.specs.steps.Held.{held_in, alone_in}
use Rattle.canvas_core.specs.CoreState.{asked}
use Rattle.canvas_core.specs.Asks.{FoundOf}
use Rattle.canvas_core.specs.declared.ask.Reply.TheVariants as R
use Rattle.canvas_worker.specs.Polls.{WorkerView, left_at}
use Rattle.canvas_core.proofs.Cores.Resting.{busy_never}
use Rattle.canvas_core.specs.SeatRights.{LetsAsk}
use Rattle.canvas_core.proofs.Rights.Asking.{may_ask}
use Rattle.canvas_core.proofs.Cores.ShownAsks.{is_read}
use Rattle.canvas_worker.proofs.Polls.ToldAnswers.{asked_well}
use Rattle.canvas_worker.proofs.working.Working.read.Goals as goal

pub read-found-requires-clause-task : goal.read-found-requires-clause-task
read-found-requires-clause-task g c =
    let w : WorkerView = c.args.self.now in
    let same : w.backend ≡ c.self.inside.backend.now = search rules in
    let there : slice_get (members w.backend.plan c.args.group) c.args.place ≡ Some c.in-Some.task = search rules in
    subst (λ d. c.in-Some.task ≤ d.plan.tasks) same
    (subst (LetsAsk w.backend.plan w.seat) (is_read (book_on w.backend.plan) c.args.group c.args.place c.in-Some.task w.core c.requires.asks there)
    (may_ask w.backend.plan c.requires.ready.plan w.seat (left_at w) c.requires.ready.can))

pub returns-clause-acted : goal.returns-clause-acted
returns-clause-acted g c =
    let w : WorkerView = c.args.self.now in
    let u : WorkerView = record {
      broker = c.self.inside.queue.broker.now;
      backend = c.self.inside.backend.now;
      number = c.self.inside.number;
      pass = c.self.inside.pass;
      seat = c.read-found.new.seat;
      core = c.self.inside.core;
      held = held_in c.self.inside.source;
      alone = alone_in c.self.inside.source;
      taken = c.self.inside.taken;
      published = c.self.inside.published;
      first = c.self.inside.first;
      parts = c.self.inside.parts;
    } in
    let there : slice_get (members w.backend.plan c.args.group) c.args.place ≡ Some c.in-Some.task = search rules in
    let asks : asked (left_at w) ≡ C.to_table (table.read c.in-Some.task) =
    is_read (book_on w.backend.plan) c.args.group c.args.place c.in-Some.task w.core c.requires.asks there in
    asked_well (g.T.Tasks.behaviour c.args.tasks.now) w u c.reply.new.self (C.to_table (table.read c.in-Some.task))
    (R.Found c.in-Some.task c.read-found.result) c.reply.result c.reply.ensures.value c.requires.ready (record {
      asked_is = asks;
      suits = tt;
      found = subst (λ a. FoundOf (book_on w.backend.plan) (R.Found c.in-Some.task c.read-found.result) a) (sym c.requires.asks) there;
      back = c.requires.reads_back;
      beside = search rules;
      bare = tt;
      makes = search rules;
      serves = search rules;
      counts = search rules;
      still = λ rests. absurd (busy_never (g.T.Tasks.behaviour c.args.tasks.now) w.backend.plan (left_at w) (C.from_table (table.found c.read-found.result))
          (C.to_table (table.read c.in-Some.task)) asks tt rests);
      none_dropped = refl;
      core = search rules;
    })
