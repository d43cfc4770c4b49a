use Rattle.std.proofs.Common.{rules, ◌≡◌, refl, subst, ◌≤◌}
use Rattle.canvas_history.specs.declared.stored.Stored.TheVariants.{First, Again}
use Rattle.canvas_history.specs.Table as table
use Rattle.canvas_runs.specs.Core as C
use Rattle.canvas_worker.specs.steps.Held.{held_in, alone_in}
use Rattle.canvas_runs.specs.Book.{book_on}
use Rattle.canvas_core.specs.CoreState.{asked}
use Rattle.canvas_core.specs.declared.ask.Reply.TheVariants as R
use Rattle.canvas_worker.specs.Polls.{WorkerView, left_at}
use Rattle.canvas_core.proofs.Cores.Resting.{busy_never}
use Rattle.canvas_core.specs.SeatRights.{LetsAsk}
use Rattle.canvas_core.proofs.Rights.Asking.{may_ask}
use Rattle.canvas_core.proofs.Cores.ShownAsks.{is_store}
use Rattle.canvas_worker.proofs.Polls.ToldAnswers.{asked_well}
use Rattle.canvas_worker.proofs.working.Working.store.Goals as goal

pub store-requires-clause-task : goal.store-requires-clause-task
store-requires-clause-task g c =
    let w : WorkerView = c.args.self.now in
    let same : w.backend ≡ c.self.inside.backend.now = search rules in
    subst (λ d. c.args.task ≤ d.plan.tasks) same
    (subst (LetsAsk w.backend.plan w.seat) (is_store (book_on w.backend.plan) c.args.task c.args.outcome w.core c.requires.asks)
    (may_ask w.backend.plan c.requires.ready.plan w.seat (left_at w) c.requires.ready.can))

pub returns-in-First-clause-acted : goal.returns-in-First-clause-acted
returns-in-First-clause-acted g c =
    let w : WorkerView = c.args.self.now in
    let u : WorkerView = record {
      broker = c.self.inside.queue.broker.now;
      backend = c.self.inside.backend.now;
      number = c.self.inside.number;
      pass =
          c.self.inside.pass;
      seat = c.store.new.seat;
      core = c.self.inside.core;
      held = held_in c.self.inside.source;
      alone = alone_in c.self.inside.source;
      taken = c.self.inside.taken;
      published =
          c.self.inside.published;
      first = c.saturating_add-self-inside.result;
      parts = c.self.inside.parts;
    } in
    let asks : asked (left_at w) ≡ C.to_table (table.store c.args.task c.args.outcome) =
    is_store (book_on w.backend.plan) c.args.task c.args.outcome w.core c.requires.asks in
    asked_well (g.T.Tasks.behaviour c.args.tasks.now) w u c.reply.new.self (C.to_table (table.store c.args.task c.args.outcome))
    (R.Stored First) c.reply.result c.reply.ensures.value c.requires.ready (record {
      asked_is = asks;
      suits = tt;
      found = tt;
      back = c.requires.reads_back;
      beside = search rules;
      bare = tt;
      makes = search rules;
      serves = search rules;
      counts = search rules;
      still = λ rests. absurd (busy_never (g.T.Tasks.behaviour c.args.tasks.now) w.backend.plan (left_at w) (C.from_table (table.was First))
          (C.to_table (table.store c.args.task c.args.outcome)) asks tt rests);
      none_dropped = refl;
      core = search rules;
    })

pub returns-in-Again-clause-acted : goal.returns-in-Again-clause-acted
returns-in-Again-clause-acted g c =
    let w : WorkerView = c.args.self.now in
    let u : WorkerView = record {
      broker = c.self.inside.queue.broker.now;
      backend = c.self.inside.backend.now;
      number = c.self.inside.number;
      pass =
          c.self.inside.pass;
      seat = c.store.new.seat;
      core = c.self.inside.core;
      held = held_in c.self.inside.source;
      alone = alone_in c.self.inside.source;
      taken = c.self.inside.taken;
      published =
          c.self.inside.published;
      first = c.self.inside.first;
      parts = c.self.inside.parts;
    } in
    let asks : asked (left_at w) ≡ C.to_table (table.store c.args.task c.args.outcome) =
    is_store (book_on w.backend.plan) c.args.task c.args.outcome w.core c.requires.asks in
    asked_well (g.T.Tasks.behaviour c.args.tasks.now) w u c.reply-in-Again.new.self (C.to_table (table.store c.args.task c.args.outcome))
    (R.Stored Again) c.reply-in-Again.result c.reply-in-Again.ensures.value c.requires.ready (record {
      asked_is = asks;
      suits = tt;
      found = tt;
      back = c.requires.reads_back;
      beside = search rules;
      bare = tt;
      makes = search rules;
      serves = search rules;
      counts = search rules;
      still = λ rests. absurd (busy_never (g.T.Tasks.behaviour c.args.tasks.now) w.backend.plan (left_at w) (C.from_table (table.was Again))
          (C.to_table (table.store c.args.task c.args.outcome)) asks tt rests);
      none_dropped = refl;
      core = search rules;
    })
