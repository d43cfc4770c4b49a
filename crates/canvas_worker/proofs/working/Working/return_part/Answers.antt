use Rattle.std.proofs.Common.{rules, ◌≡◌, refl}
use Rattle.canvas_history.specs.Table as table
use Rattle.canvas_runs.specs.Core as C
use Rattle.canvas_worker.specs.steps.Held.{held_in, alone_in}
use Rattle.canvas_runs.specs.Book.{book_on}
use Rattle.canvas_core.specs.CoreState.{asked}
use Rattle.canvas_core.specs.declared.ask.Reply.TheVariants as R
use Rattle.canvas_worker.specs.Polls.{WorkerView, left_at}
use Rattle.canvas_core.proofs.Cores.Resting.{busy_never}
use Rattle.canvas_core.proofs.Cores.ShownAsks.{is_part}
use Rattle.canvas_worker.proofs.Polls.ToldAnswers.{asked_well}
use Rattle.canvas_worker.proofs.working.Working.return_part.Goals as goal

pub returns-clause-acted : goal.returns-clause-acted
returns-clause-acted g c =
    let w : WorkerView = c.args.self.now in
    let u : WorkerView = record { broker = c.self.inside.queue.broker.now; backend = c.self.inside.backend.now; number = c.self.inside.number; pass = c.self.inside.pass; seat = c.part-count.new.seat; core = c.self.inside.core; held = held_in c.self.inside.source; alone = alone_in c.self.inside.source; taken = c.self.inside.taken; published = c.self.inside.published; first = c.self.inside.first; parts = c.saturating_add-self-inside.result } in
    let asks : asked (left_at w) ≡ C.to_table (table.part c.args.group c.args.task) =
    is_part (book_on w.backend.plan) c.args.group c.args.task w.core c.requires.asks in
    asked_well (g.T.Tasks.behaviour c.args.tasks.now) w u c.reply.new.self (C.to_table (table.part c.args.group c.args.task))
    (R.Counted c.part-count.result) c.reply.result c.reply.ensures.value c.requires.ready (record {
      asked_is = asks;
      suits = tt;
      found = tt;
      back = c.requires.reads_back;
      beside = search rules;
      bare = tt;
      makes = search rules;
      serves = search rules;
      counts = search rules;
      still = λ rests. absurd (busy_never (g.T.Tasks.behaviour c.args.tasks.now) w.backend.plan (left_at w) (C.from_table (table.count c.part-count.result))
          (C.to_table (table.part c.args.group c.args.task)) asks tt rests);
      none_dropped = refl;
      core = search rules;
    })
