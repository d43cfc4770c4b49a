use Rattle.std.proofs.Common.{rules, ◌≡◌, None, refl, ap, ◌∙◌}
use Rattle.canvas_history.specs.Queue as queue
use Rattle.canvas_runs.specs.Core as C
use Rattle.canvas_worker.specs.steps.Held.{held_in, alone_in}
use Rattle.canvas_worker.specs.Polls.{WorkerView, left_at}
use Rattle.canvas_core.proofs.Cores.Resting.{busy_never}
use Rattle.canvas_runs.specs.Book.{book_on}
use Rattle.canvas_core.specs.Asks.{suits}
use Rattle.canvas_core.specs.CoreState.{CoreView, asked, next, handed, after_reply}
use Rattle.canvas_core.specs.declared.ask.Reply.TheVariants as R
use Rattle.canvas_core.proofs.Cores.ShownAsks.{handed_out, handed_same, still_publishes}
use Rattle.canvas_worker.proofs.Polls.ToldAnswers.{asked_well, ends_badly}
use Rattle.canvas_worker.proofs.working.Working.publish.Goals as goal

pub reply-requires-clause-suits : goal.reply-requires-clause-suits
reply-requires-clause-suits g c =
    let w : WorkerView = c.args.self.now in
    let core : c.envelope.new.self ≡ handed w.core = search rules in
    ap (λ a. suits a R.Published) (ap (λ (k : CoreView). next k) core ∙ still_publishes w.core.task w.core.left c.requires.asks)

pub returns-in-Ok-clause-acted : goal.returns-in-Ok-clause-acted
returns-in-Ok-clause-acted g c =
    let w : WorkerView = c.args.self.now in
    let u : WorkerView = record {
      broker = c.self.inside.queue.broker.now;
      backend = c.self.inside.backend.now;
      number = c.self.inside.number;
      pass =
          c.publish.new.pass;
      seat = c.self.inside.seat;
      core = c.envelope.new.self;
      held = held_in c.self.inside.source;
      alone = alone_in c.self.inside.source;
      taken = c.self.inside.taken;
      published =
          c.saturating_add-self-inside.result;
      first = c.self.inside.first;
      parts = c.self.inside.parts;
    } in
    let asks : asked (left_at w) ≡ C.to_queue (queue.publish c.in-Some.envelope) =
    handed_out (book_on w.backend.plan) c.in-Some.envelope w.core c.requires.ready.inside (search rules) in
    let core : u.core ≡ handed w.core = search rules in
    asked_well (g.T.Tasks.behaviour c.args.tasks.now) w u c.reply.new.self
    (C.to_queue (queue.publish c.in-Some.envelope)) R.Published c.reply.result c.reply.ensures.value c.requires.ready (record {
      asked_is = asks;
      suits = tt;
      found = tt;
      back = c.requires.reads_back;
      beside = search rules;
      bare = tt;
      makes = search rules;
      serves = search rules;
      counts = search rules;
      still = λ rests. absurd (busy_never (g.T.Tasks.behaviour c.args.tasks.now) w.backend.plan (left_at w) (C.from_queue None)
          (C.to_queue (queue.publish c.in-Some.envelope)) asks tt rests);
      none_dropped = refl;
      core = ap (λ z. after_reply (g.T.Tasks.behaviour c.args.tasks.now) (book_on w.backend.plan) z R.Published) core
          ∙ handed_same (g.T.Tasks.behaviour c.args.tasks.now) (book_on w.backend.plan) w.core R.Published;
    })

pub returns-in-Err-clause-acted : goal.returns-in-Err-clause-acted
returns-in-Err-clause-acted g c =
    let w : WorkerView = c.args.self.now in
    let u : WorkerView = record {
      broker = c.self.inside.queue.broker.now;
      backend = c.self.inside.backend.now;
      number = c.self.inside.number;
      pass =
          c.publish.new.pass;
      seat = c.self.inside.seat;
      core = c.envelope.new.self;
      held = held_in c.self.inside.source;
      alone = alone_in c.self.inside.source;
      taken = c.self.inside.taken;
      published =
          c.self.inside.published;
      first = c.self.inside.first;
      parts = c.self.inside.parts;
    } in
    let asks : asked (left_at w) ≡ C.to_queue (queue.publish c.in-Some.envelope) =
    handed_out (book_on w.backend.plan) c.in-Some.envelope w.core c.requires.ready.inside (search rules) in
    let core : u.core ≡ handed w.core = search rules in
    ends_badly (g.T.Tasks.behaviour c.args.tasks.now) w u (C.to_queue (queue.publish c.in-Some.envelope)) (R.NotPublished c.in-Some.envelope) c.fail.result
    c.fail.ensures c.requires.ready (record {
      asked_is = asks;
      suits = tt;
      found = tt;
      back = c.requires.reads_back;
      beside = search rules;
      bare = tt;
      makes = search rules;
      serves = search rules;
      counts = search rules;
      still = λ rests. absurd (busy_never (g.T.Tasks.behaviour c.args.tasks.now) w.backend.plan (left_at w) C.refused
          (C.to_queue (queue.publish c.in-Some.envelope)) asks tt rests);
      none_dropped = refl;
      core = ap (λ z. after_reply (g.T.Tasks.behaviour c.args.tasks.now) (book_on w.backend.plan) z (R.NotPublished c.in-Some.envelope)) core
          ∙ handed_same (g.T.Tasks.behaviour c.args.tasks.now) (book_on w.backend.plan) w.core (R.NotPublished c.in-Some.envelope);
    })
