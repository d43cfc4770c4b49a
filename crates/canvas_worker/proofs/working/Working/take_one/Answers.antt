use Rattle.std.proofs.Common.{rules, ◌≡◌, refl, sym, ap, ◌∙◌, Some, None, false, [], ◌∷◌, ◌++◌}
use Rattle.canvas_history.specs.History.{calls}
use Rattle.canvas_envelope.specs.declared.envelope.Envelope.{Envelope}
use Rattle.canvas_history.specs.Queue as queue
use Rattle.canvas_history.specs.Passes.{Stands, Empties}
use Rattle.canvas_runs.specs.Core as C
use Rattle.canvas_worker.specs.steps.Held.{held_in, alone_in}
use Rattle.canvas_runs.specs.Book.{book_on}
use Rattle.canvas_core.specs.CoreState.{asked}
use Rattle.canvas_core.specs.declared.ask.Reply.TheVariants as R
use Rattle.canvas_worker.specs.Polls.{WorkerView, left_at}
use Rattle.canvas_worker.proofs.Polls.GivenEnvelope.{given_well}
use Rattle.canvas_core.proofs.Cores.ShownAsks.{is_take, reads_back}
use Rattle.canvas_worker.proofs.Polls.ToldAnswers.{asked_well}
use Rattle.canvas_worker.proofs.working.Working.take_one.Goals as goal

pub returns-in-Some-clause-acted : goal.returns-in-Some-clause-acted
returns-in-Some-clause-acted g c =
    let w : WorkerView = c.args.self.now in
    let u : WorkerView = record { broker = c.self.inside.queue.broker.now; backend = c.self.inside.backend.now; number = c.self.inside.number; pass = c.take.new.pass; seat = c.self.inside.seat; core = c.self.inside.core; held = []; alone = false; taken = c.self.inside.taken; published = c.self.inside.published; first = c.self.inside.first; parts = c.self.inside.parts } in
    let e : Envelope = c.in-Some.envelope in
    let stands : Stands w.pass (calls w.pass.name queue.take (Some e)) u.pass = search rules in
    given_well (g.T.Tasks.behaviour c.args.tasks.now) w u c.give.new.self (e ∷ []) e c.give.result c.give.ensures c.requires.ready (record {
      asks = c.requires.asks;
      broker = search rules;
      backend = search rules;
      number = search rules;
      of = search rules;
      seat = search rules;
      core = search rules;
      took = stands;
      held = ap (λ h. h ++ e ∷ []) c.requires.bare;
      alone = λ _. sym c.requires.bare;
      taken = search rules;
      published = search rules;
      first = search rules;
      parts = search rules;
    })

pub returns-in-None-clause-acted : goal.returns-in-None-clause-acted
returns-in-None-clause-acted g c =
    let w : WorkerView = c.args.self.now in
    let u : WorkerView = record { broker = c.self.inside.queue.broker.now; backend = c.self.inside.backend.now; number = c.self.inside.number; pass = c.take.new.pass; seat = c.self.inside.seat; core = c.self.inside.core; held = held_in c.after_none.result; alone = alone_in c.after_none.result; taken = c.self.inside.taken; published = c.self.inside.published; first = c.self.inside.first; parts = c.self.inside.parts } in
    let asks : asked (left_at w) ≡ C.to_queue queue.take = is_take (book_on w.backend.plan) w.core c.requires.asks in
    let bare : u.held ≡ [] = search rules in
    let empty : Empties u.pass = search rules in
    asked_well (g.T.Tasks.behaviour c.args.tasks.now) w u c.answer.new.self (C.to_queue queue.take) (R.Taken None)
    c.answer.result c.answer.ensures.value c.requires.ready
    (record {
      asked_is = asks;
      suits = tt;
      found = tt;
      back = reads_back w.core.left w.core.task c.requires.asks;
      beside = (search rules, search rules, search rules, search rules, search rules, bare ∙ sym c.requires.bare, search rules);
      bare = tt;
      makes = search rules;
      serves = search rules;
      counts = search rules;
      still = λ _. (bare, empty);
      none_dropped = refl;
      core = search rules;
    })
