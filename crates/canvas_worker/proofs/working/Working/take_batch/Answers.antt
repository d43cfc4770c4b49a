use Rattle.std.proofs.Common.{rules, ◌≡◌, sym, ap, ◌∙◌, subst, false, [], ◌∷◌, ◌++◌, List}
use Rattle.std.proofs.lemmas.Bool.{false≢true}
use Rattle.canvas_envelope.specs.declared.envelope.Envelope.{Envelope}
use Rattle.canvas_history.specs.Passes.{Took}
use Rattle.canvas_worker.specs.Polls.{WorkerView}
use Rattle.canvas_worker.proofs.Polls.GivenEnvelope.{given_well}
use Rattle.canvas_worker.proofs.Turns.{found_none}
use Rattle.canvas_worker.proofs.working.Working.take_batch.Goals as goal

pub returns-in-Some-clause-acted : goal.returns-in-Some-clause-acted
returns-in-Some-clause-acted g c =
    let w : WorkerView = c.args.self.now in
    let u : WorkerView = record { broker = c.self.inside.queue.broker.now; backend = c.self.inside.backend.now; number = c.self.inside.number; pass = c.take_batch-batch.new.pass; seat = c.self.inside.seat; core = c.self.inside.core; held = c.next.new.self; alone = false; taken = c.self.inside.taken; published = c.self.inside.published; first = c.self.inside.first; parts = c.self.inside.parts } in
    let e : Envelope = c.in-Some.envelope in
    let es : List Envelope = c.take_batch-batch.result in
    let took : Took w.pass es u.pass = search rules in
    let rest : es ≡ e ∷ u.held = search rules in
    given_well (g.T.Tasks.behaviour c.args.tasks.now) w u c.give.new.self es e c.give.result c.give.ensures c.requires.ready (record {
      asks = c.requires.asks;
      broker = search rules;
      backend = search rules;
      number = search rules;
      of = search rules;
      seat = search rules;
      core = search rules;
      took = took;
      held = ap (λ h. h ++ es) c.requires.bare ∙ rest;
      alone = λ alone. absurd (false≢true (sym c.requires.due ∙ alone));
      taken = search rules;
      published = search rules;
      first = search rules;
      parts = search rules;
    })

pub returns-in-None-clause-acted : goal.returns-in-None-clause-acted
returns-in-None-clause-acted g c =
    let w : WorkerView = c.args.self.now in
    let none : c.take_batch-batch.result ≡ [] = search rules in
    let took : Took w.pass c.take_batch-batch.result c.take_batch-batch.new.pass = search rules in
    let same : c.take_batch-batch.new.pass ≡ w.pass = subst (λ es. Took w.pass es c.take_batch-batch.new.pass) none took in
    found_none (g.T.Tasks.behaviour c.args.tasks.now) w _ c.requires.ready
    (c.requires.asks, c.requires.bare, c.requires.due, search (rules, same))
