use Rattle.std.proofs.Common.{rules, ◌≡◌, ◌∙◌, false, [], ◌∷◌, sym, append-nil}
use Rattle.std.proofs.lemmas.Bool.{false≢true}
use Rattle.canvas_envelope.specs.declared.envelope.Envelope.{Envelope}
use Rattle.canvas_history.specs.Passes.{Took}
use Rattle.canvas_worker.specs.steps.Held.{held_in, alone_in}
use Rattle.canvas_worker.specs.Polls.{WorkerView}
use Rattle.canvas_worker.proofs.Polls.GivenEnvelope.{given_well}
use Rattle.canvas_worker.proofs.working.Working.take.Goals as goal

pub returns-in-Some-clause-acted : goal.returns-in-Some-clause-acted
returns-in-Some-clause-acted g c =
    let w : WorkerView = c.args.self.now in
    let u : WorkerView = record { broker = c.self.inside.queue.broker.now; backend = c.self.inside.backend.now; number = c.self.inside.number; pass = c.self.inside.pass; seat = c.self.inside.seat; core = c.self.inside.core; held = held_in c.next.new.self; alone = alone_in c.next.new.self; taken = c.self.inside.taken; published = c.self.inside.published; first = c.self.inside.first; parts = c.self.inside.parts } in
    let e : Envelope = c.in-Some.envelope in
    let rest : w.held ≡ e ∷ u.held = search rules in
    let took : Took w.pass [] u.pass = search rules in
    let due : w.alone ≡ false = search rules in
    given_well (g.T.Tasks.behaviour c.args.tasks.now) w u c.give.new.self [] e c.give.result c.give.ensures c.requires.ready (record {
      asks = c.requires.asks;
      broker = search rules;
      backend = search rules;
      number = search rules;
      of = search rules;
      seat = search rules;
      core = search rules;
      took = took;
      held = append-nil w.held ∙ rest;
      alone = λ alone. absurd (false≢true (sym due ∙ alone));
      taken = search rules;
      published = search rules;
      first = search rules;
      parts = search rules;
    })
