use Rattle.std.proofs.Common.{rules, Some, ◌∷◌, [], refl, sym, subst}
use Rattle.canvas_history.specs.Callers.{Adds}
use Rattle.canvas_history.specs.History.{calls}
use Rattle.canvas_history.specs.Queue.{take}
use Rattle.canvas_history.specs.Passes.{Pass, Stands, Empties}
use Rattle.canvas_broker.specs.steps.PassKnowledge.{Knowledge, pass_of}
use Rattle.canvas_broker.specs.steps.Rule.{IsReady}
use Rattle.canvas_broker.specs.declared.view.View.{View}
use Rattle.canvas_broker.proofs.RuleSteps.{takes, misses}
use Rattle.canvas_broker.proofs.Made.{stands_own, empties}
use Rattle.canvas_broker.proofs.broker.Broker.take.Goals as goal

pub pop_as-requires-clause-rule : goal.pop_as-requires-clause-rule
pop_as-requires-clause-rule g c =
    let ready : IsReady c.loop.pass-inside.pass.me.view.client = subst (λ (v : View g.row.T.Denot). IsReady v) (sym c.loop.invariant.3) c.pass.invariant.2 in
    (takes _ _ ready, misses _ _ ready)

pub returns-in-None-pop_as-clause-empty : goal.returns-in-None-pop_as-clause-empty
returns-in-None-pop_as-clause-empty g c =
    let v : View g.row.T.Denot = c.loop.pass-inside.pass.me.view.client in
    subst (λ (p : Pass g.row.T.Denot). Empties p) c.pass.view_is
    (subst (λ (x : View g.row.T.Denot). Empties x.knows) c.loop.invariant.3 (empties v.knows (c.in-None-pop_as.ensures.rule.1 refl)))

pub returns-in-Some-Queued-clause-own : goal.returns-in-Some-Queued-clause-own
returns-in-Some-Queued-clause-own g c =
    let e : g.row.T.Denot = c.in-Some-Queued.envelope in
    let new : Knowledge g.row.T.Denot = c.pop_as.new.pass.me.view.client.knows in
    let stands : Stands c.loop.pass-inside.pass.me.view.client.knows (calls c.loop.pass-inside.pass.me.view.client.knows.name take (Some e)) new =
    search rules in
    subst (λ (p : Pass g.row.T.Denot). Adds p (calls p.name take (Some e) ∷ []) (pass_of p.of new)) c.pass.view_is
    (stands_own c.pass.inside.pass.me.view.client.knows _ new c.pass.invariant.2.0 (refl, tt)
    (subst (λ (x : View g.row.T.Denot). Stands x.knows (calls x.knows.name take (Some e)) new) c.loop.invariant.3 stands))
