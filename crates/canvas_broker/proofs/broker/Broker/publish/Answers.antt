use Rattle.std.proofs.Common.{None, ◌∷◌, [], refl, subst}
use Rattle.canvas_history.specs.Callers.{Adds}
use Rattle.canvas_history.specs.History.{calls}
use Rattle.canvas_history.specs.Queue.{publish}
use Rattle.canvas_history.specs.Passes.{Pass}
use Rattle.canvas_broker.specs.steps.PassKnowledge.{Knowledge, pass_of}
use Rattle.canvas_broker.proofs.RuleSteps.{publishes}
use Rattle.canvas_broker.proofs.Made.{stands_own}
use Rattle.canvas_broker.proofs.broker.Broker.publish.Goals.{in-Ok, in-Err}
use Rattle.canvas_broker.proofs.broker.Broker.publish.Goals as goal

pub push_as-requires-clause-rule : goal.push_as-requires-clause-rule
push_as-requires-clause-rule g c n = publishes n _ _ _ c.pass.invariant.2

pub returns-clause-own : goal.returns-clause-own
returns-clause-own g c =
    let old : Knowledge g.row.T.Denot = c.pass.inside.pass.me.view.client.knows in
    let new : Knowledge g.row.T.Denot = c.push_as.new.pass.me.view.client.knows in
    elim c.match-push_as.branch [
      | in-Ok w ↦ rw w.result-is (subst (λ (p : Pass g.row.T.Denot). Adds p (calls p.name (publish c.args.envelope) None ∷ []) (pass_of p.of new))
          c.pass.view_is
          (stands_own old (calls old.name (publish c.args.envelope) None) new c.pass.invariant.2.0 (refl, tt) w.in-Ok.ensures.rule.0.0))
      | in-Err w ↦ rw w.result-is tt
    ]
