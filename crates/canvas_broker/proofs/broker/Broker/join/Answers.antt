use Rattle.std.proofs.Common.{◌≡◌, [], refl, sym, ◌∙◌, subst}
use Rattle.canvas_history.proofs.CallerLaws.{leaves_one}
use Rattle.canvas_history.proofs.Histories.{in_left}
use Rattle.canvas_history.specs.Queue.{answer_of, next, May}
use Rattle.canvas_history.specs.Passes.{IsHistory}
use Rattle.canvas_broker.specs.steps.Rule.{IsReady, united}
use Rattle.canvas_broker.specs.declared.view.View.{View}
use Rattle.canvas_broker.proofs.RuleSteps.{merges, hears, united_ready}
use Rattle.canvas_broker.proofs.broker.Broker.join.Goals as goal

pub absorb-requires-clause-rule : goal.absorb-requires-clause-rule
absorb-requires-clause-rule g c = merges _ _ _ _ c.pass.invariant.2 c.other.invariant.2

pub len_as-requires-clause-rule : goal.len_as-requires-clause-rule
len_as-requires-clause-rule g c =
    hears _ _ (united_ready c.pass.inside.pass.me.view.client c.other.inside.pass.me.view.client _ c.absorb.ensures.rule c.pass.invariant.2.0)

pub invariant_of-pass : goal.invariant_of-pass
invariant_of-pass g c =
    let v = c.pass.inside.pass.me.view.client in let w = c.other.inside.pass.me.view.client in
    let same : c.len_as.new.pass.me.view.client ≡ united v w = c.len_as.ensures.queue.2 ∙ c.absorb.ensures.rule in (
      c.len_as.ensures.queue.0.1,
      c.len_as.ensures.queue.0.2,
      subst (λ (x : View g.row.T.Denot). IsReady x) (sym same) (in_left v.knows.name v.knows.mine w.knows.mine c.pass.invariant.2.0, refl),
    )

pub returns-clause-alone : goal.returns-clause-alone
returns-clause-alone g c =
    leaves_one [] answer_of next May c.len_as.new.pass.me.view.client.knows
    (subst (λ (x : View g.row.T.Denot). IsHistory x.knows) (sym c.len_as.ensures.queue.2) c.len_as.ensures.rule.2.1)
