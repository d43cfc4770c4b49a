use Rattle.std.proofs.Common.{◌≡◌, ◌∷◌, [], ℕ, refl, sym, ◌∙◌, subst, ap}
use Rattle.canvas_history.specs.Callers.{Adds}
use Rattle.canvas_history.specs.History.{split, made_by}
use Rattle.canvas_history.proofs.CallerLaws.{made_fresh}
use Rattle.canvas_history.specs.Queue.{answer_of, next, May}
use Rattle.canvas_history.specs.Passes.{Pass}
use Rattle.canvas_broker.specs.steps.PassKnowledge.{Knowledge}
use Rattle.canvas_broker.specs.declared.view.View.{View}
use Rattle.canvas_broker.proofs.RuleSteps.{splits, forks}
use Rattle.canvas_broker.proofs.Made.{stands_own, child_is}
use Rattle.canvas_broker.proofs.broker.Broker.split.Goals.{in-Ok, in-Err}
use Rattle.canvas_broker.proofs.broker.Broker.split.Goals as goal

pub push_as-requires-clause-rule : goal.push_as-requires-clause-rule
push_as-requires-clause-rule g c n = splits n _ _ c.pass.invariant.2

pub another-requires-clause-rule : goal.another-requires-clause-rule
another-requires-clause-rule g c =
    let made = c.in-Ok.ensures.rule.0 in
    forks _ made.0 _ made.3 made.1 made.4

pub returns-clause-own : goal.returns-clause-own
returns-clause-own g c =
    let old : Knowledge g.row.T.Denot = c.pass.inside.pass.me.view.client.knows in
    let new : Knowledge g.row.T.Denot = c.push_as.new.pass.me.view.client.knows in
    elim c.match-push_as.branch [
      | in-Ok w ↦
          let made = w.in-Ok.ensures.rule.0 in
          let name : w.another.result.me.view.client.knows.name ≡ made.0 =
          ap (λ (v : View g.row.T.Denot). v.knows.name)
          (w.another.ensures.rule.1 ∙ child_is c.pass.inside.pass.me.view.client c.push_as.new.pass.me.view.client made) in
          let own : Adds old (split old.name made.0 ∷ []) new = stands_own old (split old.name made.0) new c.pass.invariant.2.0 (refl, tt) made.2 in
          let there : Adds old (split old.name w.another.result.me.view.client.knows.name ∷ []) w.another.new.pass.me.view.client.knows =
          subst (λ (x : ℕ × View g.row.T.Denot). Adds old (split old.name x.0 ∷ []) x.1.knows) (λ i. (sym name i, sym w.another.ensures.rule.0 i)) own in
          rw w.result-is (subst (λ (x : Pass g.row.T.Denot × Pass g.row.T.Denot). Adds x.0 (split x.0.name w.another.result.me.view.client.knows.name ∷ []) x.1)
          (λ i. (c.pass.view_is i, sym w.pass-is i)) there)
      | in-Err w ↦ rw w.result-is tt
    ]

pub returns-clause-fresh : goal.returns-clause-fresh
returns-clause-fresh g c =
    let old : Knowledge g.row.T.Denot = c.pass.inside.pass.me.view.client.knows in
    let new : Knowledge g.row.T.Denot = c.push_as.new.pass.me.view.client.knows in
    elim c.match-push_as.branch [
      | in-Ok w ↦
          let made = w.in-Ok.ensures.rule.0 in
          rw w.result-is (subst (λ (v : View g.row.T.Denot). made_by v.knows.name v.knows.seen ≡ [])
          (sym (w.another.ensures.rule.1 ∙ child_is c.pass.inside.pass.me.view.client c.push_as.new.pass.me.view.client made))
          (made_fresh [] answer_of next May old made.0 new.seen made.2.4))
      | in-Err w ↦ rw w.result-is tt
    ]
