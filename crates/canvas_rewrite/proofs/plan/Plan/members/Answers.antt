use Rattle.std.proofs.Common.{◌≡◌, ◌≤◌, All, rules, subst}
use Rattle.canvas_semantics.specs.Line.{count_line, members}
use Rattle.canvas_rewrite.specs.Planned.{IsPlan, Apart}
use Rattle.canvas_rewrite.proofs.Members.{plan_apart, all_known}
use Rattle.canvas_rewrite.proofs.plan.Plan.members.Goals as goal

pub returns-clause-apart : goal.returns-clause-apart
returns-clause-apart c = subst Apart c.self.view_is (plan_apart _ c.self.invariant.planned)

pub returns-clause-known : goal.returns-clause-known
returns-clause-known c =
    let same : members c.args.self.now c.args.group ≡ c.members.result.now = search rules in
    subst (λ ks. All (λ k. k ≤ count_line c.args.self.now) ks) same
    (all_known c.args.self.now (subst IsPlan c.self.view_is c.self.invariant.planned) c.args.group)
