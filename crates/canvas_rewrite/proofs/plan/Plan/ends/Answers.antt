use Rattle.std.proofs.Common.{◌≡◌, ◌∙◌, ◌∷◌, [], ap, sym, length, get_or, arith}
use Rattle.canvas_semantics.specs.Line.{ends_of}
use Rattle.canvas_rewrite.specs.FrozenView.{line_in}
use Rattle.canvas_rewrite.proofs.Members.{one_end}
use Rattle.canvas_rewrite.proofs.plan.Plan.ends.Goals as goal

pub index-requires : goal.index-requires
index-requires c =
    let kept = c.self.invariant in
    let v = c.self.inside.ends in
    let only = one_end (line_in c.self.inside.line) (sym kept.listed ∙ c.if-self.false) kept.planned.runnable.full in
    omega (arith, v.ok.0, ap length (kept.ended ∙ only.1))

pub returns-clause-tasks : goal.returns-clause-tasks
returns-clause-tasks c =
    let kept = c.self.invariant in
    let only = one_end (line_in c.self.inside.line) (sym kept.listed ∙ c.if-self.false) kept.planned.runnable.full in
    let whole = kept.ended ∙ only.1 in
    let first : c.index.result.now ≡ only.0 = c.index.ensures ∙ ap (λ es. get_or es 0 c.index.result.now) whole in
    ap (λ k. k ∷ []) first ∙ sym only.1 ∙ ap ends_of c.self.view_is
