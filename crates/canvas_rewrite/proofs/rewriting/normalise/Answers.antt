use Rattle.std.proofs.Common.{◌≡◌, ◌∙◌, ap}
use Rattle.canvas_semantics.specs.NormalLine.{onto, normal}
use Rattle.canvas_semantics.specs.Tree.{chain, no_trees}
use Rattle.canvas_values.specs.SignatureView.{view}
use Rattle.canvas_rewrite.specs.LineView.{line_view}
use Rattle.canvas_rewrite.proofs.NormalRuns.{same_line}
use Rattle.canvas_rewrite.proofs.rewriting.normalise.Goals as goal

pub returns-clause-value : goal.returns-clause-value
returns-clause-value c =
    ap chain (c.into_line.ensures ∙ c.in_ok-line.ensures ∙ ap (onto (view c.node.result.now)) c.empty.ensures ∙ ap (λ t. onto t no_trees) c.node.ensures.seen)

pub returns-clause-meaning : goal.returns-clause-meaning
returns-clause-meaning c =
    let line : line_view c.into_line.result ≡ normal c.args.canvas.now =
    ap chain (c.into_line.ensures ∙ c.in_ok-line.ensures ∙ ap (onto (view c.node.result.now)) c.empty.ensures
    ∙ ap (λ t. onto t no_trees) c.node.ensures.seen) in
    (same_line c.args.canvas.now (line_view c.into_line.result) c.node.ensures.checked line).0

pub returns-clause-runnable : goal.returns-clause-runnable
returns-clause-runnable c =
    let line : line_view c.into_line.result ≡ normal c.args.canvas.now =
    ap chain (c.into_line.ensures ∙ c.in_ok-line.ensures ∙ ap (onto (view c.node.result.now)) c.empty.ensures
    ∙ ap (λ t. onto t no_trees) c.node.ensures.seen) in
    (same_line c.args.canvas.now (line_view c.into_line.result) c.node.ensures.checked line).1
