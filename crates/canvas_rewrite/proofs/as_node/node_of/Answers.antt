use Rattle.std.proofs.Common.{sym, subst}
use Rattle.canvas_rewrite.specs.FrozenView.{line_of}
use Rattle.canvas_semantics.specs.SameMeaning.{IsSame}
use Rattle.canvas_rewrite.specs.LineView.{line_view}
use Rattle.canvas_semantics.proofs.CompactLaw.{compact_same}
use Rattle.canvas_rewrite.proofs.as_node.node_of.Goals as goal

pub returns-clause-meaning : goal.returns-clause-meaning
returns-clause-meaning c =
    let l = line_of c.args.line.now in
    subst (λ t. IsSame t (line_view c.args.line.now)) (sym c.in_ok-line_node.ensures) (compact_same l)
