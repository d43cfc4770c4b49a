use Rattle.std.proofs.Common.{◌≡◌, ◌∙◌, ◌++◌, ℕ, OnOk, sym, subst, string_bytes}
use Rattle.std.specs.Prelude.{codes}
use Rattle.canvas_report.specs.declared.graph.edges.Node.TheVariants.{Group}
use Rattle.canvas_report.specs.Ends.{node_text}
use Rattle.canvas_report.proofs.NodeParts.{point_ok, point_else}
use Rattle.canvas_report.proofs.graph.nodes.push_point.Goals as goal

pub returns-then-has_none : goal.returns-then-has_none
returns-then-has_none c = λ at.
    let P : ℕ → Type 0 = λ k. OnOk c.push_dot.result (string_bytes c.push_dot.new.text ≡ string_bytes c.args.text.now ++ (codes "  " ++ node_text (Group k) ++ codes " [shape=point];\n")) in
    point_ok _ at c.args.group c.args.members.now _ _ (sym c.has_none.ensures ∙ c.if-has_none.true) (subst P c.get.ensures.value c.push_dot.ensures)

pub returns-else-has_none : goal.returns-else-has_none
returns-else-has_none c = λ at. point_else at c.args.group c.args.members.now _ (sym c.has_none.ensures ∙ c.if-has_none.false)
