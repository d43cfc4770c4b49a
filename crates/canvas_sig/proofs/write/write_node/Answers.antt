use Rattle.std.proofs.Common.{ap, ◌∙◌}
use Rattle.canvas_values.specs.Writing.{tree_wire}
use Rattle.canvas_values.specs.SignatureView.{view}
use Rattle.canvas_values.proofs.Written.Writers.{whole_text}
use Rattle.canvas_sig.proofs.write.write_node.Goals as goal

pub returns : goal.returns
returns c =
    let whole = whole_text (tree_wire (view c.args.node.now)) c.new-out.result c.write_tree.new.out c.into_inner.result.items
    (c.new-out.ensures.before ∙ c.new.ensures.items) c.new-out.ensures.tokens c.in_ok-write_tree.ensures c.into_inner.ensures.items in
    let read = rw c.unwrap.ensures at c.from_utf8.ensures.ok in
    ap (λ v. v.items) read ∙ whole
