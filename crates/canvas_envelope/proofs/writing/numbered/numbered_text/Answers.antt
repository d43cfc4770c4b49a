use Rattle.std.proofs.Common.{◌∙◌, None, ap}
use Rattle.canvas_values.proofs.Written.Writers.{whole_text}
use Rattle.canvas_rewrite.specs.FrozenView.{p_line_view}
use Rattle.canvas_envelope.specs.Wire.{line_wire}
use Rattle.canvas_envelope.proofs.writing.numbered.numbered_text.Goals as goal

pub returns : goal.returns
returns c =
    let whole = whole_text (line_wire None (p_line_view c.args.line.now)) c.new-out.result c.write_line.new.out c.into_inner.result.items
    (c.new-out.ensures.before ∙ c.in_ok-with_capacity.ensures.items) c.new-out.ensures.tokens c.in_ok-write_line.ensures c.into_inner.ensures.items in
    let read = rw c.unwrap.ensures at c.from_utf8.ensures.ok in
    ap (λ v. v.items) read ∙ whole
