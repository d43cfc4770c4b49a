use Rattle.std.proofs.Common.{ap, ◌∙◌}
use Rattle.serde_json.specs.Data.{string}
use Rattle.canvas_values.proofs.Written.Writers.{whole_text}
use Rattle.canvas_envelope.proofs.writing.text.escaped.Goals as goal

pub returns : goal.returns
returns c =
    let whole = whole_text (string c.args.text.now) c.new-out.result c.string.new.self c.into_inner.result.items
    (c.new-out.ensures.before ∙ c.in_ok-with_capacity.ensures.items) c.new-out.ensures.tokens
    (c.in_ok-string.ensures.ok, c.in_ok-string.ensures.room.0) c.into_inner.ensures.items in
    let read = rw c.unwrap.ensures at c.from_utf8.ensures.ok in
    ap (λ v. v.items) read ∙ whole
