use Rattle.std.proofs.Common.{◌∙◌, ◌++◌, ap, string_bytes}
use Rattle.std.specs.Prelude.{codes}
use Rattle.serde_json.specs.Written.{compact_text}
use Rattle.canvas_report.specs.MessageLines.{text_wire}
use Rattle.canvas_report.proofs.MessageParts.{whole_line}
use Rattle.canvas_report.proofs.json_text.message_line.Goals as goal

pub returns : goal.returns
returns c =
    let body = ap (λ b. string_bytes c.new-line.result ++ (codes "{\"body\":" ++ compact_text (text_wire b))) (c.deref.ensures.value ∙ c.get.ensures) in
    let headers =
    ap (λ b. string_bytes c.push_member.new.line ++ (codes ",\"headers\":" ++ compact_text (text_wire b))) (c.deref-2.ensures.value ∙ c.get-2.ensures) in
    let properties =
    ap (λ b. string_bytes c.push_member-2.new.line ++ (codes ",\"properties\":" ++ compact_text (text_wire b))) (c.deref-3.ensures.value ∙ c.get-3.ensures) in
    whole_line c.args.envelope.now.properties c.args.envelope.now.headers c.args.envelope.now.body _ _ _ _ _ c.new-line.ensures.bytes
    (c.in_ok-push_member.ensures ∙ body) (c.in_ok-push_member-2.ensures ∙ headers) (c.in_ok-push_member-3.ensures ∙ properties) c.in_ok-put.ensures
