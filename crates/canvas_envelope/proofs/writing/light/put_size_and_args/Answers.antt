use Rattle.std.proofs.Common.{◌++◌, false}
use Rattle.std.specs.Prelude.{codes, decimal, string_bytes}
use Rattle.serde_json.specs.Written.{items_text}
use Rattle.canvas_values.specs.Writing.{args_wire}
use Rattle.canvas_envelope.proofs.Written.KnownTexts.{then_ok, then_text, four}
use Rattle.canvas_envelope.proofs.writing.light.put_size_and_args.Goals as goal

pub returns : goal.returns
returns c =
    let o = string_bytes c.args.out.now in
    let a = codes "{\"args\":[" in
    let b = items_text false (args_wire c.args.args.now) in
    let d = codes ",\"chord_size\":" in
    let e = decimal c.args.size in
    then_ok c.put_size.result o (string_bytes c.put-2.new.out) (string_bytes c.put_size.new.out) ((a ++ b) ++ d) e _
    (then_text o (string_bytes c.put_args.new.out) (string_bytes c.put-2.new.out) (a ++ b) d
    (then_text o (string_bytes c.put.new.out) (string_bytes c.put_args.new.out) a b c.in_ok-put.ensures c.in_ok-put_args.ensures) c.in_ok-put-2.ensures)
    c.put_size.ensures (four a b d e)
