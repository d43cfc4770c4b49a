use Rattle.std.proofs.Common.{◌∙◌}
use Rattle.canvas_values.proofs.Written.Writers.{whole_text}
use Rattle.canvas_ran.specs.Calls.{call_wire}
use Rattle.canvas_ran.proofs.calls.lines.call_text.Goals as goal

pub returns : goal.returns
returns c =
    whole_text (call_wire c.args.front.now c.args.name.now c.args.message.now) c.new-out.result c.write_call.new.out c.into_inner.result.items
    (c.new-out.ensures.before ∙ c.new.ensures.items) c.new-out.ensures.tokens c.in_ok-write_call.ensures c.into_inner.ensures.items
