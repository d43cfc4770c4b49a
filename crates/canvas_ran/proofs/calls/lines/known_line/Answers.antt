use Rattle.std.proofs.Common.{◌∙◌}
use Rattle.canvas_values.proofs.Written.Writers.{whole_text}
use Rattle.canvas_ran.specs.Calls.{known_wire}
use Rattle.canvas_ran.proofs.calls.lines.known_line.Goals as goal

pub returns : goal.returns
returns c =
    whole_text (known_wire c.args.plan.now) c.new-out.result c.write_known.new.out c.into_inner.result.items
    (c.new-out.ensures.before ∙ c.new.ensures.items) c.new-out.ensures.tokens c.in_ok-write_known.ensures c.into_inner.ensures.items
