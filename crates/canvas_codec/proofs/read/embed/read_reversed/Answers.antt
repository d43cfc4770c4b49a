use Rattle.std.proofs.Common.{map}
use Rattle.canvas_sig.specs.Datum.{view}
use Rattle.canvas_codec.specs.steps.FrozenReading.{step_reading, last_reading}
use Rattle.canvas_codec.proofs.Made.{reversed_read}
use Rattle.canvas_codec.proofs.read.embed.read_reversed.Goals as goal

pub returns : goal.returns
returns c =
    reversed_read (step_reading c.args.left) (last_reading c.args.left) (view c.args.last.now)
    (map view c.args.steps.now) c.in_ok-last.last c.in_ok-read_steps.field-0.items c.turned-tasks.result.items c.in_ok-line_of.field-0
    c.in_ok-last.ensures c.in_ok-read_steps.ensures c.turned-tasks.ensures c.in_ok-line_of.ensures
