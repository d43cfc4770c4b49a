use Rattle.std.proofs.Common.{◌∙◌, ap}
use Rattle.canvas_ran.specs.Fronts.{known_front}
use Rattle.canvas_ran.proofs.Called.KnownNames.{front_found}
use Rattle.canvas_ran.proofs.calls.lines.front_at.Goals as goal

pub returns : goal.returns
returns c =
    ap known_front c.front_in.ensures
    ∙ front_found c.args.fronts.now c.args.task c.get.result c.get.ensures.value c.get.ensures.least
