use Rattle.canvas_sig.specs.Datum.{view}
use Rattle.canvas_check.proofs.Found.{stands, low_enough, parsed_as}
use Rattle.canvas_check.proofs.finding.find_parsed.Goals as goal

pub find_in-requires : goal.find_in-requires
find_in-requires c = low_enough c.args.bytes.now (view c.in-Ok.value) (parsed_as c.args.bytes.now (view c.in-Ok.value) c.in-Ok.ensures)

pub returns-in_ok-find_in-in-Ok-clause-spot : goal.returns-in_ok-find_in-in-Ok-clause-spot
returns-in_ok-find_in-in-Ok-clause-spot c =
    stands c.args.bytes.now (view c.in-Ok.value) c.args.fault c.in_ok-find_in-in-Ok.field-0.spot
    (parsed_as c.args.bytes.now (view c.in-Ok.value) c.in-Ok.ensures) c.in_ok-find_in-in-Ok.ensures.spot
