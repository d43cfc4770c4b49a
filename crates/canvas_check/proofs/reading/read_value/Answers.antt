use Rattle.canvas_sig.specs.Datum.{view}
use Rattle.canvas_check.proofs.Found.{low_enough}
use Rattle.canvas_check.proofs.reading.read_value.Goals as goal

pub signatures_in-requires : goal.signatures_in-requires
signatures_in-requires c = low_enough c.args.bytes.now (view c.args.value.now) c.requires

pub find_in-requires : goal.find_in-requires
find_in-requires c = low_enough c.args.bytes.now (view c.args.value.now) c.requires
