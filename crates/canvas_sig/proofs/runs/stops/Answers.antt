use Rattle.canvas_sig.proofs.Stops.{stop_mask}
use Rattle.canvas_sig.proofs.runs.stops.Goals as goal

pub returns : goal.returns
returns c = stop_mask c.args.bytes c.fits-bytes.0 c.fits-bytes.1
