use Rattle.std.proofs.Common.{sym, ap, ◌∙◌, arith}
use lib.Count.{count_trailing_zeros}
use Rattle.canvas_sig.proofs.Stops.{run_through, run_stops}
use Rattle.canvas_sig.proofs.runs.plain_len.Goals as goal

pub returns-then-found-ne0 : goal.returns-then-found-ne0
returns-then-found-ne0 c =
    let found = c.stops-found in
    let run =
    run_stops c.args.bytes.now c.parts.at (omega arith) (omega (arith, found.ensures)) ∙ ap (count_trailing_zeros 64) (sym found.ensures) in
    omega (arith, run, c.parts.invariant.0)

pub parts-preserved : goal.parts-preserved
parts-preserved c =
    let run = run_through c.args.bytes.now c.parts.at (omega arith) (omega (arith, c.stops-found.ensures)) in
    (omega (arith, run, c.parts.invariant.0), omega arith)
