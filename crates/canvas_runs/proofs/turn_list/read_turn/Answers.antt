use Rattle.std.proofs.Common.{◌∙◌, sym, arith}
use Rattle.std.proofs.lemmas.Fmt.{decimal_injective}
use Rattle.canvas_runs.proofs.turn_list.read_turn.Goals as goal

pub returns-else-turn-workers : goal.returns-else-turn-workers
returns-else-turn-workers c = λ t w e.
    let read = c.in-Some.ensures in
    let same = decimal_injective c.in-Some.turn t (omega (arith, read.0.1)) (omega (arith, w.1, c.ranges.workers.fits)) (sym read.1 ∙ e) in
    omega (arith, same, w.1, c.if-turn-workers.false)

pub returns-in-None : goal.returns-in-None
returns-in-None c = λ t w. c.in-None.ensures t (w.0, omega (arith, w.1, c.ranges.workers.fits))
