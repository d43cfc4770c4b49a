use Rattle.canvas_history.specs.Roster.{roster_of}
use Rattle.canvas_backend.proofs.Homes.{HomesTo}
use Rattle.canvas_backend.proofs.roster.homes_of.Given as goal

abbrev pub invariant-loop-index : goal.invariant-loop-index
invariant-loop-index l = HomesTo (roster_of l.plan) l.index l.homes.items
