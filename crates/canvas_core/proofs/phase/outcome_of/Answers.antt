use Rattle.std.proofs.Common.{sym, subst}
use Rattle.canvas_task.specs.Apply.{IsInRange}
use Rattle.canvas_task.specs.Entries.{named}
use Rattle.canvas_core.proofs.phase.outcome_of.Goals as goal

pub returns-clause-in_range : goal.returns-clause-in_range
returns-clause-in_range g c =
    subst IsInRange (sym c.apply.ensures) (g.met.T.Tasks.in_range c.args.tasks.now c.deref.result.now c.deref-2.result.now (named c.get-3.result.now.entries))
