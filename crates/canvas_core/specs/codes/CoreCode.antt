-- How what a core has left to do is stored, so that a type may have it as its value; and that it
-- tells no more than a fact.
use Rattle.std.proofs.Props.{props}
use Rattle.canvas_task.specs.Apply.{IsInRange}
use Rattle.canvas_task.specs.declared.outcome.Outcome.{Outcome}
use Rattle.canvas_task.specs.declared.outcome.Outcome.TheVariants.{Success, Failure}
pub use Rattle.canvas_effects.specs.codes.PlaceCode.{carried_code}

pub range_prop : (o : Outcome) → IsProp (IsInRange o)
range_prop (Success n) = Prim.hlevel props
range_prop (Failure f) = Prim.hlevel props
