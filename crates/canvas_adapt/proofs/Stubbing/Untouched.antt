-- What has no stub does what it did.
use Rattle.std.proofs.Common.{◌≡◌, Bool, true, false, List, Option, Some, None, refl}
use Rattle.std.specs.Prelude.{if◌then◌else◌}
use Rattle.canvas_task.specs.Text.{Text}
use Rattle.canvas_task.specs.declared.arg.Arg.{Arg}
use Rattle.canvas_task.specs.declared.outcome.Outcome.{Outcome}
use Rattle.canvas_adapt.specs.declared.stubs.stub.Does.{Does}
use Rattle.canvas_adapt.specs.Stubs.{is_unknown, or_any, stubbed}

same : (b : Bool) (o : Outcome) → (if b then o else o) ≡ o
same true o = refl
same false o = refl

pub unstubbed : (o p : Option Does) → o ≡ None → p ≡ None
    → (args : List Arg) (named : List (Text × Arg)) (other : Outcome)
    → stubbed o args named (or_any p args named other) ≡ other
unstubbed None None h k args named other = same (is_unknown other) other
unstubbed None (Some does) h k args named other = absurd cc
unstubbed (Some does) p h k args named other = absurd cc
