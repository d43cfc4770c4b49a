-- The first signature of a text with a fault of its own, in file order.
use Rattle.std.specs.Prelude.{Bool, Option, is_some, find}
use Rattle.serde_json.specs.Data.{Data}
use Rattle.canvas_values.specs.Grammar.{own_fault}
use Rattle.canvas_values.specs.declared.fault.SigFault.{SigFault}
use Rattle.canvas_check.specs.FileOrder.{Sighted, signatures}

abbrev pub refusal_of : Sighted → Option SigFault
refusal_of s = own_fault s.is_linked s.signature

abbrev pub is_refused : Sighted → Bool
is_refused s = is_some (refusal_of s)

abbrev pub first_refused : Data → Option Sighted
first_refused d = find is_refused (signatures d)
