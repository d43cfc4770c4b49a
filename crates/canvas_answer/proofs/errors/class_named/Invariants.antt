use Rattle.std.proofs.Common.{◌≡◌, drop}
use Rattle.canvas_answer.specs.Raised.{class_named}
use Rattle.canvas_answer.proofs.errors.class_named.Given as goal

-- those that are left say the class as all do
abbrev pub invariant-loop-error : goal.invariant-loop-error
invariant-loop-error l = class_named (drop l.error-index l.errors) l.name ≡ class_named l.errors l.name
