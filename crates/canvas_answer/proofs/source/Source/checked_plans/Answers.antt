use Rattle.std.proofs.Common.{List, Option, subst}
use Rattle.std.proofs.lemmas.Result.{err_from_is_err_and}
use Rattle.canvas_adapt.specs.declared.renames.Rename.{Rename}
use Rattle.canvas_task.specs.Text.{Text}
use Rattle.canvas_answer.specs.Names.{IsUnknownName}
use Rattle.canvas_answer.specs.Plans.{IsPlanRefusal}
use Rattle.canvas_answer.specs.declared.refusal.Refusal.{Refusal}
use Rattle.canvas_answer.proofs.source.Source.checked_plans.Goals as goal

not_canvas : (renames : List Rename) (bytes : Text) (found : Option Text) (e : Refusal) → IsUnknownName found e → IsPlanRefusal renames bytes e
not_canvas renames bytes found e h = λ fault is _. absurd (subst (IsUnknownName found) is h)

pub returns-in_err-check_names : goal.returns-in_err-check_names
returns-in_err-check_names g c =
    let p = err_from_is_err_and c.from_residual-in_err-check_names.result c.from_residual-in_err-check_names.ensures.1 in
    rw (p.1, p.2) (record { ok = tt; err = not_canvas _ _ _ c.in_err-check_names.field-0.0 c.in_err-check_names.ensures })
