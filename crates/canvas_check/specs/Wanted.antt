-- The signatures to look for in a listing.
use Rattle.std.specs.Prelude.{Bool}
use Rattle.canvas_check.specs.FileOrder.{Sighted}
use Rattle.canvas_check.specs.Limits.{is_nested, is_too_deep}
use Rattle.canvas_check.specs.Refused.{is_refused}
use Rattle.canvas_check.specs.declared.limits.Wanted.{Wanted}
use Rattle.canvas_check.specs.declared.limits.Wanted.TheVariants as wanted

abbrev pub is_wanted : Wanted → Sighted → Bool
is_wanted wanted.Refused s = is_refused s
is_wanted wanted.Nested s = is_nested s
is_wanted wanted.TooDeep s = is_too_deep s
