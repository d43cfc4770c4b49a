-- The look of the row that was looked up; it is pending if there is none.
use Rattle.std.specs.Prelude.{Option, Some, None}
use Rattle.std.specs.Borrow.{Bor}
use Rattle.canvas_report.specs.declared.row.Row.{Row}
use Rattle.canvas_celery.specs.Looks.{Look, known, look}

abbrev pub look_of : Option (Bor Row) → Look
look_of None = known None
look_of (Some row) = look row.now
