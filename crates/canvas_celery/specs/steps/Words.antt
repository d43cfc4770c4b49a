-- Words of commands, one by one.
use Rattle.std.specs.Prelude.{ℕ, [], Option, Some, None, decimal}
use Rattle.canvas_task.specs.Text.{Text}

-- the number of a database, empty if none is chosen
abbrev pub database_word : Option ℕ → Text
database_word None = []
database_word (Some n) = decimal n
