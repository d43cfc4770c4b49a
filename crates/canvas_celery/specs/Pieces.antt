-- The lines of a text: the texts between its line feeds, and the one after the last if it is not
-- empty.
use Rattle.std.specs.Prelude.{ℕ, Bool, ◌==◌, if◌then◌else◌, List, [], ◌∷◌}
use Rattle.std.specs.List.{onto_first}
use Rattle.canvas_task.specs.Text.{Text}

-- whether a byte is the one sought
abbrev pub is_byte : ℕ → ℕ → Bool
is_byte byte b = b == byte

abbrev pub lines_in : Text → List Text
lines_in [] = []
lines_in (b ∷ bs) = if b == 10 then [] ∷ lines_in bs else onto_first b (lines_in bs)
