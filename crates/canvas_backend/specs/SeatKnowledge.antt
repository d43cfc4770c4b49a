-- What a seat of the table of words keeps, and the numbers that name the table.
use Rattle.std.specs.Prelude.{List, [], ◌∷◌}
use Rattle.atomic_table.specs.Seated as seated
use Rattle.canvas_history.specs.Callers.{Hat}
use Rattle.canvas_history.specs.Seats.{TableId}
use Rattle.canvas_history.specs.Table.{TableCall, TableReply}

-- the numbers that name a table of words
abbrev pub numbers_of : seated.TableId → TableId
numbers_of d = d.words ∷ d.slots ∷ d.views_name ∷ d.atom ∷ d.block ∷ d.offset ∷ d.slot_names

-- The knowledge of a seat: its callers, each with what it has seen. It has one, but two in the
-- middle of a split or a join.
abbrev pub Knowledge : Type 0
Knowledge = List (Hat TableCall TableReply)

abbrev pub first_of : Knowledge → Hat TableCall TableReply
first_of [] = (0, [])
first_of (h ∷ hs) = h
