-- Items that are read piece by piece.
use Rattle.std.specs.Prelude.{ℕ, [], ◌∷◌, ◌++◌}
use Rattle.canvas_task.specs.Text.{Text}
use Rattle.canvas_answer.specs.declared.items.Piece.{Piece}
use Rattle.canvas_answer.specs.declared.items.Piece.TheVariants as piece

-- the bytes that are taken of the input with a piece
abbrev pub taken : (end : ℕ) → Piece → Text → Text
taken end piece.Last bs = bs ++ end ∷ []
taken end piece.Part bs = bs
taken end piece.None bs = bs
