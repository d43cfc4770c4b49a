-- The pieces of lists of tasks and of lines, one after another, and their text.
use Rattle.std.specs.Prelude.{◌≡◌, ℕ, Bool, true, List, [], ◌∷◌, ◌++◌}
use Rattle.canvas_task.specs.Text.{Text}
use Rattle.canvas_semantics.specs.Tree.{Task}
use Rattle.canvas_semantics.specs.Line.{Line, stop, step, group_end, chord_end}
use Rattle.canvas_report.specs.Nodes.{Piece, opens, point, closes, points, task_pieces, line_pieces, all_line_pieces, inside, node_line, AreDrawn}
use Rattle.canvas_report.specs.declared.graph.edges.Node.TheVariants.{Group}

-- the pieces are written after the text that was there
abbrev pub Adds : (ℕ → Text) → List Piece → (old new : Text) → Type 0
Adds at ps old new = (text : Text) × AreDrawn at ps text × (new ≡ old ++ text)

-- the node of task k, with this look and some label
abbrev pub AddsNode : ℕ → (look : Text) → (old new : Text) → Type 0
AddsNode k look old new =
    (label : Text) × (inside label ≡ true) × (new ≡ old ++ node_line k look label)

abbrev pub tasks_pieces : List Task → List Piece
tasks_pieces [] = []
tasks_pieces (t ∷ ts) = task_pieces t ++ tasks_pieces ts

abbrev pub lines_pieces : List Line → List Piece
lines_pieces [] = []
lines_pieces (l ∷ ls) = line_pieces l ++ lines_pieces ls

-- what may come before any text between quotes
abbrev pub IsWhole : Text → Type 0
IsWhole piece = (more : Text) → inside (piece ++ more) ≡ inside more

abbrev pub AddsWhole : (old new : Text) → Type 0
AddsWhole old new = (piece : Text) × IsWhole piece × (new ≡ old ++ piece)

-- ---- a frame

abbrev pub list_points : ℕ → List Line → List Piece
list_points g [] = point (Group g) ∷ []
list_points g (l ∷ ls) = []

-- the frame of a group or chord, without its body
abbrev pub frame_pieces : Bool → Line → List Piece
frame_pieces c stop = []
frame_pieces c (step t l) = []
frame_pieces c (group_end g ms) =
    opens c g ∷ points g ms ++ all_line_pieces ms ++ closes ∷ []
frame_pieces c (chord_end g ms b) =
    opens c g ∷ points g ms ++ all_line_pieces ms ++ closes ∷ []
