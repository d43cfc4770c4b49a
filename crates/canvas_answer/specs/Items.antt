-- The items of an input, canvases one after the other, and the line for each.
use Rattle.std.specs.Str.Lines.{lines}
use Rattle.std.specs.Prelude.{◌≡◌, ◌⊎◌, ◌<◌, ℕ, ◌+◌, ◌*◌, ◌==◌, if◌then◌else◌, List, [], ◌∷◌, ◌++◌, length, take, Option, None, Some, codes}
use Rattle.std.specs.Io.BufRead.{drop_through}
use Rattle.canvas_task.specs.Apply.{Behaviour}
use Rattle.canvas_task.specs.Text.{Text}
use Rattle.canvas_semantics.specs.Line.{Line}
use Rattle.canvas_values.specs.CanvasText.{most_bytes}
use Rattle.canvas_answer.specs.Asking.{Asking}
use Rattle.canvas_answer.specs.Told.{IsTold}
use Rattle.canvas_answer.specs.declared.reporting.Format.TheVariants.{Json}

-- the most bytes of an item that are kept: as many as the longest list of tasks' answers, an empty
-- line after it, and one byte more than the longest canvas
abbrev pub most_item : ℕ
most_item = 2 * most_bytes + 3

-- the bytes before the first `end`, or all of them
abbrev pub before : (end : ℕ) → Text → Text
before end [] = []
before end (x ∷ xs) = if x == end then [] else x ∷ before end xs

-- If the input's bytes are known: the next item, as far as it is kept, and the bytes left after it;
-- none if the input is at its end.
abbrev pub IsNext : (end : ℕ) → Text → (left : Option Text) → Option Text → Type 0
IsNext end xs left None = (xs ≡ []) × (left ≡ Some [])
IsNext end xs left (Some item) =
    (0 < length xs) × (item ≡ take most_item (before end xs)) × (left ≡ Some (drop_through end xs))

-- ---- lines

-- rows that come after others
abbrev pub more_rows : List Text → Text
more_rows [] = []
more_rows (r ∷ rs) = codes "," ++ r ++ more_rows rs

abbrev pub joined : List Text → Text
joined [] = []
joined (r ∷ rs) = r ++ more_rows rs

-- an object in a line, with these rows and that of the canvas
abbrev pub object_line : (rows : List Text) → (canvas : Text) → Text
object_line rows canvas =
    codes "{\"canvas\":" ++ canvas ++ codes ",\"rows\":[" ++ joined rows ++ codes "]}\n"

-- the object of these lines, of which the last is that of the canvas
abbrev pub IsObject : List Text → Text → Type 0
IsObject ls object =
    ((ls ≡ []) × (object ≡ []))
    ⊎ ((rows : List Text) × (canvas : Text) × (ls ≡ rows ++ canvas ∷ [])
    × (object ≡ object_line rows canvas))

-- the object of the lines that `run --json` prints for a whole run
abbrev pub IsRunObject : Asking → (run shown : Line) → Behaviour → Text → Type 0
IsRunObject its run shown behaviour object =
    (text : Text) × IsTold its run shown behaviour Json None text × IsObject (lines text) object
