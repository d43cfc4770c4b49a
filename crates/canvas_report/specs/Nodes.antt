-- The nodes of a picture (Graphviz, the DOT language): one for each task, a frame round the members
-- of each group and chord, a point in the frame of one that has none, and a point between a header
-- that ends in several nodes and a body that begins at several.
use Rattle.std.specs.Prelude.{◌≡◌, ◌==◌, ◌&&◌, ℕ, if◌then◌else◌, Bool, true, false, List, [], ◌∷◌, ◌++◌, Option, Some, None, codes, decimal}
use Rattle.std.specs.Option.{option_map}
use Rattle.canvas_task.specs.Text.{Text}
use Rattle.canvas_semantics.specs.Tree.{Task, task, Tasks, no_tasks, and_task}
use Rattle.canvas_semantics.specs.Line.{Line, stop, step, group_end, chord_end, Lines, no_lines, and_line}
use Rattle.canvas_report.specs.Ends as ends
use Rattle.canvas_report.specs.Ends.{node_text, firsts, all_lasts, has_joint}
use Rattle.canvas_report.specs.Fates.{Fates, fate_at}
use Rattle.canvas_report.specs.StoredRows.{row_of, row_status}
use Rattle.canvas_report.specs.declared.graph.edges.Node.{Node}
use Rattle.canvas_report.specs.declared.graph.edges.Node.TheVariants.{Group, Joint}
use Rattle.canvas_report.specs.declared.fate.Fate.{Fate}
use Rattle.canvas_report.specs.declared.fate.Fate.TheVariants.{Ran, Skipped, Idle}
use Rattle.canvas_report.specs.declared.row.Row.{Row}
use Rattle.canvas_report.specs.declared.shown.Status.{Status}
use Rattle.canvas_report.specs.declared.shown.Status.TheVariants.{Pending, Success, Failure}

-- a line of the picture: the node of a task, a frame's first lines, a point, a frame's last line
pub data Piece : Type 0 where
  node : ℕ → Piece
  opens : (is_chord : Bool) → ℕ → Piece
  point : Node → Piece
  closes : Piece

-- ---- the pieces, in the order of the file

abbrev mutual
  pub task_pieces : Task → List Piece
  task_pieces (task k call links errbacks) =
      node k ∷ all_task_pieces links ++ all_task_pieces errbacks

  pub all_task_pieces : Tasks → List Piece
  all_task_pieces no_tasks = []
  all_task_pieces (and_task t ts) = task_pieces t ++ all_task_pieces ts

abbrev pub points : ℕ → Lines → List Piece
points g no_lines = point (Group g) ∷ []
points g (and_line m ms) = []

-- the point between the ends of chord g's header and the beginnings of its body
abbrev pub joints : ℕ → (from to : List Node) → List Piece
joints g from to = if has_joint from to then point (Joint g) ∷ [] else []

abbrev mutual
  pub line_pieces : Line → List Piece
  line_pieces stop = []
  line_pieces (step t l) = task_pieces t ++ line_pieces l
  line_pieces (group_end g ms) =
      opens false g ∷ points g ms ++ all_line_pieces ms ++ closes ∷ []
  line_pieces (chord_end g ms b) =
      opens true g ∷ points g ms ++ all_line_pieces ms ++ closes ∷ []
      ++ joints g (ends.point g ms ++ all_lasts ms) (firsts b) ++ line_pieces b

  pub all_line_pieces : Lines → List Piece
  all_line_pieces no_lines = []
  all_line_pieces (and_line m ms) = line_pieces m ++ all_line_pieces ms

-- the tasks that have a node
abbrev pub nodes : List Piece → List ℕ
nodes [] = []
nodes (node k ∷ ps) = k ∷ nodes ps
nodes (opens c g ∷ ps) = nodes ps
nodes (point n ∷ ps) = nodes ps
nodes (closes ∷ ps) = nodes ps

-- ---- how they are written

-- States differ by shapes and borders too, and not only by colour, and so do failures by a call and
-- without one.
abbrev pub state_look : Option Status → Text
state_look None = codes "shape=box, style=rounded"
state_look (Some Pending) = codes "shape=box, style=\"dashed,filled\", fillcolor=\"#eeeeee\""
state_look (Some Success) = codes "shape=box, style=\"rounded,filled\", fillcolor=\"#d8f0d8\""
state_look (Some Failure) =
    codes "shape=octagon, style=filled, fillcolor=\"#f7d4d4\", penwidth=2"

abbrev pub look : Option Fate → Option Status → Text
look None s = state_look s
look (Some Ran) s = state_look s
look (Some Idle) s = state_look s
look (Some (Skipped d)) s = codes "shape=hexagon, style=\"dashed,filled\", fillcolor=\"#fbeeee\""

-- A text between quotes. No byte of it ends them, since a backslash goes with the byte after it.
-- Each ampersand begins `&amp;`: Graphviz reads entities of HTML in a text, and finds no other.
abbrev mutual
  pub inside : Text → Bool
  inside [] = true
  inside (b ∷ bs) =
      if b == 34 then false
      else (if b == 92 then behind_backslash bs
      else (if b == 38 then behind_ampersand bs else inside bs))

  pub behind_backslash : Text → Bool
  behind_backslash [] = false
  behind_backslash (b ∷ bs) = inside bs

  pub behind_ampersand : Text → Bool
  behind_ampersand (a ∷ m ∷ p ∷ s ∷ bs) =
      if a == 97 && m == 109 && p == 112 && s == 59 then inside bs else false
  behind_ampersand bs = false

abbrev pub node_line : ℕ → Text → (label : Text) → Text
node_line k looks label =
    codes "  t" ++ decimal k ++ codes " [" ++ looks ++ codes ", label=" ++ codes "\"" ++ label
    ++ codes "\"" ++ codes "];\n"

-- the label of a group or chord
abbrev pub kind : Bool → Text
kind false = codes "group"
kind true = codes "chord"

abbrev pub frame_line : ℕ → Text
frame_line g = codes "  subgraph cluster_" ++ decimal g ++ codes " {\n"

abbrev pub label_line : Text → ℕ → Text
label_line k g = codes "  label=\"" ++ k ++ codes " " ++ decimal g ++ codes "\";\n"

-- How task k is drawn: by its fate, if fates are given, and by its row, if rows are.
abbrev pub looks : Fates → Option (List Row) → ℕ → Text
looks fates rows k = look (fate_at fates k) (option_map (λ rs. row_status (row_of rs k)) rows)

-- If tasks look as a function of their numbers says. A task's node has a label of any text, in
-- quotes.
module _ (at : ℕ → Text) where
  abbrev pub Draws : Piece → Text → Type 0
  Draws (node k) text =
      (label : Text) × (inside label ≡ true) × (text ≡ node_line k (at k) label)
  Draws (opens c g) text = text ≡ frame_line g ++ label_line (kind c) g
  Draws (point n) text = text ≡ codes "  " ++ node_text n ++ codes " [shape=point];\n"
  Draws closes text = text ≡ codes "  }\n"

  -- one after another
  abbrev pub AreDrawn : List Piece → Text → Type 0
  AreDrawn [] text = text ≡ []
  AreDrawn (p ∷ ps) text =
      (own : Text) × (rest : Text) × Draws p own × AreDrawn ps rest × (text ≡ own ++ rest)
