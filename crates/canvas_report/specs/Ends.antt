-- The beginnings and ends of lines: the nodes that edges join.
use Rattle.std.specs.Prelude.{ℕ, ◌&&◌, Bool, true, false, List, [], ◌∷◌, ◌++◌, codes, decimal}
use Rattle.canvas_task.specs.Text.{Text}
use Rattle.canvas_semantics.specs.Tree.{Task}
use Rattle.canvas_semantics.specs.Line.{Line, stop, step, group_end, chord_end, Lines, no_lines, and_line, no_of}
use Rattle.canvas_report.specs.declared.graph.edges.Node.{Node}
use Rattle.canvas_report.specs.declared.graph.edges.Node.TheVariants as node

abbrev pub node_text : Node → Text
node_text (node.Task k) = codes "t" ++ decimal k
node_text (node.Group g) = codes "g" ++ decimal g
node_text (node.Joint g) = codes "j" ++ decimal g

abbrev pub of_task : Task → Node
of_task t = node.Task (no_of t)

-- the point that is drawn for a group or chord of no members
abbrev pub point : ℕ → Lines → List Node
point g no_lines = node.Group g ∷ []
point g (and_line m ms) = []

abbrev pub point_of : Line → List Node
point_of stop = []
point_of (step t l) = []
point_of (group_end g ms) = point g ms
point_of (chord_end g ms b) = point g ms

abbrev mutual
  pub firsts : Line → List Node
  firsts stop = []
  firsts (step t l) = of_task t ∷ []
  firsts (group_end g ms) = point g ms ++ all_firsts ms
  firsts (chord_end g ms b) = point g ms ++ all_firsts ms

  pub all_firsts : Lines → List Node
  all_firsts no_lines = []
  all_firsts (and_line m ms) = firsts m ++ all_firsts ms

abbrev mutual
  pub lasts : Line → List Node
  lasts stop = []
  lasts (step t stop) = of_task t ∷ []
  lasts (step t l) = lasts l
  lasts (group_end g ms) = point g ms ++ all_lasts ms
  lasts (chord_end g ms b) = lasts b

  pub all_lasts : Lines → List Node
  all_lasts no_lines = []
  all_lasts (and_line m ms) = lasts m ++ all_lasts ms

-- the ends of a group or chord, without its body
abbrev pub member_lasts : Line → List Node
member_lasts stop = []
member_lasts (step t l) = []
member_lasts (group_end g ms) = point g ms ++ all_lasts ms
member_lasts (chord_end g ms b) = point g ms ++ all_lasts ms

-- ---- between a header and its body

abbrev pub are_several : List Node → Bool
are_several [] = false
are_several (n ∷ []) = false
are_several (n ∷ m ∷ ns) = true

-- A header that ends in several nodes and a body that begins at several have a point between them.
-- An edge for each pair would give up to 262,144.
abbrev pub has_joint : (from to : List Node) → Bool
has_joint from to = are_several from && are_several to
