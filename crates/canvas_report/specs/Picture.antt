-- A plan as a picture (Graphviz, the DOT language): a node for each task, and edges from a task to
-- what follows it. Links and error callbacks follow their task, a group or chord begins at its
-- members, and what follows a chord begins after the last tasks of its members (Celery user guide,
-- Canvas).
use Rattle.std.specs.Prelude.{◌≡◌, ℕ, if◌then◌else◌, List, [], ◌∷◌, ◌++◌, map, Option, Some, None, codes}
use Rattle.canvas_task.specs.Text.{Text}
use Rattle.canvas_semantics.specs.Tree.{Task, task, Tasks, no_tasks, and_task}
use Rattle.canvas_semantics.specs.Line.{Line, stop, step, group_end, chord_end, Lines, no_lines, and_line}
use Rattle.canvas_report.specs.declared.graph.edges.Node.{Node}
use Rattle.canvas_report.specs.declared.graph.edges.Node.TheVariants as node
use Rattle.canvas_report.specs.declared.graph.edges.Leads.{Leads}
use Rattle.canvas_report.specs.declared.graph.edges.Leads.TheVariants.{Next, Link, Errback}
use Rattle.canvas_report.specs.declared.graph.edges.Edge.{Edge}
use Rattle.canvas_report.specs.Ends.{node_text, of_task, point, firsts, all_firsts, all_lasts, has_joint}
use Rattle.canvas_report.specs.Nodes.{AreDrawn, line_pieces}

-- ---- edges

abbrev pub edge : Leads → Node → Node → Edge
edge leads from to = record { from = from; to = to; leads = leads }

-- from each of these to each of those
abbrev pub joined : List Node → List Node → List Edge
joined [] to = []
joined (from ∷ more) to = map (λ node. edge Next from node) to ++ joined more to

-- from the ends of chord g's header to the beginnings of its body, through a point if it has one
abbrev pub to_body : ℕ → (from to : List Node) → List Edge
to_body g from to =
    if has_joint from to then joined from (node.Joint g ∷ []) ++ joined (node.Joint g ∷ []) to
    else joined from to

-- from the node before, if there is one
abbrev pub behind : Option Node → List Node → List Edge
behind None to = []
behind (Some from) to = map (λ node. edge Next from node) to

abbrev mutual
  pub task_edges : Task → List Edge
  task_edges (task k call links errbacks) =
      callback_edges Link (node.Task k) links ++ callback_edges Errback (node.Task k) errbacks

  pub callback_edges : Leads → Node → Tasks → List Edge
  callback_edges leads from no_tasks = []
  callback_edges leads from (and_task t ts) =
      edge leads from (of_task t) ∷ task_edges t ++ callback_edges leads from ts

-- the edges of a line, after a task if there is one
abbrev mutual
  pub line_edges : Option Node → Line → List Edge
  line_edges before stop = []
  line_edges before (step t l) =
      task_edges t ++ behind before (of_task t ∷ []) ++ line_edges (Some (of_task t)) l
  line_edges before (group_end g ms) =
      behind before (point g ms ++ all_firsts ms) ++ all_line_edges ms
  line_edges before (chord_end g ms b) =
      behind before (point g ms ++ all_firsts ms) ++ all_line_edges ms
      ++ to_body g (point g ms ++ all_lasts ms) (firsts b) ++ line_edges None b

  pub all_line_edges : Lines → List Edge
  all_line_edges no_lines = []
  all_line_edges (and_line m ms) = line_edges None m ++ all_line_edges ms

-- ---- their text

abbrev pub style : Leads → Text
style Next = []
style Link = codes " [style=dashed, label=\"on success\"]"
style Errback = codes " [style=dashed, label=\"on failure\"]"

abbrev pub edge_text : Edge → Text
edge_text e =
    codes "  " ++ node_text e.from ++ codes " -> " ++ node_text e.to ++ style e.leads
    ++ codes ";\n"

abbrev pub edges_text : List Edge → Text
edges_text [] = []
edges_text (e ∷ es) = edge_text e ++ edges_text es

-- ---- the whole

abbrev pub opening : Text
opening =
    codes "digraph canvas {\n  rankdir=LR;\n  node [fontname=\"Helvetica\"];\n"
    ++ codes "  edge [fontname=\"Helvetica\"];\n  fontname=\"Helvetica\";\n"

-- the nodes, and then the edges, which come after all frames, since what is named in a frame is
-- drawn in it; the plan's tasks look as a function of their numbers says
abbrev pub IsPicture : (ℕ → Text) → Line → Text → Type 0
IsPicture at l text =
    (drawn : Text) × AreDrawn at (line_pieces l) drawn
    × (text ≡ opening ++ drawn ++ edges_text (line_edges None l) ++ codes "}\n")
