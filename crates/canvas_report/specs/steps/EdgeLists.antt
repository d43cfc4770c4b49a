-- The nodes and edges of lists of tasks and of lines, one after another.
use Rattle.std.specs.Prelude.{List, [], ◌∷◌, ◌++◌, Option, Some, None}
use Rattle.canvas_semantics.specs.Tree.{Task}
use Rattle.canvas_semantics.specs.Line.{Line}
use Rattle.canvas_report.specs.Ends.{of_task, firsts, lasts}
use Rattle.canvas_report.specs.Picture.{edge, behind, task_edges, line_edges}
use Rattle.canvas_report.specs.declared.graph.edges.Node.{Node}
use Rattle.canvas_report.specs.declared.graph.edges.Leads.{Leads}
use Rattle.canvas_report.specs.declared.graph.edges.Edge.{Edge}

abbrev pub lines_firsts : List Line → List Node
lines_firsts [] = []
lines_firsts (l ∷ ls) = firsts l ++ lines_firsts ls

abbrev pub lines_lasts : List Line → List Node
lines_lasts [] = []
lines_lasts (l ∷ ls) = lasts l ++ lines_lasts ls

abbrev pub callbacks_edges : Leads → Node → List Task → List Edge
callbacks_edges leads from [] = []
callbacks_edges leads from (t ∷ ts) =
    edge leads from (of_task t) ∷ task_edges t ++ callbacks_edges leads from ts

abbrev pub tasks_edges : Option Node → List Task → List Edge
tasks_edges before [] = []
tasks_edges before (t ∷ ts) =
    task_edges t ++ behind before (of_task t ∷ []) ++ tasks_edges (Some (of_task t)) ts

abbrev pub last_node : Option Node → List Task → Option Node
last_node before [] = before
last_node before (t ∷ ts) = last_node (Some (of_task t)) ts

abbrev pub lines_edges : List Line → List Edge
lines_edges [] = []
lines_edges (l ∷ ls) = line_edges None l ++ lines_edges ls
