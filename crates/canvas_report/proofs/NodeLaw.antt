-- A picture of a plan has one node for each task.
use Rattle.std.proofs.Common.{◌≡◌, ◌∙◌, ℕ, suc, ◌+◌, Bool, true, false, List, [], ◌∷◌, ◌++◌, map, length, refl, sym, ap, ap₂, append-nil, arith}
use Rattle.std.specs.Prelude.{if◌then◌else◌}
use Rattle.std.proofs.lemmas.List.{map-append}
use Rattle.canvas_task.specs.Text.{Text}
use Rattle.canvas_semantics.specs.Tree.{Task, task, Tasks, no_tasks, and_task}
use Rattle.canvas_semantics.specs.Line.{Line, stop, step, group_end, chord_end, Lines, no_lines, and_line, elements_of, members_of, names, count_line}
use Rattle.canvas_semantics.specs.Report.{names_of_task, names_of_tasks, all_names_by_number, counted_from}
use Rattle.canvas_semantics.specs.States.{numbers_from}
use Rattle.canvas_rewrite.specs.Planned.{IsPlan}
use Rattle.canvas_rewrite.proofs.NamesInOrder.{plan_names}
use Rattle.canvas_report.proofs.ReportLines.{names_long}
use Rattle.canvas_report.specs.declared.graph.edges.Node.{Node}
use Rattle.canvas_report.specs.declared.graph.edges.Node.TheVariants.{Joint}
use Rattle.canvas_report.specs.Ends as ends
use Rattle.canvas_report.specs.Ends.{firsts, all_lasts, has_joint}
use Rattle.canvas_report.specs.Nodes.{Piece, node, opens, point, closes, points, joints, task_pieces, all_task_pieces, line_pieces, all_line_pieces, nodes}

abbrev named : List (ℕ × Text) → List ℕ
named ns = map (λ n. n.0) ns

nodes_append : (ps qs : List Piece) → nodes (ps ++ qs) ≡ nodes ps ++ nodes qs
nodes_append [] qs = refl
nodes_append (node k ∷ ps) qs = ap (λ ks. k ∷ ks) (nodes_append ps qs)
nodes_append (opens c g ∷ ps) qs = nodes_append ps qs
nodes_append (point n ∷ ps) qs = nodes_append ps qs
nodes_append (closes ∷ ps) qs = nodes_append ps qs

both : (ps qs : List Piece) (xs ys : List (ℕ × Text)) → nodes ps ≡ named xs → nodes qs ≡ named ys → nodes (ps ++ qs) ≡ named (xs ++ ys)
both ps qs xs ys e h = nodes_append ps qs ∙ (ap₂ (λ a b. a ++ b) e h ∙ sym (map-append (λ n. n.0) xs ys))

no_node : (g : ℕ) (ms : Lines) → nodes (points g ms) ≡ []
no_node g no_lines = refl
no_node g (and_line m ms) = refl

framed : (c : Bool) (g : ℕ) (ms : Lines) → nodes (opens c g ∷ points g ms ++ all_line_pieces ms ++ closes ∷ []) ≡ nodes (all_line_pieces ms)
framed c g ms =
    nodes_append (opens c g ∷ points g ms ++ all_line_pieces ms) (closes ∷ []) ∙ append-nil _
    ∙ nodes_append (opens c g ∷ points g ms) (all_line_pieces ms) ∙ ap (λ ks. ks ++ nodes (all_line_pieces ms)) (no_node g ms)

no_task : (g : ℕ) (has : Bool) → nodes (if has then point (Joint g) ∷ [] else []) ≡ []
no_task g true = refl
no_task g false = refl

header : (g : ℕ) (ms : Lines) (from to : List Node)
    → nodes (opens true g ∷ points g ms ++ all_line_pieces ms ++ closes ∷ [] ++ joints g from to) ≡ nodes (all_line_pieces ms)
header g ms from to =
    nodes_append (opens true g ∷ points g ms ++ all_line_pieces ms ++ closes ∷ []) (joints g from to)
    ∙ ap₂ (λ ks js. ks ++ js) (framed true g ms) (no_task g (has_joint from to)) ∙ append-nil (nodes (all_line_pieces ms))

mutual
  task_nodes : (t : Task) → nodes (task_pieces t) ≡ named (names_of_task t)
  task_nodes (task k call ls es) =
      ap (λ ks. k ∷ ks) (both (all_task_pieces ls) (all_task_pieces es) (names_of_tasks ls) (names_of_tasks es) (tasks_nodes ls) (tasks_nodes es))

  tasks_nodes : (ts : Tasks) → nodes (all_task_pieces ts) ≡ named (names_of_tasks ts)
  tasks_nodes no_tasks = refl
  tasks_nodes (and_task t ts) = both (task_pieces t) (all_task_pieces ts) (names_of_task t) (names_of_tasks ts) (task_nodes t) (tasks_nodes ts)

mutual
  line_nodes : (l : Line) → nodes (line_pieces l) ≡ named (all_names_by_number (elements_of l))
  line_nodes stop = refl
  line_nodes (step t rest) =
      both (task_pieces t) (line_pieces rest) (names_of_task t) (all_names_by_number (elements_of rest)) (task_nodes t) (line_nodes rest)
  line_nodes (group_end g ms) =
      framed false g ms ∙ members_nodes ms ∙ sym (ap named (append-nil (all_names_by_number (members_of ms))))
  line_nodes (chord_end g ms b) =
      both (opens true g ∷ points g ms ++ all_line_pieces ms ++ closes ∷ [] ++ joints g (ends.point g ms ++ all_lasts ms) (firsts b)) (line_pieces b)
      (all_names_by_number (members_of ms)) (all_names_by_number (elements_of b))
      (header g ms (ends.point g ms ++ all_lasts ms) (firsts b) ∙ members_nodes ms) (line_nodes b)
      ∙ sym (ap named (append-nil (all_names_by_number (members_of ms) ++ all_names_by_number (elements_of b))))

  members_nodes : (ms : Lines) → nodes (all_line_pieces ms) ≡ named (all_names_by_number (members_of ms))
  members_nodes no_lines = refl
  members_nodes (and_line m ms) =
      both (line_pieces m) (all_line_pieces ms) (all_names_by_number (elements_of m)) (all_names_by_number (members_of ms)) (line_nodes m) (members_nodes ms)

counted : (k : ℕ) (ns : List Text) → named (counted_from k ns) ≡ numbers_from k (length ns)
counted k [] = refl
counted k (n ∷ ns) =
    let next : k + 1 ≡ suc k = omega arith in
    ap (λ ks. k ∷ ks) (ap (λ j. named (counted_from j ns)) next ∙ counted (suc k) ns)

pub plan_nodes : (l : Line) → IsPlan l → nodes (line_pieces l) ≡ numbers_from 1 (count_line l)
plan_nodes l plan =
    line_nodes l ∙ (ap named (plan_names l plan) ∙ (counted 1 (names l) ∙ ap (numbers_from 1) (names_long l)))
