-- The nodes and edges of a line, by its parts.
use Rattle.std.proofs.Common.{◌≡◌, ◌∙◌, ◌+◌, ◌<◌, ◌≤◌, ℕ, ◌==◌, get_or, drop, false, List, [], ◌∷◌, ◌++◌, map, length, Option, Some, None, Box, Global, slice_get, refl, sym, ap, subst, append_assoc, append-nil}
use Rattle.std.proofs.lemmas.List.{drop_all}
use Rattle.canvas_task.proofs.Turns.{item_first, put_on}
use Rattle.canvas_semantics.specs.Tree.{Task}
use Rattle.canvas_semantics.specs.Line.{Line, stop, group_end, chord_end, Lines, ends_of}
use Rattle.canvas_semantics.specs.PlacedLine.{PTask, PPlace, PLine, strip_task, strip_tasks}
use Rattle.canvas_rewrite.specs.FrozenView.{steps_onto, lines_of, p_tasks_of, p_task_view, task_in, line_in, end_in, PCarried, carried_step, p_end_step, p_line_step, p_task_step, place_step}
use Rattle.canvas_rewrite.specs.declared.frozen.FrozenTask as ftask
use Rattle.canvas_rewrite.specs.declared.frozen.FrozenTask.{FrozenTask, out-FrozenTask}
use Rattle.canvas_rewrite.specs.declared.frozen.FrozenLine.{FrozenLine, out-FrozenLine}
use Rattle.canvas_rewrite.specs.declared.frozen.FrozenEnd.{FrozenEnd, out-FrozenEnd}
use Rattle.canvas_rewrite.proofs.PlanLines.{in_none, in_some, in_group, in_chord}
use Rattle.canvas_report.specs.declared.graph.edges.Edge.{Edge}
use Rattle.canvas_report.specs.declared.graph.edges.Node.{Node}
use Rattle.canvas_report.specs.declared.graph.edges.Node.TheVariants as node
use Rattle.canvas_report.specs.declared.graph.edges.Leads.{Leads}
use Rattle.canvas_report.specs.declared.graph.edges.Leads.TheVariants.{Link, Errback}
use Rattle.canvas_report.specs.Ends.{of_task, point, point_of, firsts, all_firsts, lasts, all_lasts, member_lasts}
use Rattle.canvas_report.specs.Picture.{edge, to_body, behind, task_edges, callback_edges, line_edges, all_line_edges}
use Rattle.canvas_report.specs.steps.EdgeLists.{lines_firsts, lines_lasts, callbacks_edges, tasks_edges, last_node, lines_edges}

-- ---- lists

firsts_list : (ls : List Line) → all_firsts (lines_of ls) ≡ lines_firsts ls
firsts_list [] = refl
firsts_list (l ∷ ls) = ap (λ ns. firsts l ++ ns) (firsts_list ls)

lasts_list : (ls : List Line) → all_lasts (lines_of ls) ≡ lines_lasts ls
lasts_list [] = refl
lasts_list (l ∷ ls) = ap (λ ns. lasts l ++ ns) (lasts_list ls)

edges_list : (ls : List Line) → all_line_edges (lines_of ls) ≡ lines_edges ls
edges_list [] = refl
edges_list (l ∷ ls) = ap (λ es. line_edges None l ++ es) (edges_list ls)

callbacks_list : (leads : Leads) (from : Node) (ts : List FrozenTask)
    → callback_edges leads from (strip_tasks (p_tasks_of (map p_task_view ts))) ≡ callbacks_edges leads from (map task_in ts)
callbacks_list leads from [] = refl
callbacks_list leads from (t ∷ ts) = ap (λ es. edge leads from (of_task (task_in t)) ∷ task_edges (task_in t) ++ es) (callbacks_list leads from ts)

-- ---- a task

pub number_is : (t : FrozenTask) → of_task (task_in t) ≡ node.Task (out-FrozenTask t).no
number_is t =
    ap (λ p. of_task (strip_task p)) (ftask.fold_out-FrozenTask PCarried PLine PLine PTask PPlace carried_step p_end_step p_line_step p_task_step place_step t)

pub task_is : (t : FrozenTask) → task_edges (task_in t)
    ≡ callbacks_edges Link (node.Task (out-FrozenTask t).no) (map task_in (out-FrozenTask t).links)
    ++ callbacks_edges Errback (node.Task (out-FrozenTask t).no) (map task_in (out-FrozenTask t).errbacks)
task_is t =
    ap (λ p. task_edges (strip_task p))
    (ftask.fold_out-FrozenTask PCarried PLine PLine PTask PPlace carried_step p_end_step p_line_step p_task_step place_step t)
    ∙ (λ i. callbacks_list Link (node.Task (out-FrozenTask t).no) (out-FrozenTask t).links i
    ++ callbacks_list Errback (node.Task (out-FrozenTask t).no) (out-FrozenTask t).errbacks i)

pub callbacks_next : (leads : Leads) (from : Node) (ts : List FrozenTask) (i : ℕ) (x : FrozenTask) (n : Node) (here mid after whole : List Edge)
    → i < length ts → x ≡ get_or ts i x → n ≡ of_task (task_in x) → here ++ callbacks_edges leads from (map task_in (drop i ts)) ≡ whole
    → mid ≡ here ++ edge leads from n ∷ [] → after ≡ mid ++ task_edges (task_in x) → after ++ callbacks_edges leads from (map task_in (drop (i + 1) ts)) ≡ whole
callbacks_next leads from ts i x n here mid after whole h e named left p q =
    let own = edge leads from (of_task (task_in x)) ∷ [] in
    let both : after ≡ here ++ (own ++ task_edges (task_in x)) =
    q ∙ ap (λ es. es ++ task_edges (task_in x)) (p ∙ ap (λ m. here ++ edge leads from m ∷ []) named) ∙ append_assoc here own (task_edges (task_in x)) in
    put_on (λ us. callbacks_edges leads from (map task_in us)) ts i x (own ++ task_edges (task_in x)) here after whole h e refl left both

pub tasks_next : (ts : List FrozenTask) (i : ℕ) (x : FrozenTask) (before : Option Node) (n : Node) (here mid after whole : List Edge)
    → i < length ts → x ≡ get_or ts i x → n ≡ of_task (task_in x) → here ++ tasks_edges before (map task_in (drop i ts)) ≡ whole
    → mid ≡ here ++ task_edges (task_in x) → after ≡ mid ++ behind before (n ∷ []) → after ++ tasks_edges (Some n) (map task_in (drop (i + 1) ts)) ≡ whole
tasks_next ts i x before n here mid after whole h e named left p q =
    let own = behind before (of_task (task_in x) ∷ []) in
    let rest = tasks_edges (Some (of_task (task_in x))) (map task_in (drop (i + 1) ts)) in
    let both : after ≡ here ++ (task_edges (task_in x) ++ own) =
    q ∙ ap (λ m. mid ++ behind before (m ∷ [])) named ∙ ap (λ es. es ++ own) p ∙ append_assoc here (task_edges (task_in x)) own in
    ap (λ m. after ++ tasks_edges (Some m) (map task_in (drop (i + 1) ts))) named
    ∙ ap (λ es. es ++ rest) both ∙ append_assoc here (task_edges (task_in x) ++ own) rest
    ∙ ap (λ es. here ++ es) (sym (ap (λ zs. tasks_edges before (map task_in zs)) (item_first ts i x h e))) ∙ left

pub last_next : (ts : List FrozenTask) (i : ℕ) (x : FrozenTask) (before whole : Option Node) (n : Node)
    → i < length ts → x ≡ get_or ts i x → n ≡ of_task (task_in x) → last_node before (map task_in (drop i ts)) ≡ whole
    → last_node (Some n) (map task_in (drop (i + 1) ts)) ≡ whole
last_next ts i x before whole n h e named left =
    ap (λ m. last_node (Some m) (map task_in (drop (i + 1) ts))) named
    ∙ sym (ap (λ zs. last_node before (map task_in zs)) (item_first ts i x h e)) ∙ left

pub last_ended : (ts : List FrozenTask) (i : ℕ) (before whole : Option Node) → length ts ≤ i → last_node before (map task_in (drop i ts)) ≡ whole
    → before ≡ whole
last_ended ts i before whole h left = sym (ap (λ zs. last_node before (map task_in zs)) (drop_all i ts h)) ∙ left

-- ---- a group or chord

-- what holds of a group and of a chord holds of an end
pub by_body : (P : Line → Type 0) (t : FrozenEnd)
    → ((ls : List Line) → ls ≡ map line_in (out-FrozenEnd t).members → P (group_end (out-FrozenEnd t).group (lines_of ls)))
    → ((ls : List Line) (b : Line) → ls ≡ map line_in (out-FrozenEnd t).members → P (chord_end (out-FrozenEnd t).group (lines_of ls) b))
    → P (end_in t)
by_body P t group chord = of (out-FrozenEnd t).body refl
  where
    of : (o : Option FrozenLine) → (out-FrozenEnd t).body ≡ o → P (end_in t)
    of None e = subst P (sym (in_group t e)) (group _ refl)
    of (Some b) e = subst P (sym (in_chord t b e)) (chord _ (line_in b) refl)

no_point : (g : ℕ) (ls : List FrozenLine) → (length ls == 0) ≡ false → point g (lines_of (map line_in ls)) ≡ []
no_point g [] some = absurd (cc)
no_point g (l ∷ ls) some = refl

pub point_none : (t : FrozenEnd) (found : List FrozenLine) → found ≡ (out-FrozenEnd t).members → (length found == 0) ≡ false → point_of (end_in t) ≡ []
point_none t found same some =
    let none = ap (λ ls. point (out-FrozenEnd t).group (lines_of (map line_in ls))) (sym same) ∙ no_point (out-FrozenEnd t).group found some in
    by_body (λ x. point_of x ≡ []) t (λ ls is. ap (λ ks. point (out-FrozenEnd t).group (lines_of ks)) is ∙ none)
    (λ ls b is. ap (λ ks. point (out-FrozenEnd t).group (lines_of ks)) is ∙ none)

pub end_firsts : (t : FrozenEnd) → firsts (end_in t) ≡ point_of (end_in t) ++ lines_firsts (map line_in (out-FrozenEnd t).members)
end_firsts t =
    by_body (λ x. firsts x ≡ point_of x ++ lines_firsts (map line_in (out-FrozenEnd t).members)) t
    (λ ls same. ap (λ ns. point (out-FrozenEnd t).group (lines_of ls) ++ ns) (firsts_list ls ∙ ap lines_firsts same))
    (λ ls b same. ap (λ ns. point (out-FrozenEnd t).group (lines_of ls) ++ ns) (firsts_list ls ∙ ap lines_firsts same))

pub end_lasts : (t : FrozenEnd) → member_lasts (end_in t) ≡ point_of (end_in t) ++ lines_lasts (map line_in (out-FrozenEnd t).members)
end_lasts t =
    by_body (λ x. member_lasts x ≡ point_of x ++ lines_lasts (map line_in (out-FrozenEnd t).members)) t
    (λ ls same. ap (λ ns. point (out-FrozenEnd t).group (lines_of ls) ++ ns) (lasts_list ls ∙ ap lines_lasts same))
    (λ ls b same. ap (λ ns. point (out-FrozenEnd t).group (lines_of ls) ++ ns) (lasts_list ls ∙ ap lines_lasts same))

-- ---- where a line begins

tasks_first : (ts : List FrozenTask) (x : FrozenTask) (l : Line) → Some x ≡ slice_get ts 0 → firsts (steps_onto (map task_in ts) l) ≡ of_task (task_in x) ∷ []
tasks_first [] x l h = absurd cc
tasks_first (t ∷ ts) x l h = let same : t ≡ x = cc in ap (λ u. of_task (task_in u) ∷ []) same

none_first : (ts : List FrozenTask) (l : Line) → None ≡ slice_get ts 0 → firsts (steps_onto (map task_in ts) l) ≡ firsts l
none_first [] l h = refl
none_first (t ∷ ts) l h = absurd cc

firsts_task : (l : FrozenLine) (x : FrozenTask) → Some x ≡ slice_get (out-FrozenLine l).tasks 0 → firsts (line_in l) ≡ of_task (task_in x) ∷ []
firsts_task l x first = of (out-FrozenLine l).tail refl
  where
    of : (o : Option (Box FrozenEnd Global)) → (out-FrozenLine l).tail ≡ o → firsts (line_in l) ≡ of_task (task_in x) ∷ []
    of None e = ap firsts (in_none l e) ∙ tasks_first (out-FrozenLine l).tasks x stop first
    of (Some b) e = ap firsts (in_some l b e) ∙ tasks_first (out-FrozenLine l).tasks x (end_in b.value) first

pub first_pushed : (l : FrozenLine) (tasks : List FrozenTask) (x : FrozenTask) (n : Node) (here after : List Node) → tasks ≡ (out-FrozenLine l).tasks
    → Some x ≡ slice_get tasks 0 → n ≡ of_task (task_in x) → after ≡ here ++ n ∷ [] → after ≡ here ++ firsts (line_in l)
first_pushed l tasks x n here after same first named pushed =
    pushed ∙ ap (λ m. here ++ m ∷ []) named ∙ ap (λ ns. here ++ ns) (sym (firsts_task l x (first ∙ ap (λ ts. slice_get ts 0) same)))

pub firsts_end : (l : FrozenLine) (b : Box FrozenEnd Global) → None ≡ slice_get (out-FrozenLine l).tasks 0 → (out-FrozenLine l).tail ≡ Some b
    → firsts (line_in l) ≡ firsts (end_in b.value)
firsts_end l b none e = ap firsts (in_some l b e) ∙ none_first (out-FrozenLine l).tasks (end_in b.value) none

pub firsts_none : (l : FrozenLine) → None ≡ slice_get (out-FrozenLine l).tasks 0 → (out-FrozenLine l).tail ≡ None → firsts (line_in l) ≡ []
firsts_none l none e = ap firsts (in_none l e) ∙ none_first (out-FrozenLine l).tasks stop none

-- ---- where a line ends

behind_group : (ts : List Task) (g : ℕ) (ms : Lines) → lasts (steps_onto ts (group_end g ms)) ≡ lasts (group_end g ms)
behind_group [] g ms = refl
behind_group (t ∷ []) g ms = refl
behind_group (t ∷ u ∷ ts) g ms = behind_group (u ∷ ts) g ms

behind_chord : (ts : List Task) (g : ℕ) (ms : Lines) (b : Line) → lasts (steps_onto ts (chord_end g ms b)) ≡ lasts (chord_end g ms b)
behind_chord [] g ms b = refl
behind_chord (t ∷ []) g ms b = refl
behind_chord (t ∷ u ∷ ts) g ms b = behind_chord (u ∷ ts) g ms b

pub lasts_some : (l : FrozenLine) (b : Box FrozenEnd Global) → (out-FrozenLine l).tail ≡ Some b → lasts (line_in l) ≡ lasts (end_in b.value)
lasts_some l b e =
    ap lasts (in_some l b e)
    ∙ by_body (λ x. lasts (steps_onto (map task_in (out-FrozenLine l).tasks) x) ≡ lasts x) b.value
    (λ ls same. behind_group (map task_in (out-FrozenLine l).tasks) _ (lines_of ls))
    (λ ls c same. behind_chord (map task_in (out-FrozenLine l).tasks) _ (lines_of ls) c)

lasts_tasks : (ts : List Task) → lasts (steps_onto ts stop) ≡ map (λ k. node.Task k) (ends_of (steps_onto ts stop))
lasts_tasks [] = refl
lasts_tasks (t ∷ []) = refl
lasts_tasks (t ∷ u ∷ ts) = lasts_tasks (u ∷ ts)

pub lasts_none : (l : FrozenLine) (ks : List ℕ) → (out-FrozenLine l).tail ≡ None → ends_of (steps_onto (map task_in (out-FrozenLine l).tasks) stop) ≡ ks
    → lasts (line_in l) ≡ map (λ k. node.Task k) ks
lasts_none l ks e are =
    ap lasts (in_none l e) ∙ lasts_tasks (map task_in (out-FrozenLine l).tasks) ∙ ap (map (λ k. node.Task k)) are

-- a group ends where its members do
pub group_lasts : (t : FrozenEnd) → (out-FrozenEnd t).body ≡ None → lasts (end_in t) ≡ member_lasts (end_in t)
group_lasts t e = ap lasts (in_group t e) ∙ sym (ap member_lasts (in_group t e))

-- ---- the edges of a line

steps_edges : (before : Option Node) (ts : List Task) (l : Line)
    → line_edges before (steps_onto ts l) ≡ tasks_edges before ts ++ line_edges (last_node before ts) l
steps_edges before [] l = refl
steps_edges before (t ∷ ts) l =
    ap (λ es. task_edges t ++ behind before (of_task t ∷ []) ++ es) (steps_edges (Some (of_task t)) ts l)
    ∙ sym (append_assoc (task_edges t ++ behind before (of_task t ∷ [])) (tasks_edges (Some (of_task t)) ts) (line_edges (last_node (Some (of_task t)) ts) l))

pub line_none : (l : FrozenLine) → (out-FrozenLine l).tail ≡ None → line_edges None (line_in l) ≡ tasks_edges None (map task_in (out-FrozenLine l).tasks)
line_none l e =
    ap (line_edges None) (in_none l e) ∙ steps_edges None (map task_in (out-FrozenLine l).tasks) stop
    ∙ append-nil (tasks_edges None (map task_in (out-FrozenLine l).tasks))

pub line_some : (l : FrozenLine) (b : Box FrozenEnd Global) → (out-FrozenLine l).tail ≡ Some b
    → line_edges None (line_in l)
    ≡ tasks_edges None (map task_in (out-FrozenLine l).tasks) ++ line_edges (last_node None (map task_in (out-FrozenLine l).tasks)) (end_in b.value)
line_some l b e = ap (line_edges None) (in_some l b e) ∙ steps_edges None (map task_in (out-FrozenLine l).tasks) (end_in b.value)

pub group_edges : (before : Option Node) (t : FrozenEnd) → (out-FrozenEnd t).body ≡ None
    → line_edges before (end_in t) ≡ behind before (firsts (end_in t)) ++ lines_edges (map line_in (out-FrozenEnd t).members)
group_edges before t e =
    subst (λ x. line_edges before x ≡ behind before (firsts x) ++ lines_edges (map line_in (out-FrozenEnd t).members)) (sym (in_group t e))
    (ap (λ es. behind before (firsts (group_end (out-FrozenEnd t).group (lines_of (map line_in (out-FrozenEnd t).members)))) ++ es)
    (edges_list (map line_in (out-FrozenEnd t).members)))

pub chord_edges : (before : Option Node) (t : FrozenEnd) (b : FrozenLine) → (out-FrozenEnd t).body ≡ Some b
    → line_edges before (end_in t)
    ≡ behind before (firsts (end_in t)) ++ lines_edges (map line_in (out-FrozenEnd t).members)
    ++ (to_body (out-FrozenEnd t).group (member_lasts (end_in t)) (firsts (line_in b)) ++ line_edges None (line_in b))
chord_edges before t b e =
    subst (λ x. line_edges before x ≡ behind before (firsts x) ++ lines_edges (map line_in (out-FrozenEnd t).members)
    ++ (to_body (out-FrozenEnd t).group (member_lasts x) (firsts (line_in b)) ++ line_edges None (line_in b))) (sym (in_chord t b e))
    (append_assoc _
    (to_body (out-FrozenEnd t).group
    (member_lasts (chord_end (out-FrozenEnd t).group (lines_of (map line_in (out-FrozenEnd t).members)) (line_in b))) (firsts (line_in b)))
    (line_edges None (line_in b))
    ∙ ap (λ es. behind before (firsts (chord_end (out-FrozenEnd t).group (lines_of (map line_in (out-FrozenEnd t).members)) (line_in b))) ++ es
    ++ (to_body (out-FrozenEnd t).group
    (member_lasts (chord_end (out-FrozenEnd t).group (lines_of (map line_in (out-FrozenEnd t).members)) (line_in b))) (firsts (line_in b))
    ++ line_edges None (line_in b))) (edges_list (map line_in (out-FrozenEnd t).members)))
