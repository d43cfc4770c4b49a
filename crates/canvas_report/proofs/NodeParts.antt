-- The pieces of a picture that were written, one after another.
use Rattle.std.proofs.Common.{◌≡◌, ◌∙◌, ◌==◌, ◌+◌, ◌<◌, ◌≤◌, ◌/◌, ◌%◌, arith, cond, get_or, ℕ, zero, suc, Bool, true, false, List, [], ◌∷◌, ◌++◌, map, length, drop, Some, None, Box, Global, Result, Ok, Err, refl, sym, ap, subst, append_assoc, append-nil}
use Rattle.std.specs.Prelude.{OnOk, codes, decimal, if◌then◌else◌}
use Rattle.std.specs.Fmt.{digits, digits_onto, digit_glyph}
use Rattle.std.proofs.lemmas.Bool.Decides.{nat_tests}
use Rattle.std.proofs.lemmas.List.{drop_all}
use Rattle.canvas_task.specs.Text.{Text}
use Rattle.canvas_task.proofs.Turns.{item_first}
use Rattle.canvas_semantics.specs.Tree.{Task}
use Rattle.canvas_semantics.specs.Line.{Line, stop, no_of}
use Rattle.canvas_semantics.specs.PlacedLine.{PTask, PPlace, PLine, strip_task, strip_tasks}
use Rattle.canvas_rewrite.specs.FrozenView.{steps_onto, lines_of, p_tasks_of, p_task_view, task_in, line_in, end_in, PCarried, carried_step, p_end_step, p_line_step, p_task_step, place_step}
use Rattle.canvas_rewrite.specs.declared.frozen.FrozenTask as ftask
use Rattle.canvas_rewrite.specs.declared.frozen.FrozenTask.{FrozenTask, out-FrozenTask}
use Rattle.canvas_rewrite.specs.declared.frozen.FrozenLine.{FrozenLine, out-FrozenLine}
use Rattle.canvas_rewrite.specs.declared.frozen.FrozenEnd.{FrozenEnd, out-FrozenEnd}
use Rattle.canvas_rewrite.proofs.PlanLines.{in_none, in_some, in_group, in_chord}
use Rattle.canvas_report.specs.declared.graph.edges.Node.TheVariants.{Group}
use Rattle.canvas_report.specs.Ends.{node_text, firsts, member_lasts}
use Rattle.canvas_report.specs.Nodes.{Piece, node, opens, point, closes, points, joints, task_pieces, all_task_pieces, line_pieces, all_line_pieces, inside, behind_backslash, behind_ampersand, kind, node_line, frame_line, label_line, Draws, AreDrawn}
use Rattle.canvas_report.specs.Picture.{opening, line_edges, edges_text, IsPicture}
use Rattle.canvas_report.specs.steps.PieceLists.{Adds, AddsNode, tasks_pieces, lines_pieces, IsWhole, AddsWhole, list_points, frame_pieces}
use Rattle.canvas_report.proofs.EdgeParts.{by_body}

-- ---- what was written

drawn_append : (at : ℕ → Text) (ps qs : List Piece) (t u : Text) → AreDrawn at ps t → AreDrawn at qs u → AreDrawn at (ps ++ qs) (t ++ u)
drawn_append at [] qs t u h k = subst (AreDrawn at qs) (sym (ap (λ x. x ++ u) h)) k
drawn_append at (p ∷ ps) qs t u h k =
    (h.0, h.1 ++ u, h.2, drawn_append at ps qs h.1 u h.3 k, ap (λ x. x ++ u) h.4 ∙ append_assoc h.0 h.1 u)

pub nothing : (at : ℕ → Text) (old : Text) → Adds at [] old old
nothing at old = ([], refl, sym (append-nil old))

pub one : (at : ℕ → Text) (p : Piece) (own old new : Text) → Draws at p own → new ≡ old ++ own → Adds at (p ∷ []) old new
one at p own old new d e = (own, (own, [], d, refl, sym (append-nil own)), e)

pub after : (at : ℕ → Text) (ps qs : List Piece) (a b c : Text) → Adds at ps a b → Adds at qs b c → Adds at (ps ++ qs) a c
after at ps qs a b c h k =
    (h.0 ++ k.0, drawn_append at ps qs h.0 k.0 h.1 k.1, k.2 ∙ ap (λ x. x ++ k.0) h.2 ∙ append_assoc a h.0 k.0)

pub after_ok : {E : Type 0} (r : Result (Unit {0}) E) (at : ℕ → Text) (ps qs all : List Piece) (a b c : Text) → ps ++ qs ≡ all
    → Adds at ps a b → OnOk r (Adds at qs b c) → OnOk r (Adds at all a c)
after_ok (Ok x) at ps qs all a b c same h k = subst (λ xs. Adds at xs a c) same (after at ps qs a b c h k)
after_ok (Err e) at ps qs all a b c same h k = tt

pub alike : (at : ℕ → Text) (ps qs : List Piece) (a b : Text) → ps ≡ qs → Adds at ps a b → Adds at qs a b
alike at ps qs a b same h = subst (λ xs. Adds at xs a b) same h

-- ---- texts between quotes

pub whole_none : (old : Text) → AddsWhole old old
whole_none old = ([], (λ more. refl), sym (append-nil old))

pub whole_then : (a b c : Text) → AddsWhole a b → AddsWhole b c → AddsWhole a c
whole_then a b c h k =
    (h.0 ++ k.0, (λ more. ap inside (append_assoc h.0 k.0 more) ∙ h.1 (k.0 ++ more) ∙ k.1 more), k.2 ∙ ap (λ x. x ++ k.0) h.2 ∙ append_assoc a h.0 k.0)

pub whole_inside : (piece : Text) → IsWhole piece → inside piece ≡ true
whole_inside piece h = ap inside (sym (append-nil piece)) ∙ h []

-- ---- lists

strip_list : (ts : List FrozenTask) → all_task_pieces (strip_tasks (p_tasks_of (map p_task_view ts))) ≡ tasks_pieces (map task_in ts)
strip_list [] = refl
strip_list (t ∷ ts) = ap (λ ps. task_pieces (task_in t) ++ ps) (strip_list ts)

lines_list : (ls : List Line) → all_line_pieces (lines_of ls) ≡ lines_pieces ls
lines_list [] = refl
lines_list (l ∷ ls) = ap (λ ps. line_pieces l ++ ps) (lines_list ls)

points_list : (g : ℕ) (ls : List Line) → points g (lines_of ls) ≡ list_points g ls
points_list g [] = refl
points_list g (l ∷ ls) = refl

pub number_is : (t : FrozenTask) → no_of (task_in t) ≡ (out-FrozenTask t).no
number_is t =
    ap (λ p. no_of (strip_task p)) (ftask.fold_out-FrozenTask PCarried PLine PLine PTask PPlace carried_step p_end_step p_line_step p_task_step place_step t)

pub task_is : (t : FrozenTask)
    → node (no_of (task_in t)) ∷ [] ++ tasks_pieces (map task_in (out-FrozenTask t).links) ++ tasks_pieces (map task_in (out-FrozenTask t).errbacks)
    ≡ task_pieces (task_in t)
task_is t =
    ap (λ k. node k ∷ [] ++ tasks_pieces (map task_in (out-FrozenTask t).links) ++ tasks_pieces (map task_in (out-FrozenTask t).errbacks)) (number_is t)
    ∙ sym (λ i. node (out-FrozenTask t).no ∷ [] ++ strip_list (out-FrozenTask t).links i ++ strip_list (out-FrozenTask t).errbacks i)
    ∙ sym (ap (λ p. task_pieces (strip_task p))
    (ftask.fold_out-FrozenTask PCarried PLine PLine PTask PPlace carried_step p_end_step p_line_step p_task_step place_step t))

-- ---- lines

steps_pieces : (ts : List Task) (l : Line) → line_pieces (steps_onto ts l) ≡ tasks_pieces ts ++ line_pieces l
steps_pieces [] l = refl
steps_pieces (t ∷ ts) l =
    ap (λ ps. task_pieces t ++ ps) (steps_pieces ts l) ∙ sym (append_assoc (task_pieces t) (tasks_pieces ts) (line_pieces l))

pub line_none : (l : FrozenLine) → (out-FrozenLine l).tail ≡ None → tasks_pieces (map task_in (out-FrozenLine l).tasks) ≡ line_pieces (line_in l)
line_none l e =
    sym (ap line_pieces (in_none l e) ∙ steps_pieces (map task_in (out-FrozenLine l).tasks) stop
    ∙ append-nil (tasks_pieces (map task_in (out-FrozenLine l).tasks)))

pub line_some : (l : FrozenLine) (b : Box FrozenEnd Global) → (out-FrozenLine l).tail ≡ Some b
    → tasks_pieces (map task_in (out-FrozenLine l).tasks) ++ line_pieces (end_in b.value) ≡ line_pieces (line_in l)
line_some l b e = sym (ap line_pieces (in_some l b e) ∙ steps_pieces (map task_in (out-FrozenLine l).tasks) (end_in b.value))

frame_list : (c : Bool) (g : ℕ) (ls : List Line) → opens c g ∷ points g (lines_of ls) ++ all_line_pieces (lines_of ls) ++ closes ∷ []
    ≡ opens c g ∷ list_points g ls ++ lines_pieces ls ++ closes ∷ []
frame_list c g ls = λ i. opens c g ∷ points_list g ls i ++ lines_list ls i ++ closes ∷ []

pub frame_is : (c : Bool) (t : FrozenEnd)
    → opens c (out-FrozenEnd t).group ∷ [] ++ list_points (out-FrozenEnd t).group (map line_in (out-FrozenEnd t).members)
    ++ lines_pieces (map line_in (out-FrozenEnd t).members) ++ closes ∷ []
    ≡ frame_pieces c (end_in t)
frame_is c t =
    by_body (λ x. opens c (out-FrozenEnd t).group ∷ [] ++ list_points (out-FrozenEnd t).group (map line_in (out-FrozenEnd t).members)
    ++ lines_pieces (map line_in (out-FrozenEnd t).members) ++ closes ∷ [] ≡ frame_pieces c x) t
    (λ ls same. ap (λ ks. opens c (out-FrozenEnd t).group ∷ [] ++ list_points (out-FrozenEnd t).group ks ++ lines_pieces ks ++ closes ∷ []) (sym same)
    ∙ sym (frame_list c (out-FrozenEnd t).group ls))
    (λ ls b same. ap (λ ks. opens c (out-FrozenEnd t).group ∷ [] ++ list_points (out-FrozenEnd t).group ks ++ lines_pieces ks ++ closes ∷ []) (sym same)
    ∙ sym (frame_list c (out-FrozenEnd t).group ls))

pub group_is : (t : FrozenEnd) → (out-FrozenEnd t).body ≡ None → frame_pieces false (end_in t) ≡ line_pieces (end_in t)
group_is t e = subst (λ x. frame_pieces false x ≡ line_pieces x) (sym (in_group t e)) refl

pub chord_is : (t : FrozenEnd) (b : FrozenLine) → (out-FrozenEnd t).body ≡ Some b
    → frame_pieces true (end_in t) ++ joints (out-FrozenEnd t).group (member_lasts (end_in t)) (firsts (line_in b)) ++ line_pieces (line_in b)
    ≡ line_pieces (end_in t)
chord_is t b e =
    subst (λ x. frame_pieces true x ++ joints (out-FrozenEnd t).group (member_lasts x) (firsts (line_in b)) ++ line_pieces (line_in b) ≡ line_pieces x)
    (sym (in_chord t b e)) refl

-- ---- the rest of a list

pub rest_tasks : (ts : List FrozenTask) (i : ℕ) (t : FrozenTask) → i < length ts → t ≡ get_or ts i t
    → task_pieces (task_in t) ++ tasks_pieces (map task_in (drop (i + 1) ts)) ≡ tasks_pieces (map task_in (drop i ts))
rest_tasks ts i t lt is = ap (λ xs. tasks_pieces (map task_in xs)) (sym (item_first ts i t lt is))

pub rest_lines : (ls : List FrozenLine) (i : ℕ) (l : FrozenLine) → i < length ls → l ≡ get_or ls i l
    → line_pieces (line_in l) ++ lines_pieces (map line_in (drop (i + 1) ls)) ≡ lines_pieces (map line_in (drop i ls))
rest_lines ls i l lt is = ap (λ xs. lines_pieces (map line_in xs)) (sym (item_first ls i l lt is))

pub none_left : (ts : List FrozenTask) (i : ℕ) → length ts ≤ i → [] ≡ tasks_pieces (map task_in (drop i ts))
none_left ts i far = ap (λ xs. tasks_pieces (map task_in xs)) (sym (drop_all i ts far))

pub no_line_left : (ls : List FrozenLine) (i : ℕ) → length ls ≤ i → [] ≡ lines_pieces (map line_in (drop i ls))
no_line_left ls i far = ap (λ xs. lines_pieces (map line_in xs)) (sym (drop_all i ls far))

-- ---- points

no_list : (g : ℕ) (ls : List FrozenLine) → (length ls == 0) ≡ false → [] ≡ list_points g (map line_in ls)
no_list g [] some = absurd cc
no_list g (l ∷ ls) some = refl

a_list : (g : ℕ) (ls : List FrozenLine) → (length ls == 0) ≡ true → point (Group g) ∷ [] ≡ list_points g (map line_in ls)
a_list g [] none = refl
a_list g (l ∷ ls) none =
    let other : (suc (length ls) == 0) ≡ false = grind (arith, nat_tests) in
    absurd cc

pub point_else : (at : ℕ → Text) (g : ℕ) (ls : List FrozenLine) (old : Text) → (length ls == 0) ≡ false → Adds at (list_points g (map line_in ls)) old old
point_else at g ls old some = alike at [] _ old old (no_list g ls some) (nothing at old)

pub point_ok : {E : Type 0} (r : Result (Unit {0}) E) (at : ℕ → Text) (g : ℕ) (ls : List FrozenLine) (old new : Text) → (length ls == 0) ≡ true
    → OnOk r (new ≡ old ++ (codes "  " ++ node_text (Group g) ++ codes " [shape=point];\n")) → OnOk r (Adds at (list_points g (map line_in ls)) old new)
point_ok (Ok x) at g ls old new none e = alike at (point (Group g) ∷ []) _ old new (a_list g ls none) (one at (point (Group g)) _ old new refl e)
point_ok (Err x) at g ls old new none e = tt

pub alike_label : {E : Type 0} (r : Result (Unit {0}) E) (old : Text) (k : Text) (n m : ℕ) (new : Text) → n ≡ m
    → OnOk r (new ≡ old ++ label_line k n) → OnOk r (new ≡ old ++ label_line k m)
alike_label (Ok x) old k n m new same e = e ∙ ap (λ g. old ++ label_line k g) same
alike_label (Err x) old k n m new same e = tt

pub opening_ok : {E : Type 0} (r : Result (Unit {0}) E) (at : ℕ → Text) (c : Bool) (g n : ℕ) (k old new : Text) → n ≡ g → k ≡ kind c
    → OnOk r (new ≡ old ++ (frame_line n ++ label_line k n)) → OnOk r (Adds at (opens c g ∷ []) old new)
opening_ok (Ok x) at c g n k old new same is e =
    one at (opens c g) (frame_line n ++ label_line k n) old new (λ i. frame_line (same i) ++ label_line (is i) (same i)) e
opening_ok (Err x) at c g n k old new same is e = tt

-- ---- a node

pub node_ok : {E : Type 0} (r : Result (Unit {0}) E) (k n : ℕ) (look t0 t1 t2 t3 : Text) → n ≡ k
    → t1 ≡ t0 ++ (codes "  t" ++ decimal n ++ codes " [" ++ look ++ codes ", label=")
    → (inner : Text) × (inside inner ≡ true) × (t2 ≡ t1 ++ (codes "\"" ++ inner ++ codes "\"")) → OnOk r (t3 ≡ t2 ++ codes "];\n") → OnOk r (AddsNode k look t0 t3)
node_ok (Ok x) k n look t0 t1 t2 t3 same e1 h e3 = (
  h.0,
  h.1,
  e3 ∙ ap (λ x. x ++ codes "];\n") (h.2 ∙ ap (λ x. x ++ (codes "\"" ++ h.0 ++ codes "\"")) e1)
      ∙ around t0 (codes "  t" ++ decimal n ++ codes " [" ++ look ++ codes ", label=") (codes "\"") h.0 (codes "];\n")
      ∙ ap (λ m. t0 ++ node_line m look h.0) same,
)
  where
    around : (t a q l e : Text) → ((t ++ a) ++ (q ++ l ++ q)) ++ e ≡ t ++ (a ++ q ++ l ++ q ++ e)
    around t a q l e = simp append_assoc
node_ok (Err x) k n look t0 t1 t2 t3 same e1 h e3 = tt

-- a task's own look
pub own_node : {E : Type 0} (r : Result (Unit {0}) E) (at : ℕ → Text) (k n : ℕ) (look t0 t1 : Text) → k ≡ n → look ≡ at n → OnOk r (AddsNode n look t0 t1)
    → OnOk r (Adds at (node k ∷ []) t0 t1)
own_node (Ok x) at k n look t0 t1 same is h =
    one at (node k) (node_line n look h.0) t0 t1 (h.0, h.1, ap (λ x. node_line n x h.0) is ∙ ap (λ m. node_line m (at m) h.0) (sym same)) h.2
own_node (Err x) at k n look t0 t1 same is h = tt

-- ---- a character that isn't printable is written by its number

plain_byte : (b : ℕ) (bs : Text) → (b == 34) ≡ false → (b == 92) ≡ false → (b == 38) ≡ false → inside (b ∷ bs) ≡ inside bs
plain_byte b bs quote slash ampersand =
    ap (λ x. if x then false else (if b == 92 then behind_backslash bs else (if b == 38 then behind_ampersand bs else inside bs))) quote
    ∙ ap (λ x. if x then behind_backslash bs else (if b == 38 then behind_ampersand bs else inside bs)) slash
    ∙ ap (λ x. if x then behind_ampersand bs else inside bs) ampersand

glyph_plain : (d : ℕ) (bs : Text) → inside (digit_glyph false d ∷ bs) ≡ inside bs
glyph_plain d bs =
    plain_byte (digit_glyph false d) bs (grind (arith, nat_tests)) (grind (arith, nat_tests)) (grind (arith, nat_tests))

either_way : (b : Bool) (xs ys more : Text) (z : Bool) → inside (xs ++ more) ≡ z → inside (ys ++ more) ≡ z → inside (cond b xs ys ++ more) ≡ z
either_way true xs ys more z h k = h
either_way false xs ys more z h k = k

onto_plain : (k n : ℕ) (acc more : Text) → inside (digits_onto k 16 false n acc ++ more) ≡ inside (acc ++ more)
onto_plain zero n acc more = refl
onto_plain (suc k) n acc more =
    either_way (n / 16 == 0) (digit_glyph false (n % 16) ∷ acc) (digits_onto k 16 false (n / 16) (digit_glyph false (n % 16) ∷ acc)) more (inside (acc ++ more))
    (glyph_plain (n % 16) (acc ++ more))
    (onto_plain k (n / 16) (digit_glyph false (n % 16) ∷ acc) more ∙ glyph_plain (n % 16) (acc ++ more))

code_whole : (n : ℕ) → IsWhole (codes "\\\\u{" ++ digits 16 false n ++ codes "}")
unfolding digits
code_whole n more =
    ap inside (append_assoc (codes "\\\\u{" ++ digits_onto 64 16 false n []) (codes "}") more ∙ append_assoc (codes "\\\\u{") (digits_onto 64 16 false n []) (codes "}" ++ more))
    ∙ onto_plain 64 n [] (codes "}" ++ more)

pub code_ok : {E : Type 0} (r : Result (Unit {0}) E) (n : ℕ) (old new : Text) → OnOk r (new ≡ old ++ (codes "\\\\u{" ++ digits 16 false n ++ codes "}"))
    → OnOk r (AddsWhole old new)
code_ok (Ok x) n old new e = (codes "\\\\u{" ++ digits 16 false n ++ codes "}", code_whole n, e)
code_ok (Err x) n old new e = tt

-- ---- the whole

pub picture_is : (at : ℕ → Text) (l m n : Line) (t0 t1 t2 t3 t4 t5 : Text) → t0 ≡ [] → t1 ≡ t0 ++ codes "digraph canvas {\n  rankdir=LR;\n  node [fontname=\"Helvetica\"];\n"
    → t2 ≡ t1 ++ codes "  edge [fontname=\"Helvetica\"];\n  fontname=\"Helvetica\";\n" → Adds at (line_pieces m) t2 t3 → m ≡ l
    → t4 ≡ t3 ++ edges_text (line_edges None n) → n ≡ l → t5 ≡ t4 ++ codes "}\n" → IsPicture at l t5
picture_is at l m n t0 t1 t2 t3 t4 t5 e0 e1 e2 h same e4 alike e5 =
    let head = codes "digraph canvas {\n  rankdir=LR;\n  node [fontname=\"Helvetica\"];\n" in
    let more = codes "  edge [fontname=\"Helvetica\"];\n  fontname=\"Helvetica\";\n" in (
      h.0,
      subst (λ x. AreDrawn at (line_pieces x) h.0) same h.1,
      e5 ∙ ap (λ x. x ++ codes "}\n") (e4 ∙ ap (λ x. x ++ edges_text (line_edges None n)) (h.2 ∙ ap (λ x. x ++ h.0) (e2 ∙ ap (λ x. x ++ more) (e1 ∙ ap (λ x. x ++ head) e0))))
          ∙ ap (λ x. opening ++ h.0 ++ edges_text (line_edges None x) ++ codes "}\n") alike,
    )
