-- A frozen line without its places, by its parts; its ends and its groups.
use Rattle.std.proofs.Common.{◌≡◌, ◌∙◌, ℕ, List, [], ◌∷◌, ◌++◌, map, Option, Some, None, Box, Global, refl, sym, ap, rules, append_assoc, true, false, Result, OnOk, subst, slice_get, length, ◌-◌, Bool, arith}
use Rattle.canvas_semantics.specs.Tree.{Task}
use Rattle.canvas_semantics.specs.Line.{Line, stop, step, group_end, chord_end, Lines, and_line, no_of, ends_of, all_ends_of, group_entries, all_group_entries, GroupEntry}
use Rattle.canvas_semantics.specs.PlacedLine.{PTask, PPlace, PLine, p_stop, p_group_end, p_chord_end, strip, strip_all, strip_task}
use Rattle.canvas_rewrite.specs.FrozenView.{steps_onto, lines_of, p_steps, p_lines_of, p_task_view, p_line_view, p_end_view, task_in, line_in, end_in, PCarried, carried_step, p_end_step, p_line_step, p_task_step, place_step}
use Rattle.canvas_semantics.specs.steps.Numbering.{lines_ends, lines_group_entries}
use Rattle.canvas_rewrite.specs.declared.frozen.Carried as block
use Rattle.canvas_rewrite.specs.declared.frozen.FrozenTask as ftask
use Rattle.std.specs.declared.alloc.AllocError.{AllocError}
use Rattle.canvas_rewrite.specs.declared.frozen.FrozenTask.{FrozenTask, out-FrozenTask}
use Rattle.canvas_rewrite.specs.declared.frozen.FrozenLine.{FrozenLine, out-FrozenLine}
use Rattle.canvas_rewrite.specs.declared.frozen.FrozenEnd.{FrozenEnd, out-FrozenEnd}

seen_none : (l : FrozenLine) → (out-FrozenLine l).tail ≡ None → p_line_view l ≡ p_steps (map p_task_view (out-FrozenLine l).tasks) p_stop
seen_none l e = search (rules, block.the_lemmas)

seen_some : (l : FrozenLine) (b : Box FrozenEnd Global) → (out-FrozenLine l).tail ≡ Some b
    → p_line_view l ≡ p_steps (map p_task_view (out-FrozenLine l).tasks) (p_end_view b.value)
seen_some l b e = search (rules, block.the_lemmas)

seen_group : (t : FrozenEnd) → (out-FrozenEnd t).body ≡ None
    → p_end_view t ≡ p_group_end (out-FrozenEnd t).group (p_lines_of (map p_line_view (out-FrozenEnd t).members))
seen_group t e = search (rules, block.the_lemmas)

seen_chord : (t : FrozenEnd) (b : FrozenLine) → (out-FrozenEnd t).body ≡ Some b
    → p_end_view t ≡ p_chord_end (out-FrozenEnd t).group (p_lines_of (map p_line_view (out-FrozenEnd t).members)) (p_line_view b)
seen_chord t b e = search (rules, block.the_lemmas)

pub strip_steps : (ts : List FrozenTask) (l : PLine) → strip (p_steps (map p_task_view ts) l) ≡ steps_onto (map task_in ts) (strip l)
strip_steps [] l = refl
strip_steps (t ∷ ts) l = ap (step (task_in t)) (strip_steps ts l)

strip_lines : (ls : List FrozenLine) → strip_all (p_lines_of (map p_line_view ls)) ≡ lines_of (map line_in ls)
strip_lines [] = refl
strip_lines (l ∷ ls) = ap (and_line (line_in l)) (strip_lines ls)

pub in_none : (l : FrozenLine) → (out-FrozenLine l).tail ≡ None → line_in l ≡ steps_onto (map task_in (out-FrozenLine l).tasks) stop
in_none l e = ap strip (seen_none l e) ∙ strip_steps _ p_stop

pub in_some : (l : FrozenLine) (b : Box FrozenEnd Global) → (out-FrozenLine l).tail ≡ Some b
    → line_in l ≡ steps_onto (map task_in (out-FrozenLine l).tasks) (end_in b.value)
in_some l b e = ap strip (seen_some l b e) ∙ strip_steps _ (p_end_view b.value)

pub in_group : (t : FrozenEnd) → (out-FrozenEnd t).body ≡ None → end_in t ≡ group_end (out-FrozenEnd t).group (lines_of (map line_in (out-FrozenEnd t).members))
in_group t e = ap strip (seen_group t e) ∙ ap (group_end (out-FrozenEnd t).group) (strip_lines _)

pub in_chord : (t : FrozenEnd) (b : FrozenLine) → (out-FrozenEnd t).body ≡ Some b
    → end_in t ≡ chord_end (out-FrozenEnd t).group (lines_of (map line_in (out-FrozenEnd t).members)) (line_in b)
in_chord t b e = ap strip (seen_chord t b e) ∙ ap (λ ms. chord_end (out-FrozenEnd t).group ms (line_in b)) (strip_lines _)

-- ---- ends

pub all_ends : (ls : List Line) → all_ends_of (lines_of ls) ≡ lines_ends ls
all_ends [] = refl
all_ends (l ∷ ls) = ap (λ es. ends_of l ++ es) (all_ends ls)

pub every_entry : (ls : List Line) → all_group_entries (lines_of ls) ≡ lines_group_entries ls
every_entry [] = refl
every_entry (l ∷ ls) = ap (λ es. group_entries l ++ es) (every_entry ls)

ends_group : (ts : List Task) (g : ℕ) (ms : Lines) → ends_of (steps_onto ts (group_end g ms)) ≡ all_ends_of ms
ends_group [] g ms = refl
ends_group (t ∷ []) g ms = refl
ends_group (t ∷ u ∷ ts) g ms = ends_group (u ∷ ts) g ms

ends_chord : (ts : List Task) (g : ℕ) (ms : Lines) (b : Line) → ends_of (steps_onto ts (chord_end g ms b)) ≡ ends_of b
ends_chord [] g ms b = refl
ends_chord (t ∷ []) g ms b = refl
ends_chord (t ∷ u ∷ ts) g ms b = ends_chord (u ∷ ts) g ms b

by_body : (l : FrozenLine) (b : Box FrozenEnd Global) → (out-FrozenLine l).tail ≡ Some b → (o : Option FrozenLine) → (out-FrozenEnd b.value).body ≡ o
    → ends_of (line_in l) ≡ ends_of (end_in b.value)
by_body l b e None h = ap ends_of (in_some l b e) ∙ ap (λ x. ends_of (steps_onto (map task_in (out-FrozenLine l).tasks) x)) (in_group b.value h)
    ∙ ends_group (map task_in (out-FrozenLine l).tasks) (out-FrozenEnd b.value).group (lines_of (map line_in (out-FrozenEnd b.value).members))
    ∙ sym (ap ends_of (in_group b.value h))
by_body l b e (Some x) h = ap ends_of (in_some l b e) ∙ ap (λ y. ends_of (steps_onto (map task_in (out-FrozenLine l).tasks) y)) (in_chord b.value x h)
    ∙ ends_chord (map task_in (out-FrozenLine l).tasks) (out-FrozenEnd b.value).group (lines_of (map line_in (out-FrozenEnd b.value).members)) (line_in x)
    ∙ sym (ap ends_of (in_chord b.value x h))

pub ends_some : (l : FrozenLine) (b : Box FrozenEnd Global) → (out-FrozenLine l).tail ≡ Some b → ends_of (line_in l) ≡ ends_of (end_in b.value)
ends_some l b e = by_body l b e (out-FrozenEnd b.value).body refl

pub ends_group_end : (t : FrozenEnd) → (out-FrozenEnd t).body ≡ None → ends_of (end_in t) ≡ lines_ends (map line_in (out-FrozenEnd t).members)
ends_group_end t e = ap ends_of (in_group t e) ∙ all_ends (map line_in (out-FrozenEnd t).members)

-- ---- groups

entries_steps : (ts : List Task) (l : Line) → group_entries (steps_onto ts l) ≡ group_entries l
entries_steps [] l = refl
entries_steps (t ∷ ts) l = entries_steps ts l

pub entries_none : (l : FrozenLine) → (out-FrozenLine l).tail ≡ None → group_entries (line_in l) ≡ []
entries_none l e = ap group_entries (in_none l e) ∙ entries_steps (map task_in (out-FrozenLine l).tasks) stop

pub entries_some : (l : FrozenLine) (b : Box FrozenEnd Global) → (out-FrozenLine l).tail ≡ Some b → group_entries (line_in l) ≡ group_entries (end_in b.value)
entries_some l b e = ap group_entries (in_some l b e) ∙ entries_steps (map task_in (out-FrozenLine l).tasks) (end_in b.value)

pub entries_group : (t : FrozenEnd) → (out-FrozenEnd t).body ≡ None
    → group_entries (end_in t) ≡ record { chord = false; members = lines_ends (map line_in (out-FrozenEnd t).members) }
    ∷ lines_group_entries (map line_in (out-FrozenEnd t).members)
entries_group t e =
    let ls : List Line = map line_in (out-FrozenEnd t).members in
    ap group_entries (in_group t e) ∙ ap (λ ms. record { chord = false; members = ms } ∷ all_group_entries (lines_of ls)) (all_ends ls)
    ∙ ap (λ es. record { chord = false; members = lines_ends ls } ∷ es) (every_entry ls)

pub entries_chord : (t : FrozenEnd) (b : FrozenLine) → (out-FrozenEnd t).body ≡ Some b
    → group_entries (end_in t) ≡ record { chord = true; members = lines_ends (map line_in (out-FrozenEnd t).members) }
    ∷ lines_group_entries (map line_in (out-FrozenEnd t).members) ++ group_entries (line_in b)
entries_chord t b e =
    let ls : List Line = map line_in (out-FrozenEnd t).members in
    ap group_entries (in_chord t b e) ∙ ap (λ ms. record { chord = true; members = ms } ∷ all_group_entries (lines_of ls) ++ group_entries (line_in b))
    (all_ends ls)
    ∙ ap (λ es. record { chord = true; members = lines_ends ls } ∷ es ++ group_entries (line_in b)) (every_entry ls)

-- ---- results

pub ok_same : {X : Type 0} (r : Result (Unit {0}) AllocError) (x a b : List X) → a ≡ b → OnOk r (x ≡ a) → OnOk r (x ≡ b)
ok_same {X = X} r x a b e h = let P : List X → Type 0 = λ y. OnOk r (x ≡ y) in subst P e h

-- ---- the last task

no_out : (t : FrozenTask) → no_of (task_in t) ≡ (out-FrozenTask t).no
no_out t = ap (λ p. no_of (strip_task p))
    (ftask.fold_out-FrozenTask PCarried PLine PLine PTask PPlace carried_step p_end_step p_line_step p_task_step place_step t)

ends_from : (t : FrozenTask) (ts : List FrozenTask) (x : FrozenTask) → Some x ≡ slice_get (t ∷ ts) (length ts)
    → ends_of (steps_onto (map task_in (t ∷ ts)) stop) ≡ (out-FrozenTask x).no ∷ []
ends_from t [] x h = let same : t ≡ x = cc in ap (λ k. k ∷ []) (no_out t ∙ ap (λ y. (out-FrozenTask y).no) same)
ends_from t (u ∷ us) x h = ends_from u us x h

never_from : (t : FrozenTask) (ts : List FrozenTask) → None ≡ slice_get (t ∷ ts) (length ts) → ⊥
never_from t [] h = cc
never_from t (u ∷ us) h = never_from u us h

less_one : (t : FrozenTask) (ts : List FrozenTask) → length (t ∷ ts) - 1 ≡ length ts
less_one t ts = omega arith

pub ends_last : (ts : List FrozenTask) (x : FrozenTask) → Some x ≡ slice_get ts (length ts - 1)
    → ends_of (steps_onto (map task_in ts) stop) ≡ (out-FrozenTask x).no ∷ []
ends_last [] x h = cc
ends_last (t ∷ ts) x h = ends_from t ts x (h ∙ ap (slice_get (t ∷ ts)) (less_one t ts))

pub ends_never : (ts : List FrozenTask) → None ≡ slice_get ts (length ts - 1) → ends_of (steps_onto (map task_in ts) stop) ≡ []
ends_never [] h = refl
ends_never (t ∷ ts) h = absurd (never_from t ts (h ∙ ap (slice_get (t ∷ ts)) (less_one t ts)))

-- ---- a group pushed, with the groups in its members

same_entry : (g : GroupEntry) (b : Bool) (ms : List ℕ) → g.chord ≡ b → g.members ≡ ms → g ≡ record { chord = b; members = ms }
same_entry g b ms hb hm = λ i. record { chord = hb i; members = hm i }

pub chord_pushed : (t : FrozenEnd) (b : FrozenLine) → (out-FrozenEnd t).body ≡ Some b
    → (g : GroupEntry) (gs gs1 gs2 : List GroupEntry) (xs ys : List FrozenLine)
    → g.chord ≡ true → g.members ≡ lines_ends (map line_in xs) → xs ≡ (out-FrozenEnd t).members
    → gs1 ≡ gs ++ g ∷ [] → gs2 ≡ gs1 ++ lines_group_entries (map line_in ys) → ys ≡ (out-FrozenEnd t).members
    → gs2 ++ group_entries (line_in b) ≡ gs ++ group_entries (end_in t)
chord_pushed t b e g gs gs1 gs2 xs ys hc hm hx h1 h2 hy =
    let ls : List Line = map line_in (out-FrozenEnd t).members in
    let own : GroupEntry = record { chord = true; members = lines_ends ls } in
    let first : g ≡ own = same_entry g true (lines_ends ls) hc (hm ∙ ap (λ zs. lines_ends (map line_in zs)) hx) in
    let before : gs1 ≡ gs ++ own ∷ [] = h1 ∙ ap (λ x. gs ++ x ∷ []) first in
    let all : gs2 ≡ (gs ++ own ∷ []) ++ lines_group_entries ls = h2 ∙ ap (λ x. x ++ lines_group_entries (map line_in ys)) before
    ∙ ap (λ zs. (gs ++ own ∷ []) ++ lines_group_entries (map line_in zs)) hy in
    ap (λ x. x ++ group_entries (line_in b)) (all ∙ append_assoc gs (own ∷ []) (lines_group_entries ls))
    ∙ append_assoc gs (own ∷ lines_group_entries ls) (group_entries (line_in b))
    ∙ ap (λ x. gs ++ x) (sym (entries_chord t b e))

pub group_pushed : (t : FrozenEnd) → (out-FrozenEnd t).body ≡ None
    → (g : GroupEntry) (gs gs1 : List GroupEntry) (xs ys : List FrozenLine)
    → g.chord ≡ false → g.members ≡ lines_ends (map line_in xs) → xs ≡ (out-FrozenEnd t).members
    → gs1 ≡ gs ++ g ∷ [] → ys ≡ (out-FrozenEnd t).members
    → gs1 ++ lines_group_entries (map line_in ys) ≡ gs ++ group_entries (end_in t)
group_pushed t e g gs gs1 xs ys hc hm hx h1 hy =
    let ls : List Line = map line_in (out-FrozenEnd t).members in
    let own : GroupEntry = record { chord = false; members = lines_ends ls } in
    let first : g ≡ own = same_entry g false (lines_ends ls) hc (hm ∙ ap (λ zs. lines_ends (map line_in zs)) hx) in
    let before : gs1 ≡ gs ++ own ∷ [] = h1 ∙ ap (λ x. gs ++ x ∷ []) first in
    ap (λ x. x ++ lines_group_entries (map line_in ys)) before ∙ ap (λ zs. (gs ++ own ∷ []) ++ lines_group_entries (map line_in zs)) hy
    ∙ append_assoc gs (own ∷ []) (lines_group_entries ls) ∙ ap (λ x. gs ++ x) (sym (entries_group t e))
