-- What the checks of a message's parts have seen.
use Rattle.std.proofs.Common.{◌≡◌, ◌∙◌, ℕ, suc, List, [], ◌∷◌, ◌++◌, map, length, arith, Option, Some, None, Box, Global, Bool, true, false, refl, sym, ap}
use Rattle.std.specs.Prelude.{◌&&◌, ◌==◌, not, nat_lt}
use Rattle.std.proofs.lemmas.Bool.Decides.{nat_tests}
use Rattle.canvas_task.specs.declared.arg.Arg.{Arg}
use Rattle.canvas_task.specs.Entries.{IsBelow, Ascends}
use Rattle.canvas_semantics.specs.PlacedLine.{PTask, PLine, p_stop, p_step, p_group_end, p_chord_end}
use Rattle.canvas_rewrite.specs.FrozenView.{p_tasks_of, p_lines_of, p_steps}
use Rattle.canvas_rewrite.specs.FrozenView.{p_task_view, p_line_view, p_end_view}
use Rattle.canvas_rewrite.specs.declared.frozen.FrozenTask.{FrozenTask}
use Rattle.canvas_rewrite.specs.declared.frozen.FrozenLine.{FrozenLine, out-FrozenLine}
use Rattle.canvas_rewrite.specs.declared.frozen.FrozenEnd.{FrozenEnd, out-FrozenEnd}
use Rattle.canvas_envelope.proofs.Seen.{line_none, line_some, line_last, end_none, end_some}
use Rattle.canvas_envelope.specs.Fits.{how_many, is_below, ascends, task_ok, tasks_ok, line_ok}
use Rattle.canvas_envelope.specs.steps.Parts.{is_stop, is_longer}

pub both : (a b : Bool) → a ≡ true → b ≡ true → (a && b) ≡ true
both true b h i = i
both false b h i = absurd cc

and_and : (a b c : Bool) → ((a && b) && c) ≡ (a && (b && c))
and_and true b c = refl
and_and false b c = refl

below_so : (k : List ℕ) (es : List (List ℕ × Arg)) → IsBelow k es → is_below k es ≡ true
below_so k [] h = refl
below_so k (e ∷ es) h = both _ _ (rw h.0 refl) (below_so k es h.1)

pub ascends_so : (es : List (List ℕ × Arg)) → Ascends es → ascends es ≡ true
ascends_so [] h = refl
ascends_so (e ∷ es) h = both _ _ (below_so e.0 es h.0) (ascends_so es h.1)

-- ---- lines

pub step_ok : (last : Bool) (t : PTask) (l : PLine) → is_stop l ≡ false → line_ok last (p_step t l) ≡ (task_ok false t && line_ok last l)
step_ok last t p_stop h = absurd cc
step_ok last t (p_step u l) h = refl
step_ok last t (p_group_end g ms) h = refl
step_ok last t (p_chord_end g ms b) h = refl

pub never_stops : (ts : List PTask) (e : PLine) → is_stop e ≡ false → is_stop (p_steps ts e) ≡ false
never_stops [] e h = h
never_stops (t ∷ ts) e h = refl

pub steps_ok : (last : Bool) (ts : List PTask) (e : PLine) → is_stop e ≡ false → line_ok last (p_steps ts e) ≡ (tasks_ok (p_tasks_of ts) && line_ok last e)
steps_ok last [] e h = refl
steps_ok last (t ∷ ts) e h =
    step_ok last t (p_steps ts e) (never_stops ts e h) ∙ ap (λ b. task_ok false t && b) (steps_ok last ts e h)
    ∙ sym (and_and (task_ok false t) (tasks_ok (p_tasks_of ts)) (line_ok last e))

end_by : (t : FrozenEnd) (o : Option FrozenLine) → (out-FrozenEnd t).body ≡ o → is_stop (p_end_view t) ≡ false
end_by t None e = ap is_stop (end_none t e)
end_by t (Some b) e = ap is_stop (end_some t b e)

pub end_stands : (t : FrozenEnd) → is_stop (p_end_view t) ≡ false
end_stands t = end_by t (out-FrozenEnd t).body refl

pub some_ok : (last : Bool) (l : FrozenLine) (b : Box FrozenEnd Global) → (out-FrozenLine l).tail ≡ Some b
    → line_ok last (p_line_view l) ≡ (tasks_ok (p_tasks_of (map p_task_view (out-FrozenLine l).tasks)) && line_ok last (p_end_view b.value))
some_ok last l b e = ap (line_ok last) (line_some l b e) ∙ steps_ok last (map p_task_view (out-FrozenLine l).tasks) (p_end_view b.value) (end_stands b.value)

pub last_ok : (last : Bool) (l : FrozenLine) → (out-FrozenLine l).tail ≡ None → (ts : List FrozenTask) (t : FrozenTask)
    → (out-FrozenLine l).tasks ≡ ts ++ t ∷ []
    → line_ok last (p_line_view l) ≡ (tasks_ok (p_tasks_of (map p_task_view ts)) && task_ok last (p_task_view t))
last_ok last l e ts t h = ap (line_ok last) (line_last l e ts t h) ∙ steps_ok last (map p_task_view ts) (p_step (p_task_view t) p_stop) refl

-- ---- one check after the other

pub and_then : (a b x y z : Bool) → a ≡ x → a ≡ true → b ≡ y → z ≡ (x && y) → b ≡ z
and_then a b x y z ax at by zx = by ∙ sym (zx ∙ ap (λ w. w && y) (sym ax ∙ at))

pub and_else : (a x y z : Bool) → a ≡ x → a ≡ false → z ≡ (x && y) → a ≡ z
and_else a x y z ax af zx = af ∙ sym (zx ∙ ap (λ w. w && y) (sym ax ∙ af))

pub counted : (ls : List FrozenLine) → how_many (p_lines_of (map p_line_view ls)) ≡ length ls
counted [] = refl
counted (l ∷ ls) = omega (arith, counted ls)

-- ---- how many elements a line has

pub stop_some : (l : FrozenLine) (b : Box FrozenEnd Global) → (out-FrozenLine l).tail ≡ Some b → false ≡ is_stop (p_line_view l)
stop_some l b e = sym (ap is_stop (line_some l b e) ∙ never_stops (map p_task_view (out-FrozenLine l).tasks) (p_end_view b.value) (end_stands b.value))

pub never_zero : (n : ℕ) → (suc n == 0) ≡ false
never_zero n = grind (arith, nat_tests)

none_stop : (ts : List FrozenTask) → (length ts == 0) ≡ is_stop (p_steps (map p_task_view ts) p_stop)
none_stop [] = refl
none_stop (t ∷ ts) = never_zero (length ts)

pub stop_none : (l : FrozenLine) → (out-FrozenLine l).tail ≡ None → (ts : List FrozenTask) → ts ≡ (out-FrozenLine l).tasks
    → (length ts == 0) ≡ is_stop (p_line_view l)
stop_none l e ts same = none_stop ts ∙ ap (λ xs. is_stop (p_steps (map p_task_view xs) p_stop)) same ∙ sym (ap is_stop (line_none l e))

step_longer : (t : PTask) (l : PLine) → is_stop l ≡ false → is_longer (p_step t l) ≡ true
step_longer t p_stop h = absurd cc
step_longer t (p_step u l) h = refl
step_longer t (p_group_end g ms) h = refl
step_longer t (p_chord_end g ms b) h = refl

short_by : (t : FrozenEnd) (o : Option FrozenLine) → (out-FrozenEnd t).body ≡ o → is_longer (p_end_view t) ≡ false
short_by t None e = ap is_longer (end_none t e)
short_by t (Some b) e = ap is_longer (end_some t b e)

some_longer : (ts : List FrozenTask) (t : FrozenEnd) → not (length ts == 0) ≡ is_longer (p_steps (map p_task_view ts) (p_end_view t))
some_longer [] t = sym (short_by t (out-FrozenEnd t).body refl)
some_longer (u ∷ us) t = ap not (never_zero (length us)) ∙ sym (step_longer (p_task_view u) _ (never_stops (map p_task_view us) (p_end_view t) (end_stands t)))

pub longer_some : (l : FrozenLine) (b : Box FrozenEnd Global) → (out-FrozenLine l).tail ≡ Some b → (ts : List FrozenTask) → ts ≡ (out-FrozenLine l).tasks
    → not (length ts == 0) ≡ is_longer (p_line_view l)
longer_some l b e ts same = some_longer ts b.value ∙ ap (λ xs. is_longer (p_steps (map p_task_view xs) (p_end_view b.value))) same
    ∙ sym (ap is_longer (line_some l b e))

none_longer : (ts : List FrozenTask) → nat_lt 1 (length ts) ≡ is_longer (p_steps (map p_task_view ts) p_stop)
none_longer [] = refl
none_longer (t ∷ []) = refl
none_longer (t ∷ u ∷ us) = grind (arith, nat_tests)

pub longer_none : (l : FrozenLine) → (out-FrozenLine l).tail ≡ None → (ts : List FrozenTask) → ts ≡ (out-FrozenLine l).tasks
    → nat_lt 1 (length ts) ≡ is_longer (p_line_view l)
longer_none l e ts same = none_longer ts ∙ ap (λ xs. is_longer (p_steps (map p_task_view xs) p_stop)) same ∙ sym (ap is_longer (line_none l e))
