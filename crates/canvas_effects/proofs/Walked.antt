-- What the walks give of lines, ends and tasks as the code has them.
use Rattle.std.proofs.Common.{◌≡◌, ◌∙◌, ◌<◌, ◌+◌, ℕ, suc, Bool, true, false, List, [], ◌∷◌, ◌++◌, map, length, get_or, drop, Option, Some, None, Box, Global, refl, sym, ap, ap₂, subst, true≢false, append-nil, ne_eqb}
use Rattle.std.specs.Prelude.{ℤ, ◌==◌, not}
use Rattle.canvas_task.specs.declared.outcome.Fault.{Fault}
use Rattle.canvas_task.specs.declared.outcome.Outcome.{Outcome}
use Rattle.canvas_task.specs.declared.outcome.Outcome.TheVariants.{Success, Failure}
use Rattle.canvas_task.proofs.Turns.{item_first}
use Rattle.canvas_values.proofs.ComposedLemmas.{both}
use Rattle.canvas_semantics.specs.Line.{in_group}
use Rattle.canvas_semantics.specs.PlacedLine.{PTask, PLine, p_stop, p_step, p_group_end, p_chord_end, strip}
use Rattle.canvas_rewrite.specs.FrozenView.{p_steps, p_task_view, p_line_view, p_end_view}
use Rattle.canvas_rewrite.specs.declared.frozen.FrozenTask.{FrozenTask, out-FrozenTask}
use Rattle.canvas_rewrite.specs.declared.frozen.FrozenLine.{FrozenLine, out-FrozenLine}
use Rattle.canvas_rewrite.specs.declared.frozen.FrozenEnd.{FrozenEnd, out-FrozenEnd}
use Rattle.canvas_envelope.specs.Content.{number_of}
use Rattle.canvas_envelope.specs.Fits.{line_ok, task_ok}
use Rattle.canvas_envelope.specs.steps.Parts.{is_stop}
use Rattle.canvas_effects.specs.Carrying.{is_whole, AllWhole}
use Rattle.canvas_effects.specs.Placing.{last_task}
use Rattle.canvas_effects.specs.steps.Walks.{last_of, successes, skipped, all_skipped, skipped_tasks, tail_seen, begins_with_task}
use Rattle.canvas_effects.proofs.Copied.{line_parts}
use Rattle.canvas_effects.proofs.Entered.{skipped_steps, skipped_group, skipped_chord}
use Rattle.canvas_envelope.proofs.FitLemmas.{end_stands, never_stops}
use Rattle.canvas_envelope.proofs.Seen.{task_seen, line_none, line_some, line_last, end_none, end_some}

pub number_seen : (t : FrozenTask) → number_of (p_task_view t) ≡ (out-FrozenTask t).no
number_seen t = ap number_of (task_seen t)

-- ---- the outcomes of members

pub success_there : (e : ℕ × Outcome) (n : ℤ) → e.1 ≡ Success n → successes (e ∷ []) ≡ n ∷ []
success_there (k, Success m) n is = let same : m ≡ n = cc in ap (λ z. z ∷ []) same
success_there (k, Failure f) n is = absurd cc

pub failure_there : (e : ℕ × Outcome) (f : Fault) → e.1 ≡ Failure f → successes (e ∷ []) ≡ []
failure_there (k, Success m) f is = absurd cc
failure_there (k, Failure g) f is = refl

pub one_success : (e : ℕ × Outcome) (es : List (ℕ × Outcome)) → successes (e ∷ es) ≡ successes (e ∷ []) ++ successes es
one_success (k, Success n) es = refl
one_success (k, Failure f) es = refl

-- ---- lines in turn

pub whole_on : (ls : List FrozenLine) (i : ℕ) (l : FrozenLine) → i < length ls → l ≡ get_or ls i l
    → AllWhole (map p_line_view (drop i ls)) → (is_whole (p_line_view l) ≡ true) × AllWhole (map p_line_view (drop (i + 1) ls))
whole_on ls i l lt is h =
    subst (λ xs. AllWhole (map p_line_view xs)) (item_first ls i l lt is) h

-- ---- skipped

tail_is : (o : Option (Box FrozenEnd Global)) (b : Box FrozenEnd Global) (e : FrozenEnd) → o ≡ Some b → e ≡ b.value → tail_seen o ≡ p_end_view e
tail_is o b e some same = ap tail_seen some ∙ ap p_end_view (sym same)

pub skipped_line : (f : Fault) (l : FrozenLine) (ts : List FrozenTask) → ts ≡ (out-FrozenLine l).tasks
    → skipped f (p_steps (map p_task_view ts) (tail_seen (out-FrozenLine l).tail)) ≡ skipped f (p_line_view l)
skipped_line f l ts same = ap (λ xs. skipped f (p_steps (map p_task_view xs) (tail_seen (out-FrozenLine l).tail))) same ∙ sym (ap (skipped f) (line_parts l))

pub skipped_rest_none : (f : Fault) (ts : List FrozenTask) (o : Option (Box FrozenEnd Global)) → o ≡ None
    → skipped f (p_steps (map p_task_view ts) (tail_seen o)) ≡ skipped_tasks f (map p_task_view ts)
skipped_rest_none f ts o none =
    ap (λ x. skipped f (p_steps (map p_task_view ts) (tail_seen x))) none ∙ skipped_steps f (map p_task_view ts) p_stop
    ∙ append-nil (skipped_tasks f (map p_task_view ts))

pub skipped_rest_some : (f : Fault) (ts : List FrozenTask) (o : Option (Box FrozenEnd Global)) (b : Box FrozenEnd Global) → o ≡ Some b → (e : FrozenEnd)
    → e ≡ b.value
    → skipped f (p_steps (map p_task_view ts) (tail_seen o)) ≡ skipped_tasks f (map p_task_view ts) ++ skipped f (p_end_view e)
skipped_rest_some f ts o b some e there =
    ap (λ x. skipped f (p_steps (map p_task_view ts) x)) (tail_is o b e some there) ∙ skipped_steps f (map p_task_view ts) (p_end_view e)

pub skipped_end_none : (f : Fault) (t : FrozenEnd) → (out-FrozenEnd t).body ≡ None → (ls : List FrozenLine) → ls ≡ (out-FrozenEnd t).members
    → skipped f (p_end_view t) ≡ all_skipped f (map p_line_view ls)
skipped_end_none f t none ls same =
    ap (skipped f) (end_none t none) ∙ skipped_group f (out-FrozenEnd t).group (map p_line_view (out-FrozenEnd t).members)
    ∙ ap (λ xs. all_skipped f (map p_line_view xs)) (sym same)

pub skipped_end_some : (f : Fault) (t : FrozenEnd) (b : FrozenLine) → (out-FrozenEnd t).body ≡ Some b → (ls : List FrozenLine) → ls ≡ (out-FrozenEnd t).members
    → skipped f (p_end_view t) ≡ all_skipped f (map p_line_view ls) ++ skipped f (p_line_view b)
skipped_end_some f t b some ls same =
    ap (skipped f) (end_some t b some) ∙ skipped_chord f (out-FrozenEnd t).group (map p_line_view (out-FrozenEnd t).members) (p_line_view b)
    ∙ ap (λ xs. all_skipped f (map p_line_view xs) ++ skipped f (p_line_view b)) (sym same)

-- ---- the last task

last_steps : (ts : List PTask) (l : PLine) → is_stop l ≡ false → last_of (p_steps ts l) ≡ last_of l
last_steps [] l h = refl
last_steps (t ∷ ts) l h = step_last t (p_steps ts l) (never_stops ts l h) ∙ last_steps ts l h where
  step_last : (t : PTask) (l : PLine) → is_stop l ≡ false → last_of (p_step t l) ≡ last_of l
  step_last t p_stop h = absurd cc
  step_last t (p_step u l) h = refl
  step_last t (p_group_end g ms) h = refl
  step_last t (p_chord_end g ms b) h = refl

pub last_some : (l : FrozenLine) (b : Box FrozenEnd Global) → (out-FrozenLine l).tail ≡ Some b → (e : FrozenEnd) → e ≡ b.value
    → last_of (p_end_view e) ≡ last_of (p_line_view l)
last_some l b some e there =
    ap (λ x. last_of (p_end_view x)) there
    ∙ sym (ap last_of (line_some l b some) ∙ last_steps (map p_task_view (out-FrozenLine l).tasks) (p_end_view b.value) (end_stands b.value))

pub last_there : (l : FrozenLine) → (out-FrozenLine l).tail ≡ None → (all others : List FrozenTask) (t : FrozenTask) → all ≡ (out-FrozenLine l).tasks
    → all ≡ others ++ t ∷ []
    → Some (p_task_view t) ≡ last_of (p_line_view l)
last_there l none all others t same split =
    sym (ap last_of (line_last l none others t (sym same ∙ split)) ∙ last_steps (map p_task_view others) (p_step (p_task_view t) p_stop) refl)

-- its number and its place
pub last_number : (k : ℕ) (l : PLine) (t : PTask) → last_of l ≡ Some t → last_task k l ≡ number_of t
last_number k p_stop t h = absurd cc
last_number k (p_step u p_stop) t h = let same : u ≡ t = cc in ap number_of same
last_number k (p_step u (p_step v l)) t h = last_number (number_of u) (p_step v l) t h
last_number k (p_step u (p_group_end g ms)) t h = absurd cc
last_number k (p_step u (p_chord_end g ms b)) t h = last_number (number_of u) (p_chord_end g ms b) t h
last_number k (p_group_end g ms) t h = absurd cc
last_number k (p_chord_end g ms b) t h = last_number 0 b t h

-- a member ends in a task
pub never_last : (last : Bool) (l : PLine) → line_ok last l ≡ true → in_group (strip l) ≡ false → last_of l ≡ None → ⊥
never_last last p_stop ok grouped h = cc
never_last last (p_step t p_stop) ok grouped h = cc
never_last last (p_step t (p_step u l)) ok grouped h = never_last last (p_step u l) (both (task_ok false t) (line_ok last (p_step u l)) ok).1 grouped h
never_last last (p_step t (p_group_end g ms)) ok grouped h = cc
never_last last (p_step t (p_chord_end g ms b)) ok grouped h =
    never_last last (p_chord_end g ms b) (both (task_ok false t) (line_ok last (p_chord_end g ms b)) ok).1 grouped h
never_last last (p_group_end g ms) ok grouped h = cc
never_last last (p_chord_end g ms b) ok grouped h = never_last last b (both _ (line_ok last b) ok).1 grouped h

-- ---- the first task of a line

end_begins : (t : FrozenEnd) (o : Option FrozenLine) → (out-FrozenEnd t).body ≡ o → begins_with_task (p_end_view t) ≡ false
end_begins t None e = ap begins_with_task (end_none t e)
end_begins t (Some b) e = ap begins_with_task (end_some t b e)

steps_begin : (ts : List FrozenTask) (l : PLine) → begins_with_task l ≡ false → not (length ts == 0) ≡ begins_with_task (p_steps (map p_task_view ts) l)
steps_begin [] l h = sym h
steps_begin (t ∷ ts) l h = ap not (ne_eqb (suc (length ts)) 0 (λ e. absurd cc))

begins_by : (l : FrozenLine) (o : Option (Box FrozenEnd Global)) → (out-FrozenLine l).tail ≡ o
    → not (length (out-FrozenLine l).tasks == 0) ≡ begins_with_task (p_line_view l)
begins_by l None e = steps_begin (out-FrozenLine l).tasks p_stop refl ∙ sym (ap begins_with_task (line_none l e))
begins_by l (Some b) e =
    steps_begin (out-FrozenLine l).tasks (p_end_view b.value) (end_begins b.value (out-FrozenEnd b.value).body refl)
    ∙ sym (ap begins_with_task (line_some l b e))

pub begins_seen : (l : FrozenLine) → not (length (out-FrozenLine l).tasks == 0) ≡ begins_with_task (p_line_view l)
begins_seen l = begins_by l (out-FrozenLine l).tail refl

-- what is left when it is taken
pub first_taken : (l : FrozenLine) (ts others : List FrozenTask) (t : FrozenTask) → ts ≡ (out-FrozenLine l).tasks → (length ts == 0) ≡ false
    → t ≡ get_or ts 0 t → others ≡ drop 1 ts
    → p_line_view l ≡ p_step (p_task_view t) (p_steps (map p_task_view others) (tail_seen (out-FrozenLine l).tail))
first_taken l [] others t same some first left = absurd (true≢false some)
first_taken l (u ∷ us) others t same some first left =
    line_parts l ∙ ap (λ xs. p_steps (map p_task_view xs) (tail_seen (out-FrozenLine l).tail)) (sym same)
    ∙ ap₂ (λ y ys. p_step (p_task_view y) (p_steps (map p_task_view ys) (tail_seen (out-FrozenLine l).tail))) (sym first) (sym left)

pub last_taken : (l : FrozenLine) (ts others : List FrozenTask) (t : FrozenTask) → ts ≡ (out-FrozenLine l).tasks → (length ts == 0) ≡ false
    → t ≡ get_or ts 0 t → others ≡ drop 1 ts → (length others == 0) ≡ true → (out-FrozenLine l).tail ≡ None
    → p_line_view l ≡ p_step (p_task_view t) p_stop
last_taken l ts [] t same some first left few none = first_taken l ts [] t same some first left ∙ ap (λ z. p_step (p_task_view t) (tail_seen z)) none
last_taken l ts (u ∷ us) t same some first left few none = absurd (true≢false (sym few ∙ ne_eqb (suc (length us)) 0 (λ e. absurd cc)))

pub none_begins : (l : FrozenLine) (ts : List FrozenTask) → ts ≡ (out-FrozenLine l).tasks → (length ts == 0) ≡ true → begins_with_task (p_line_view l) ≡ false
none_begins l ts same few = sym (begins_seen l) ∙ ap (λ xs. not (length xs == 0)) (sym same) ∙ ap not few
