-- A message apart from the rest of its line.
use Rattle.std.proofs.Common.{◌≡◌, ◌∙◌, ℕ, ◌≤◌, arith, Bool, true, false, List, [], ◌∷◌, length, Option, Some, None, Box, Global, refl, ap}
use Rattle.std.specs.Prelude.{◌&&◌, ◌==◌, not, nat_le, is_some}
use Rattle.std.proofs.lemmas.Bool.{leb-true, le-leb}
use Rattle.canvas_values.proofs.ComposedLemmas.{both}
use Rattle.canvas_semantics.specs.PlacedLine.{PTask, p_task, PPlace, p_nowhere, p_group, p_chord, PLine, p_stop, p_step, p_group_end, p_chord_end}
use Rattle.canvas_rewrite.specs.declared.frozen.FrozenTask.{FrozenTask}
use Rattle.canvas_rewrite.specs.declared.frozen.FrozenLine.{FrozenLine, out-FrozenLine, roll-FrozenLine}
use Rattle.canvas_rewrite.specs.declared.frozen.FrozenEnd.{FrozenEnd}
use Rattle.canvas_rewrite.specs.FrozenView.{p_line_view}
use Rattle.canvas_rewrite.proofs.FrozenViews.{made_line, made_longer}
use Rattle.canvas_envelope.specs.Content.{Content, line, call_of}
use Rattle.canvas_envelope.specs.Fits.{is_task_number, call_ok, parent_ok, task_ok, tasks_ok, place_ok, line_ok, task_reach, line_reach, fits}
use Rattle.canvas_envelope.specs.steps.Lines.{line_by, followed_by}
use Rattle.canvas_envelope.specs.steps.Parts.{is_stop}
use Rattle.canvas_envelope.proofs.FitLemmas.{both as and_true, end_stands, never_zero}
use Rattle.canvas_envelope.proofs.Seen.{line_none, line_some}

-- ---- a line by its parts

pub line_made : (ts : List FrozenTask) (o : Option (Box FrozenEnd Global)) → p_line_view (roll-FrozenLine (record { tasks = ts; tail = o })) ≡ line_by ts o
line_made ts None = made_line ts
line_made ts (Some b) = made_longer ts b

seen_by : (l : FrozenLine) (o : Option (Box FrozenEnd Global)) → (out-FrozenLine l).tail ≡ o → p_line_view l ≡ line_by (out-FrozenLine l).tasks o
seen_by l None e = line_none l e
seen_by l (Some b) e = line_some l b e

pub line_seen : (l : FrozenLine) → p_line_view l ≡ line_by (out-FrozenLine l).tasks (out-FrozenLine l).tail
line_seen l = seen_by l (out-FrozenLine l).tail refl

-- whether it has an element
pub first_there : (n : ℕ) (ts : List FrozenTask) (o : Option (Box FrozenEnd Global)) → n ≡ length ts → (n == 0) ≡ false → is_stop (line_by ts o) ≡ false
first_there n [] o same many = let none : (n == 0) ≡ true = ap (λ k. k == 0) same in absurd cc
first_there n (t ∷ ts) o same many = refl

pub end_there : (n : ℕ) (ts : List FrozenTask) (o : Option (Box FrozenEnd Global)) → n ≡ length ts → (n == 0) ≡ true
    → not (is_stop (line_by ts o)) ≡ is_some o
end_there n [] None same none = refl
end_there n [] (Some b) same none = ap not (end_stands b.value)
end_there n (t ∷ ts) o same none = let many : (n == 0) ≡ false = ap (λ k. k == 0) same ∙ never_zero (length ts) in absurd cc

-- ---- a message fits without what follows it

nowhere : (p : PPlace) → place_ok false p ≡ true → place_ok true p ≡ true
nowhere p_nowhere h = refl
nowhere (p_group g) h = absurd cc
nowhere (p_chord g size body) h = absurd cc

task_last : (t : PTask) → task_ok false t ≡ true → task_ok true t ≡ true
task_last (p_task k call links errbacks place) ok =
    let front : Bool = is_task_number k && call_ok call && tasks_ok links && tasks_ok errbacks in
    let p = both front (place_ok false place) ok in
    and_true front (place_ok true place) p.0 (nowhere place p.1)

own_last : (t : PTask) (l : PLine) → line_ok true (p_step t l) ≡ true → line_ok true (p_step t p_stop) ≡ true
own_last t p_stop ok = ok
own_last t (p_step u l) ok = task_last t (both (task_ok false t) (line_ok true (p_step u l)) ok).0
own_last t (p_group_end g ms) ok = task_last t (both (task_ok false t) (line_ok true (p_group_end g ms)) ok).0
own_last t (p_chord_end g ms b) ok = task_last t (both (task_ok false t) (line_ok true (p_chord_end g ms b)) ok).0

own_reach : (t : PTask) (l : PLine) → task_reach 0 t ≤ line_reach 0 (p_step t l)
own_reach t p_stop = omega arith
own_reach t (p_step u l) = omega arith
own_reach t (p_group_end g ms) = omega arith
own_reach t (p_chord_end g ms b) = omega arith

pub alone_fits : (c : Content) → fits c ≡ true → fits (followed_by c p_stop) ≡ true
alone_fits c ok =
    let front : Bool = parent_ok c.parent && not (call_of c.own).immutable in
    let p = both (front && line_ok true (line c)) (nat_le (line_reach 0 (line c)) 32) ok in
    let q = both front (line_ok true (line c)) p.0 in
    let alone : PLine = p_step c.own p_stop in
    and_true (front && line_ok true alone) (nat_le (line_reach 0 alone) 32) (and_true front (line_ok true alone) q.0 (own_last c.own c.rest q.1))
    (le-leb (line_reach 0 alone) 32 (omega (arith, leb-true (line_reach 0 (line c)) 32 p.1, own_reach c.own c.rest)))
