-- Whether a line has more than one element, by its tasks and its end.
use Rattle.std.proofs.Common.{◌≡◌, ◌∙◌, ◌==◌, true, false, arith, List, [], ◌∷◌, map, length, Some, None, Box, Global, refl, sym, ap}
use Rattle.std.specs.Prelude.{nat_lt}
use Rattle.std.proofs.lemmas.Bool.Decides.{nat_tests}
use Rattle.canvas_semantics.specs.PlacedLine.{PTask, PLine, p_stop, p_step, p_group_end, p_chord_end}
use Rattle.canvas_rewrite.specs.FrozenView.{p_steps, p_task_view, p_line_view, p_end_view}
use Rattle.canvas_rewrite.specs.declared.frozen.FrozenTask.{FrozenTask}
use Rattle.canvas_rewrite.specs.declared.frozen.FrozenLine.{FrozenLine, out-FrozenLine}
use Rattle.canvas_rewrite.specs.declared.frozen.FrozenEnd.{FrozenEnd, out-FrozenEnd}
use Rattle.canvas_envelope.specs.steps.Parts.{is_stop}
use Rattle.canvas_envelope.proofs.FitLemmas.{never_stops, end_stands}
use Rattle.canvas_envelope.proofs.Seen.{line_none, line_some, end_none, end_some}
use Rattle.canvas_celery.specs.steps.Elements.{has_more}

step_more : (t : PTask) (l : PLine) → is_stop l ≡ false → has_more (p_step t l) ≡ true
step_more t p_stop h = absurd cc
step_more t (p_step u l) h = refl
step_more t (p_group_end g ms) h = refl
step_more t (p_chord_end g ms b) h = refl

longer : (ts : List FrozenTask) (t : FrozenEnd) → (length ts == 0) ≡ false → has_more (p_steps (map p_task_view ts) (p_end_view t)) ≡ true
longer [] t h = absurd cc
longer (u ∷ us) t h = step_more (p_task_view u) (p_steps (map p_task_view us) (p_end_view t)) (never_stops (map p_task_view us) (p_end_view t) (end_stands t))

alone : (ts : List FrozenTask) (t : FrozenEnd) → (length ts == 0) ≡ true → has_more (p_steps (map p_task_view ts) (p_end_view t)) ≡ has_more (p_end_view t)
alone [] t h = refl
alone (u ∷ us) t h = absurd (grind (arith, nat_tests))

counted : (ts : List FrozenTask) → has_more (p_steps (map p_task_view ts) p_stop) ≡ nat_lt 1 (length ts)
counted [] = refl
counted (t ∷ []) = refl
counted (t ∷ u ∷ us) = grind (arith, nat_tests)

module _ (l : FrozenLine) (ts : List FrozenTask) (same : ts ≡ (out-FrozenLine l).tasks) where
  pub more_tasks : (out-FrozenLine l).tail ≡ None → nat_lt 1 (length ts) ≡ has_more (p_line_view l)
  more_tasks e = sym (ap has_more (line_none l e ∙ ap (λ xs. p_steps (map p_task_view xs) p_stop) (sym same)) ∙ counted ts)

  module _ (b : Box FrozenEnd Global) (e : (out-FrozenLine l).tail ≡ Some b) where
    seen : p_line_view l ≡ p_steps (map p_task_view ts) (p_end_view b.value)
    seen = line_some l b e ∙ ap (λ xs. p_steps (map p_task_view xs) (p_end_view b.value)) (sym same)

    pub more_before : (length ts == 0) ≡ false → true ≡ has_more (p_line_view l)
    more_before h = sym (ap has_more seen ∙ longer ts b.value h)

    pub more_end : (t : FrozenEnd) → t ≡ b.value → (length ts == 0) ≡ true → has_more (p_end_view t) ≡ has_more (p_line_view l)
    more_end t is h = ap (λ x. has_more (p_end_view x)) is ∙ sym (ap has_more seen ∙ alone ts b.value h)

pub more_chord : (t : FrozenEnd) (b : FrozenLine) → (out-FrozenEnd t).body ≡ Some b → has_more (p_line_view b) ≡ has_more (p_end_view t)
more_chord t b e = sym (ap has_more (end_some t b e))

pub more_group : (t : FrozenEnd) → (out-FrozenEnd t).body ≡ None → false ≡ has_more (p_end_view t)
more_group t e = sym (ap has_more (end_none t e))
