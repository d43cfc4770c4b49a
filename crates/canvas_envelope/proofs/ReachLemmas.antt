-- Every reach past the limit is capped to the same.
use Rattle.std.proofs.Common.{◌≡◌, ◌∙◌, ℕ, ◌+◌, max, arith, List, [], ◌∷◌, ◌++◌, map, Option, Some, None, Box, Global, false, refl, sym, ap, subst}
use Rattle.canvas_values.specs.steps.LineReach.{capped, above}
use Rattle.canvas_semantics.specs.PlacedLine.{PTask, p_task, PLine, p_stop, p_step, p_group_end, p_chord_end, PLines, no_p_lines, and_p_line}
use Rattle.canvas_rewrite.specs.FrozenView.{p_tasks_of, p_steps}
use Rattle.canvas_rewrite.specs.FrozenView.{p_lines_of, p_task_view, p_line_view, p_end_view}
use Rattle.canvas_rewrite.specs.declared.frozen.FrozenTask.{FrozenTask, out-FrozenTask}
use Rattle.canvas_rewrite.specs.declared.frozen.FrozenLine.{FrozenLine, out-FrozenLine}
use Rattle.canvas_rewrite.specs.declared.frozen.FrozenEnd.{FrozenEnd, out-FrozenEnd}
use Rattle.canvas_envelope.proofs.Seen.{task_seen, line_some, line_last, end_none, end_some}
use Rattle.canvas_envelope.specs.MessageView.{place_seen}
use Rattle.canvas_envelope.specs.Fits.{task_reach, tasks_reach, place_reach, line_reach, greatest_reach, members_reach}
use Rattle.canvas_envelope.specs.steps.Parts.{is_stop}
use Rattle.canvas_envelope.proofs.FitLemmas.{never_stops}

step_greatest : (c : ℕ) (t : PTask) (l : PLine) → is_stop l ≡ false → greatest_reach c (p_step t l) ≡ max (task_reach 0 t) (greatest_reach c l)
step_greatest c t p_stop h = absurd cc
step_greatest c t (p_step u l) h = refl
step_greatest c t (p_group_end g ms) h = refl
step_greatest c t (p_chord_end g ms b) h = refl

-- ---- a line by its last element

-- a line of one element has the reach of this
abbrev IsOne : ℕ → PLine → Type 0
IsOne c e = (is_stop e ≡ false) × (greatest_reach c e ≡ line_reach c e)

pub one_task : (c : ℕ) (t : PTask) → IsOne c (p_step t p_stop)
one_task c t = (refl, refl)

pub one_group : (c g : ℕ) (ms : PLines) → IsOne c (p_group_end g ms)
one_group c g ms = (refl, refl)

pub one_chord : (c g : ℕ) (ms : PLines) (b : PLine) → IsOne c (p_chord_end g ms b)
one_chord c g ms b = (refl, refl)

longer : (a b r g : ℕ) → g ≡ max b r → max a g ≡ max (max a b) r
longer a b r g h = omega (arith, h)

pub steps_greatest : (c : ℕ) (ts : List PTask) (e : PLine) → IsOne c e → greatest_reach c (p_steps ts e) ≡ max (tasks_reach (p_tasks_of ts)) (line_reach c e)
steps_greatest c [] e h = omega (arith, h.1)
steps_greatest c (t ∷ ts) e h = step_greatest c t (p_steps ts e) (never_stops ts e h.0) ∙ longer _ _ _ _ (steps_greatest c ts e h)

-- ---- past the limit

pub capped_more : (a b : ℕ) → capped a ≡ capped b → capped (1 + a) ≡ capped (1 + b)
capped_more a b h = omega (arith, h)

capped_max : (a b x y : ℕ) → capped a ≡ capped x → capped b ≡ capped y → capped (max a b) ≡ capped (max x y)
capped_max a b x y h i = omega (arith, h, i)

pub twice : (a : ℕ) → capped (capped a) ≡ capped a
twice a = omega arith

task_capped : (c : ℕ) (t : PTask) → capped (task_reach (capped c) t) ≡ capped (task_reach c t)
task_capped c (p_task k call ls es p) = omega arith

-- members whose body's reach is seen up to the limit
through : (f : ℕ → ℕ) → ((c : ℕ) → capped (f (capped c)) ≡ capped (f c)) → (a b : ℕ) → capped a ≡ capped b → capped (1 + max a (f a)) ≡ capped (1 + max b (f b))
through f e a b h =
    let members : capped (f a) ≡ capped (f b) = sym (e a) ∙ ap (λ x. capped (f x)) h ∙ e b in
    capped_more _ _ (capped_max _ _ _ _ h members)

mutual
  line_capped : (c : ℕ) (l : PLine) → capped (line_reach (capped c) l) ≡ capped (line_reach c l)
  line_capped c p_stop = refl
  line_capped c (p_step t p_stop) = task_capped c t
  line_capped c (p_step t (p_step u l)) = capped_more _ _ (capped_max (task_reach 0 t) _ _ _ refl (greatest_capped c (p_step u l)))
  line_capped c (p_step t (p_group_end g ms)) = refl
  line_capped c (p_step t (p_chord_end g ms b)) = capped_more _ _ (capped_max (task_reach 0 t) _ _ _ refl (greatest_capped c (p_chord_end g ms b)))
  line_capped c (p_group_end g ms) = refl
  line_capped c (p_chord_end g ms b) = through (λ x. members_reach x ms) (λ x. members_capped x ms) _ _ (line_capped c b)

  greatest_capped : (c : ℕ) (l : PLine) → capped (greatest_reach (capped c) l) ≡ capped (greatest_reach c l)
  greatest_capped c p_stop = refl
  greatest_capped c (p_step t p_stop) = task_capped c t
  greatest_capped c (p_step t (p_step u l)) = capped_max (task_reach 0 t) _ _ _ refl (greatest_capped c (p_step u l))
  greatest_capped c (p_step t (p_group_end g ms)) = refl
  greatest_capped c (p_step t (p_chord_end g ms b)) = capped_max (task_reach 0 t) _ _ _ refl (greatest_capped c (p_chord_end g ms b))
  greatest_capped c (p_group_end g ms) = refl
  greatest_capped c (p_chord_end g ms b) = through (λ x. members_reach x ms) (λ x. members_capped x ms) _ _ (line_capped c b)

  pub members_capped : (c : ℕ) (ms : PLines) → capped (members_reach (capped c) ms) ≡ capped (members_reach c ms)
  members_capped c no_p_lines = refl
  members_capped c (and_p_line m ms) = capped_max _ _ _ _ (line_capped c m) (members_capped c ms)

-- ---- what the code has reckoned

pub of_task : (t : FrozenTask) (c l e p : ℕ) → l ≡ capped (tasks_reach (p_tasks_of (map p_task_view (out-FrozenTask t).links)))
    → e ≡ capped (tasks_reach (p_tasks_of (map p_task_view (out-FrozenTask t).errbacks))) → p ≡ capped (place_reach (place_seen (out-FrozenTask t).place))
    → above (max (max l e) (max p c)) ≡ capped (task_reach c (p_task_view t))
of_task t c l e p hl he hp = omega (arith, hl, he, hp) ∙ ap (λ x. capped (task_reach c x)) (sym (task_seen t))

chord_reached : (r m following members : ℕ) → following ≡ capped r → members ≡ capped m → above (max members following) ≡ capped (1 + max r m)
chord_reached r m following members h i = omega (arith, h, i)

pub of_chord : (t : FrozenEnd) (b : FrozenLine) → (out-FrozenEnd t).body ≡ Some b → (c following members : ℕ) (ls : List FrozenLine)
    → ls ≡ (out-FrozenEnd t).members
    → following ≡ capped (line_reach c (p_line_view b)) → members ≡ capped (members_reach following (p_lines_of (map p_line_view ls)))
    → above (max members following) ≡ capped (line_reach c (p_end_view t))
of_chord t b e c following members ls same hf hm =
    let r : ℕ = line_reach c (p_line_view b) in
    let ms : PLines = p_lines_of (map p_line_view (out-FrozenEnd t).members) in
    let seen : members ≡ capped (members_reach r ms) =
    hm ∙ ap (λ x. capped (members_reach following (p_lines_of (map p_line_view x)))) same ∙ ap (λ x. capped (members_reach x ms)) hf ∙ members_capped r ms in
    chord_reached r (members_reach r ms) following members hf seen ∙ ap (λ l. capped (line_reach c l)) (sym (end_some t b e))

pub of_group : (t : FrozenEnd) → (out-FrozenEnd t).body ≡ None → (c members : ℕ) (ls : List FrozenLine) → ls ≡ (out-FrozenEnd t).members
    → members ≡ capped (members_reach 0 (p_lines_of (map p_line_view ls))) → above members ≡ capped (line_reach c (p_end_view t))
of_group t e c members ls same hm =
    let ms : PLines = p_lines_of (map p_line_view (out-FrozenEnd t).members) in
    let seen : members ≡ capped (members_reach 0 ms) = hm ∙ ap (λ x. capped (members_reach 0 (p_lines_of (map p_line_view x)))) same in
    let more : above members ≡ capped (1 + members_reach 0 ms) = omega (arith, seen) in
    more ∙ ap (λ l. capped (line_reach c l)) (sym (end_none t e))

end_by : (c : ℕ) (t : FrozenEnd) (o : Option FrozenLine) → (out-FrozenEnd t).body ≡ o → IsOne c (p_end_view t)
end_by c t None e = subst (IsOne c) (sym (end_none t e)) (one_group c (out-FrozenEnd t).group (p_lines_of (map p_line_view (out-FrozenEnd t).members)))
end_by c t (Some b) e = subst (IsOne c) (sym (end_some t b e))
    (one_chord c (out-FrozenEnd t).group (p_lines_of (map p_line_view (out-FrozenEnd t).members)) (p_line_view b))

two : (a b x y : ℕ) → a ≡ capped x → b ≡ capped y → max a b ≡ capped (max x y)
two a b x y h i = omega (arith, h, i)

pub of_some : (l : FrozenLine) (b : Box FrozenEnd Global) → (out-FrozenLine l).tail ≡ Some b → (c front last : ℕ) (ts : List FrozenTask) (t : FrozenEnd)
    → ts ≡ (out-FrozenLine l).tasks → t ≡ b.value
    → front ≡ capped (tasks_reach (p_tasks_of (map p_task_view ts))) → last ≡ capped (line_reach c (p_end_view t))
    → max front last ≡ capped (greatest_reach c (p_line_view l))
of_some l b e c front last ts t same there hf hl =
    two front last _ _ (hf ∙ ap (λ x. capped (tasks_reach (p_tasks_of (map p_task_view x)))) same) (hl ∙ ap (λ x. capped (line_reach c (p_end_view x))) there)
    ∙ ap capped (sym (ap (greatest_reach c) (line_some l b e) ∙ steps_greatest c (map p_task_view (out-FrozenLine l).tasks) (p_end_view b.value)
    (end_by c b.value (out-FrozenEnd b.value).body refl)))

pub of_last : (l : FrozenLine) → (out-FrozenLine l).tail ≡ None → (c front last : ℕ) (ts : List FrozenTask) (t : FrozenTask)
    → (out-FrozenLine l).tasks ≡ ts ++ t ∷ []
    → front ≡ capped (tasks_reach (p_tasks_of (map p_task_view ts))) → last ≡ capped (task_reach c (p_task_view t))
    → max front last ≡ capped (greatest_reach c (p_line_view l))
of_last l e c front last ts t same hf hl =
    two front last _ _ hf hl
    ∙ ap capped (sym (ap (greatest_reach c) (line_last l e ts t same)
    ∙ steps_greatest c (map p_task_view ts) (p_step (p_task_view t) p_stop) (one_task c (p_task_view t))))
