-- The reach that is reckoned without the line is that of the line, as far as the limit.
use Rattle.std.proofs.Common.{◌≡◌, ℕ, ◌+◌, ◌≤◌, ◌||◌, false, max, arith, refl, sym, ap, ◌∙◌}
use Rattle.std.specs.Prelude.{nat_lt}
use Rattle.std.proofs.lemmas.Bool.Decides.{nat_tests}
use Rattle.canvas_values.specs.declared.reach.LineReach.{LineReach}
use Rattle.canvas_values.specs.declared.reach.LineReach.TheVariants.{Empty, One, More}
use Rattle.canvas_semantics.specs.Tree.{Task, task, Tasks, no_tasks, and_task, Tree, one, chain, group, chord, Trees, no_trees, and_tree}
use Rattle.canvas_semantics.specs.NormalLine.{onto, all_onto, normal_all, group_onto, normal}
use Rattle.canvas_semantics.specs.Reach.{task_reach, tasks_reach, reach, line_reach, members_reach}
use Rattle.canvas_values.specs.steps.LineReach.{capped, above, sig_reach, sigs_reach, reach_of_line, chord_reach, group_reach, task_onto, onto_reach, all_onto_reach, greatest}

capped_above : (a r : ℕ) → a ≡ capped r → above a ≡ capped (1 + r)
capped_above a r h = omega (arith, h)

capped_max : (a b x y : ℕ) → a ≡ capped x → b ≡ capped y → max a b ≡ capped (max x y)
capped_max a b x y h i = omega (arith, h, i)

-- ---- tasks

mutual
  sig_capped : (c : ℕ) (t : Task) → sig_reach (capped c) t ≡ capped (task_reach c t)
  sig_capped c (task k call ls es) =
      let l = sigs_capped ls in
      let e = sigs_capped es in
      omega (arith, l, e)

  sigs_capped : (ts : Tasks) → sigs_reach ts ≡ capped (tasks_reach ts)
  sigs_capped no_tasks = refl
  sigs_capped (and_task t ts) = capped_max _ _ _ _ (sig_capped 0 t) (sigs_capped ts)

-- ---- lines

-- the elements of a line, known by their reaches
abbrev shape : ℕ → Trees → LineReach
shape c no_trees = Empty
shape c (and_tree t no_trees) = One (capped (reach c t))
shape c (and_tree t (and_tree u us)) = More (capped (line_reach c (and_tree t (and_tree u us))))

whole_shape : (c : ℕ) (ts : Trees) → reach_of_line (shape c ts) ≡ capped (reach c (chain ts))
whole_shape c no_trees = refl
whole_shape c (and_tree t no_trees) = refl
whole_shape c (and_tree t (and_tree u us)) = capped_above _ _ refl

-- a task in front of a line
in_front : (c : ℕ) (t : Task) (ts : Trees) → task_onto t (shape c ts) (capped c) ≡ shape c (and_tree (one t) ts)
in_front c t no_trees = ap One (sig_capped c t)
in_front c t (and_tree u no_trees) = ap More (capped_max _ _ _ _ (sig_capped 0 t) refl)
in_front c t (and_tree u (and_tree v vs)) = ap More (capped_max _ _ _ _ (sig_capped 0 t) refl)

-- a chord whose body is a line
of_chord : (c g : ℕ) (h : Trees) (body : Trees) (f : ℕ → ℕ) → ((b : ℕ) → f (capped b) ≡ capped (members_reach b h))
    → (b : ℕ) → b ≡ capped (reach c (chain body)) → chord_reach f b ≡ shape c (and_tree (chord g h (chain body)) no_trees)
of_chord c g h body f e b is =
    ap One (capped_above _ _ (capped_max _ _ _ _ is (ap f is ∙ e (reach c (chain body)))))

of_group : (c g : ℕ) (ms after : Trees) (f : ℕ → ℕ) → ((b : ℕ) → f (capped b) ≡ capped (members_reach b ms))
    → group_reach f (shape c after) ≡ shape c (group_onto g ms after)
of_group c g ms no_trees f e = ap One (capped_above _ _ (e 0))
of_group c g ms (and_tree t no_trees) f e = of_chord c g ms (and_tree t no_trees) f e _ refl
of_group c g ms (and_tree t (and_tree u us)) f e = of_chord c g ms (and_tree t (and_tree u us)) f e _ (capped_above _ _ refl)

mutual
  onto_shape : (t : Tree) (c : ℕ) (after : Trees) → onto_reach t (shape c after) (capped c) ≡ shape c (onto t after)
  onto_shape (one t) c after = in_front c t after
  onto_shape (chain ts) c after = all_shape ts c after
  onto_shape (group g ms) c after = of_group c g (normal_all ms) after (greatest ms) (λ b. members_capped ms b)
  onto_shape (chord g h b) c after =
      of_chord c g (normal_all h) (onto b after) (greatest h) (λ x. members_capped h x) _ (ap reach_of_line (onto_shape b c after)
      ∙ whole_shape c (onto b after))

  all_shape : (ts : Trees) (c : ℕ) (after : Trees) → all_onto_reach ts (shape c after) (capped c) ≡ shape c (all_onto ts after)
  all_shape no_trees c after = refl
  all_shape (and_tree t ts) c after =
      ap (λ s. onto_reach t s (capped c)) (all_shape ts c after) ∙ onto_shape t c (all_onto ts after)

  members_capped : (ms : Trees) (c : ℕ) → greatest ms (capped c) ≡ capped (members_reach c (normal_all ms))
  members_capped no_trees c = refl
  members_capped (and_tree t ts) c =
      capped_max _ _ _ _ (ap reach_of_line (onto_shape t c no_trees) ∙ whole_shape c (onto t no_trees)) (members_capped ts c)

-- the reach of a canvas's normal line, as far as the limit
pub normal_reach : (t : Tree) → reach_of_line (onto_reach t Empty 0) ≡ capped (reach 0 (normal t))
normal_reach t = ap reach_of_line (onto_shape t 0 no_trees) ∙ whole_shape 0 (onto t no_trees)

-- the test past the limit sees as much of either
pub past_limit : (w r : ℕ) → w ≡ capped r → nat_lt 32 w ≡ nat_lt 32 r
past_limit w r h = grind (arith, nat_tests)

not_past : (n : ℕ) → n ≤ 8 → nat_lt 8 n ≡ false
not_past n h = grind (arith, nat_tests)

-- a canvas that doesn't nest too deep is too deep only by its reach
pub deep_by_reach : (n w r : ℕ) → n ≤ 8 → w ≡ capped r → nat_lt 32 w ≡ (nat_lt 8 n || nat_lt 32 r)
deep_by_reach n w r h is = past_limit w r is ∙ ap (λ b. b || nat_lt 32 r) (sym (not_past n h))
