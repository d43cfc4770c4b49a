-- Numbering changes no count, gives the tree's numbers, and places are stripped off.
use Rattle.std.proofs.Common.{◌≡◌, ◌∙◌, ℕ, ◌+◌, refl, sym, ap, arith}
use Rattle.canvas_semantics.specs.Tree.{Task, task, Tasks, no_tasks, and_task, one, chain, group, chord, Trees, no_trees, and_tree, count_task, count_tasks, number_task, number_tasks, count_all, count_all_groups, number_all, numbered}
use Rattle.canvas_semantics.specs.Line.{Line, stop, step, group_end, chord_end, Lines, no_lines, and_line, count_line, count_lines, line_groups, lines_groups, number_line, number_lines, elements_of, members_of, tree_of}
use Rattle.canvas_semantics.specs.PlacedLine.{strip, strip_all, strip_task, strip_tasks, bare, all_bare, bare_task, bare_tasks}

mutual
  strip_bare_task : (t : Task) → strip_task (bare_task t) ≡ t
  strip_bare_task (task k call ls es) = ap (λ x. task k call x (strip_tasks (bare_tasks es))) (strip_bare_tasks ls) ∙ ap (task k call ls) (strip_bare_tasks es)

  strip_bare_tasks : (ts : Tasks) → strip_tasks (bare_tasks ts) ≡ ts
  strip_bare_tasks no_tasks = refl
  strip_bare_tasks (and_task t ts) = ap (λ x. and_task x (strip_tasks (bare_tasks ts))) (strip_bare_task t) ∙ ap (and_task t) (strip_bare_tasks ts)

mutual
  pub strip_bare : (l : Line) → strip (bare l) ≡ l
  strip_bare stop = refl
  strip_bare (step t l) = ap (λ x. step x (strip (bare l))) (strip_bare_task t) ∙ ap (step t) (strip_bare l)
  strip_bare (group_end g ms) = ap (group_end g) (strip_all_bare ms)
  strip_bare (chord_end g ms b) = ap (λ x. chord_end g x (strip (bare b))) (strip_all_bare ms) ∙ ap (chord_end g ms) (strip_bare b)

  strip_all_bare : (ls : Lines) → strip_all (all_bare ls) ≡ ls
  strip_all_bare no_lines = refl
  strip_all_bare (and_line m ms) = ap (λ x. and_line x (strip_all (all_bare ms))) (strip_bare m) ∙ ap (and_line m) (strip_all_bare ms)

mutual
  pub count_numbered_task : (t : Task) (k : ℕ) → count_task (number_task k t) ≡ count_task t
  count_numbered_task (task _ call ls es) k = omega (arith, count_numbered_tasks ls (k + 1), count_numbered_tasks es (k + 1 + count_tasks ls))

  pub count_numbered_tasks : (ts : Tasks) (k : ℕ) → count_tasks (number_tasks k ts) ≡ count_tasks ts
  count_numbered_tasks no_tasks k = refl
  count_numbered_tasks (and_task t ts) k = omega (arith, count_numbered_task t k, count_numbered_tasks ts (k + count_task t))

mutual
  pub count_numbered : (l : Line) (k g : ℕ) → count_line (number_line k g l) ≡ count_line l
  count_numbered stop k g = refl
  count_numbered (step t l) k g = omega (arith, count_numbered_task t k, count_numbered l (k + count_task t) g)
  count_numbered (group_end _ ms) k g = count_numbered_all ms k (g + 1)
  count_numbered (chord_end _ ms b) k g = omega (arith, count_numbered_all ms k (g + 1), count_numbered b (k + count_lines ms) (g + 1 + lines_groups ms))

  pub count_numbered_all : (ls : Lines) (k g : ℕ) → count_lines (number_lines k g ls) ≡ count_lines ls
  count_numbered_all no_lines k g = refl
  count_numbered_all (and_line m ms) k g = omega (arith, count_numbered m k g, count_numbered_all ms (k + count_line m) (g + line_groups m))

-- ---- the tree's counts and numbers

mutual
  pub count_elements : (l : Line) → count_all (elements_of l) ≡ count_line l
  count_elements stop = refl
  count_elements (step t l) = ap (λ n. count_task t + n) (count_elements l)
  count_elements (group_end g ms) = omega (arith, count_members ms)
  count_elements (chord_end g ms b) = omega (arith, count_members ms, count_elements b)

  count_members : (ls : Lines) → count_all (members_of ls) ≡ count_lines ls
  count_members no_lines = refl
  count_members (and_line m ms) = omega (arith, count_elements m, count_members ms)

mutual
  pub groups_elements : (l : Line) → count_all_groups (elements_of l) ≡ line_groups l
  groups_elements stop = refl
  groups_elements (step t l) = omega (arith, groups_elements l)
  groups_elements (group_end g ms) = omega (arith, groups_members ms)
  groups_elements (chord_end g ms b) = omega (arith, groups_members ms, groups_elements b)

  groups_members : (ls : Lines) → count_all_groups (members_of ls) ≡ lines_groups ls
  groups_members no_lines = refl
  groups_members (and_line m ms) = omega (arith, groups_elements m, groups_members ms)

at : (k k' g g' : ℕ) (ts : Trees) → k ≡ k' → g ≡ g' → number_all k g ts ≡ number_all k' g' ts
at k k' g g' ts e f = ap (λ n. number_all n g ts) e ∙ ap (λ n. number_all k' n ts) f

mutual
  pub elements_numbered : (l : Line) (k g : ℕ) → elements_of (number_line k g l) ≡ number_all k g (elements_of l)
  elements_numbered stop k g = refl
  elements_numbered (step t l) k g =
      ap (and_tree (one (number_task k t))) (elements_numbered l (k + count_task t) g ∙ at _ _ _ _ (elements_of l) refl (omega arith))
  elements_numbered (group_end _ ms) k g = ap (λ x. and_tree (group g x) no_trees) (members_numbered ms k (g + 1))
  elements_numbered (chord_end _ ms b) k g =
      ap (λ x. and_tree (chord g x (chain (elements_of (number_line (k + count_lines ms) (g + 1 + lines_groups ms) b)))) no_trees)
      (members_numbered ms k (g + 1))
      ∙ ap (λ x. and_tree (chord g (number_all k (g + 1) (members_of ms)) (chain x)) no_trees)
      (elements_numbered b (k + count_lines ms) (g + 1 + lines_groups ms)
      ∙ at _ _ _ _ (elements_of b) (ap (λ n. k + n) (sym (count_members ms))) (ap (λ n. g + 1 + n) (sym (groups_members ms))))

  members_numbered : (ls : Lines) (k g : ℕ) → members_of (number_lines k g ls) ≡ number_all k g (members_of ls)
  members_numbered no_lines k g = refl
  members_numbered (and_line m ms) k g =
      ap (λ x. and_tree (chain x) (members_of (number_lines (k + count_line m) (g + line_groups m) ms))) (elements_numbered m k g)
      ∙ ap (and_tree (chain (number_all k g (elements_of m))))
      (members_numbered ms (k + count_line m) (g + line_groups m)
      ∙ at _ _ _ _ (members_of ms) (ap (λ n. k + n) (sym (count_elements m))) (ap (λ n. g + n) (sym (groups_elements m))))

pub tree_numbered : (l : Line) → tree_of (number_line 1 1 l) ≡ numbered (tree_of l)
tree_numbered l = ap chain (elements_numbered l 1 1)

mutual
  pub groups_numbered : (l : Line) (k g : ℕ) → line_groups (number_line k g l) ≡ line_groups l
  groups_numbered stop k g = refl
  groups_numbered (step t l) k g = groups_numbered l (k + count_task t) g
  groups_numbered (group_end _ ms) k g = ap (λ n. 1 + n) (groups_numbered_all ms k (g + 1))
  groups_numbered (chord_end _ ms b) k g = omega (arith, groups_numbered_all ms k (g + 1), groups_numbered b (k + count_lines ms) (g + 1 + lines_groups ms))

  pub groups_numbered_all : (ls : Lines) (k g : ℕ) → lines_groups (number_lines k g ls) ≡ lines_groups ls
  groups_numbered_all no_lines k g = refl
  groups_numbered_all (and_line m ms) k g = omega (arith, groups_numbered m k g, groups_numbered_all ms (k + count_line m) (g + line_groups m))
