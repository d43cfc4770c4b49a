-- A line that is numbered again has the new numbers.
use Rattle.std.proofs.Common.{◌≡◌, ◌∙◌, ℕ, ◌+◌, refl, ap}
use Rattle.canvas_semantics.specs.Tree.{Task, task, Tasks, no_tasks, and_task, count_task, count_tasks, number_task, number_tasks}
use Rattle.canvas_semantics.specs.Line.{Line, stop, step, group_end, chord_end, Lines, no_lines, and_line, count_line, count_lines, line_groups, lines_groups, number_line, number_lines}
use Rattle.canvas_semantics.proofs.Numbered.{count_numbered_task, count_numbered_tasks, count_numbered, count_numbered_all, groups_numbered, groups_numbered_all}

mutual
  again_task : (t : Task) (k m : ℕ) → number_task k (number_task m t) ≡ number_task k t
  again_task (task _ call ls es) k m =
      ap (λ n. task k call (number_tasks (k + 1) (number_tasks (m + 1) ls)) (number_tasks (k + 1 + n) (number_tasks (m + 1 + count_tasks ls) es)))
      (count_numbered_tasks ls (m + 1))
      ∙ (λ i. task k call (again_tasks ls (k + 1) (m + 1) i) (again_tasks es (k + 1 + count_tasks ls) (m + 1 + count_tasks ls) i))

  again_tasks : (ts : Tasks) (k m : ℕ) → number_tasks k (number_tasks m ts) ≡ number_tasks k ts
  again_tasks no_tasks k m = refl
  again_tasks (and_task t ts) k m =
      ap (λ n. and_task (number_task k (number_task m t)) (number_tasks (k + n) (number_tasks (m + count_task t) ts))) (count_numbered_task t m)
      ∙ (λ i. and_task (again_task t k m i) (again_tasks ts (k + count_task t) (m + count_task t) i))

mutual
  pub again : (l : Line) (k g m h : ℕ) → number_line k g (number_line m h l) ≡ number_line k g l
  again stop k g m h = refl
  again (step t l) k g m h =
      ap (λ n. step (number_task k (number_task m t)) (number_line (k + n) g (number_line (m + count_task t) h l))) (count_numbered_task t m)
      ∙ (λ i. step (again_task t k m i) (again l (k + count_task t) g (m + count_task t) h i))
  again (group_end _ ms) k g m h = ap (group_end g) (again_all ms k (g + 1) m (h + 1))
  again (chord_end _ ms b) k g m h =
      (λ i. chord_end g (number_lines k (g + 1) (number_lines m (h + 1) ms))
      (number_line (k + count_numbered_all ms m (h + 1) i) (g + 1 + groups_numbered_all ms m (h + 1) i)
      (number_line (m + count_lines ms) (h + 1 + lines_groups ms) b)))
      ∙ (λ i. chord_end g (again_all ms k (g + 1) m (h + 1) i)
      (again b (k + count_lines ms) (g + 1 + lines_groups ms) (m + count_lines ms) (h + 1 + lines_groups ms) i))

  again_all : (ls : Lines) (k g m h : ℕ) → number_lines k g (number_lines m h ls) ≡ number_lines k g ls
  again_all no_lines k g m h = refl
  again_all (and_line l ls) k g m h =
      (λ i. and_line (number_line k g (number_line m h l))
      (number_lines (k + count_numbered l m h i) (g + groups_numbered l m h i) (number_lines (m + count_line l) (h + line_groups l) ls)))
      ∙ (λ i. and_line (again l k g m h i) (again_all ls (k + count_line l) (g + line_groups l) (m + count_line l) (h + line_groups l) i))
