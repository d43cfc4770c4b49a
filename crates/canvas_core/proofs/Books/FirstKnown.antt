-- The first tasks of a line, of which a book knows each, need not be looked up.
use Rattle.std.proofs.Common.{◌≡◌, ◌∙◌, ◌≤◌, ℕ, zero, suc, arith, List, [], ◌∷◌, map, drop, Some, None, Box, Global, Bool, true, false, true≢false, refl, sym, ap, subst}
use Rattle.std.specs.Prelude.{◌&&◌}
use Rattle.std.proofs.lemmas.Bool.{and_parts}
use Rattle.std.proofs.lemmas.List.{drop-map}
use Rattle.canvas_semantics.specs.PlacedLine.{PTask, p_task, PTasks, no_p_tasks, and_p_task, p_nowhere, p_group, p_chord, PLine, p_stop}
use Rattle.canvas_rewrite.specs.FrozenView.{p_tasks_of, p_steps, p_task_view, p_line_view, p_end_view}
use Rattle.canvas_rewrite.specs.declared.frozen.FrozenTask.{FrozenTask}
use Rattle.canvas_rewrite.specs.declared.frozen.FrozenLine.{FrozenLine, out-FrozenLine}
use Rattle.canvas_rewrite.specs.declared.frozen.FrozenEnd.{FrozenEnd}
use Rattle.canvas_envelope.specs.declared.unplaced.Unplaced.{Unplaced}
use Rattle.canvas_envelope.specs.Unplaced.{is_unplaced, all_unplaced, greatest, greatest_in, EachFirst, IsUnplaced, AreUnplaced}
use Rattle.canvas_envelope.proofs.FirstTasks.{weaker}
use Rattle.canvas_envelope.proofs.Seen.{line_none, line_some}
use Rattle.canvas_runs.specs.Book.{Book, task_known, tasks_known, line_known}
use Rattle.canvas_core.proofs.Books.KnownLines.{known_none}

-- ---- a book that knows each task up to a number

both : (a b : Bool) → a ≡ true → b ≡ true → (a && b) ≡ true
both true b h i = i
both false b h i = absurd (true≢false (sym h))

never : (a : Bool) → (a && false) ≡ true → ⊥
never true h = true≢false (sym h)
never false h = true≢false (sym h)

module _ (book : Book) (most : ℕ) (all : (k : ℕ) → k ≤ most → book.knows k ≡ true) where
  mutual
    task_so : (t : PTask) → is_unplaced t ≡ true → greatest t ≤ most → task_known book t ≡ true
    task_so (p_task k call ls es p_nowhere) h le =
        let callbacks = (and_parts (all_unplaced ls && all_unplaced es) true h).0 in
        let parts = and_parts (all_unplaced ls) (all_unplaced es) callbacks in
        let own : book.knows k ≡ true = all k (omega (arith, le)) in
        let of_links : tasks_known book ls ≡ true = tasks_so ls parts.0 (omega (arith, le)) in
        let of_errbacks : tasks_known book es ≡ true = tasks_so es parts.1 (omega (arith, le)) in
        let with_links = both (book.knows k) (tasks_known book ls) own of_links in
        both (book.knows k && tasks_known book ls && tasks_known book es) true
        (both (book.knows k && tasks_known book ls) (tasks_known book es) with_links of_errbacks) refl
    task_so (p_task k call ls es (p_group g)) h le = absurd (never _ h)
    task_so (p_task k call ls es (p_chord g n b)) h le = absurd (never _ h)

    tasks_so : (ts : PTasks) → all_unplaced ts ≡ true → greatest_in ts ≤ most → tasks_known book ts ≡ true
    tasks_so no_p_tasks h le = refl
    tasks_so (and_p_task t ts) h le =
        let parts = and_parts (is_unplaced t) (all_unplaced ts) h in
        both (task_known book t) _ (task_so t parts.0 (omega (arith, le))) (tasks_so ts parts.1 (omega (arith, le)))

pub first_so : (book : Book) (u : Unplaced) → ((k : ℕ) → k ≤ u.greatest → book.knows k ≡ true) → (l : PLine) → AreUnplaced u l
    → EachFirst (λ t. task_known book t ≡ true) u.count l
first_so book u all l h = weaker (IsUnplaced u.greatest) (λ t. task_known book t ≡ true) (λ t is. task_so book u.greatest all t is.0 is.1) u.count l h

-- ---- the tasks after them

skipped : (book : Book) (n : ℕ) (ts : List PTask) (e : PLine) → EachFirst (λ t. task_known book t ≡ true) n (p_steps ts e)
    → tasks_known book (p_tasks_of (drop n ts)) ≡ tasks_known book (p_tasks_of ts)
skipped book zero ts e h = refl
skipped book (suc n) [] e h = refl
skipped book (suc n) (t ∷ ts) e h = skipped book n ts e h.1 ∙ sym (ap (λ b. b && tasks_known book (p_tasks_of ts)) h.0)

pub behind : (book : Book) (n : ℕ) (ts : List FrozenTask) (e l : PLine) → l ≡ p_steps (map p_task_view ts) e
    → EachFirst (λ t. task_known book t ≡ true) n l
    → tasks_known book (p_tasks_of (map p_task_view (drop n ts))) ≡ tasks_known book (p_tasks_of (map p_task_view ts))
behind book n ts e l is h =
    ap (λ xs. tasks_known book (p_tasks_of xs)) (sym (drop-map p_task_view n ts))
    ∙ skipped book n (map p_task_view ts) e (subst (EachFirst (λ t. task_known book t ≡ true) n) is h)

module _ (book : Book) (l : FrozenLine) (n : ℕ) (ts : List FrozenTask) (same : ts ≡ (out-FrozenLine l).tasks)
    (first : EachFirst (λ t. task_known book t ≡ true) n (p_line_view l)) where
  pub behind_none : (out-FrozenLine l).tail ≡ None → tasks_known book (p_tasks_of (map p_task_view (drop n ts))) ≡ line_known book (p_line_view l)
  behind_none none =
      behind book n ts p_stop (p_line_view l) (line_none l none ∙ ap (λ xs. p_steps (map p_task_view xs) p_stop) (sym same)) first
      ∙ known_none book l none ts same

  pub behind_some : (b : Box FrozenEnd Global) → (out-FrozenLine l).tail ≡ Some b
      → tasks_known book (p_tasks_of (map p_task_view (drop n ts))) ≡ tasks_known book (p_tasks_of (map p_task_view (out-FrozenLine l).tasks))
  behind_some b some =
      behind book n ts (p_end_view b.value) (p_line_view l)
      (line_some l b some ∙ ap (λ xs. p_steps (map p_task_view xs) (p_end_view b.value)) (sym same)) first
      ∙ ap (λ xs. tasks_known book (p_tasks_of (map p_task_view xs))) same
