-- Each task of a plan is listed once, in the order of their numbers, and as idle if it has no outcome.
use Rattle.std.proofs.Common.{◌≡◌, ◌∙◌, ℕ, suc, ◌+◌, List, [], ◌∷◌, ◌++◌, map, length, Some, None, refl, sym, ap, ap₂, append-nil, arith}
use Rattle.std.proofs.lemmas.List.{map-append}
use Rattle.canvas_task.specs.Text.{Text}
use Rattle.canvas_semantics.specs.Tree.{Task, task, Tasks, no_tasks, and_task}
use Rattle.canvas_semantics.specs.Evaluation.{State, Rows, state_of, with_states}
use Rattle.canvas_semantics.specs.Line.{Line, stop, step, group_end, chord_end, Lines, no_lines, and_line, no_of, elements_of, members_of, names, count_line}
use Rattle.canvas_semantics.specs.Report.{names_of_task, names_of_tasks, all_names_by_number, counted_from}
use Rattle.canvas_semantics.specs.States.{numbers_from}
use Rattle.canvas_rewrite.specs.Planned.{IsPlan}
use Rattle.canvas_rewrite.proofs.NamesInOrder.{plan_names}
use Rattle.canvas_report.proofs.ReportLines.{names_long}
use Rattle.canvas_history.specs.Lists.{Each}
use Rattle.canvas_runs.proofs.Lists.Words.{each_append}
use Rattle.canvas_report.specs.Fates.{Fates}
use Rattle.canvas_ran.specs.Seen.{fate_by, after, into_body, seen_task, seen_callbacks, seen, seen_all, IsIdleIfPending}
use Rattle.canvas_ran.specs.declared.came.Came.{Came}
use Rattle.canvas_ran.specs.declared.came.Came.TheVariants.{Value, Skip, Raise}
use Rattle.canvas_report.specs.declared.fate.Fate.TheVariants.{Idle}

-- ---- numbers

abbrev told : Fates → List ℕ
told fs = map (λ f. f.0) fs

abbrev named : List (ℕ × Text) → List ℕ
named ns = map (λ n. n.0) ns

both : (fs gs : Fates) (xs ys : List (ℕ × Text)) → told fs ≡ named xs → told gs ≡ named ys
    → told (fs ++ gs) ≡ named (xs ++ ys)
both fs gs xs ys e h = map-append (λ f. f.0) fs gs ∙ (ap₂ (λ a b. a ++ b) e h ∙ sym (map-append (λ n. n.0) xs ys))

module _ (w : Rows) where
  mutual
    task_told : (t : Task) (c : Came) → told (seen_task w t c) ≡ named (names_of_task t)
    task_told (task k call ls es) c =
        ap (λ ks. k ∷ ks) (both (seen_callbacks w ls) (seen_callbacks w es) (names_of_tasks ls) (names_of_tasks es)
        (callbacks_told ls) (callbacks_told es))

    callbacks_told : (ts : Tasks) → told (seen_callbacks w ts) ≡ named (names_of_tasks ts)
    callbacks_told no_tasks = refl
    callbacks_told (and_task t ts) =
        both (seen_task w t Value) (seen_callbacks w ts) (names_of_task t) (names_of_tasks ts) (task_told t Value)
        (callbacks_told ts)

  module _ (table : ℕ → List ℕ) where
    mutual
      line_told : (l : Line) (c : Came) → told (seen w table l c) ≡ named (all_names_by_number (elements_of l))
      line_told stop c = refl
      line_told (step t rest) c =
          both (seen_task w t c) (seen w table rest (after c (no_of t) (state_of (no_of t) w))) (names_of_task t)
          (all_names_by_number (elements_of rest))
          (task_told t c) (line_told rest (after c (no_of t) (state_of (no_of t) w)))
      line_told (group_end g ms) c = members_told ms c ∙ sym
          (ap named (append-nil (all_names_by_number (members_of ms))))
      line_told (chord_end g ms b) c =
          both (seen_all w table ms c) (seen w table b (into_body c (with_states w (table g))))
          (all_names_by_number (members_of ms))
          (all_names_by_number (elements_of b)) (members_told ms c)
          (line_told b (into_body c (with_states w (table g))))
          ∙ sym (ap named (append-nil (all_names_by_number (members_of ms) ++ all_names_by_number (elements_of b))))

      members_told : (ms : Lines) (c : Came) → told (seen_all w table ms c) ≡ named
          (all_names_by_number (members_of ms))
      members_told no_lines c = refl
      members_told (and_line m ms) c =
          both (seen w table m c) (seen_all w table ms c) (all_names_by_number (elements_of m))
          (all_names_by_number (members_of ms)) (line_told m c)
          (members_told ms c)

counted : (k : ℕ) (ns : List Text) → named (counted_from k ns) ≡ numbers_from k (length ns)
counted k [] = refl
counted k (n ∷ ns) = let next : k + 1 ≡ suc k = omega arith in
    ap (λ ks. k ∷ ks) (ap (λ j. named (counted_from j ns)) next ∙ counted (suc k) ns)

pub plan_told : (w : Rows) (table : ℕ → List ℕ) (l : Line) (c : Came) → IsPlan l
    → told (seen w table l c) ≡ numbers_from 1 (count_line l)
plan_told w table l c plan =
    line_told w table l c ∙ (ap named (plan_names l plan) ∙ (counted 1 (names l) ∙ ap (numbers_from 1) (names_long l)))

-- ---- idle tasks

idle_by : (c : Came) (s : State) → (fate_by c s ≡ Idle → s ≡ None) × (s ≡ None → fate_by c s ≡ Idle)
idle_by c None = (λ e. refl, λ e. refl)
idle_by Value (Some o) = (λ e. absurd (cc), λ e. absurd (cc))
idle_by (Skip d) (Some o) = (λ e. absurd (cc), λ e. absurd (cc))
idle_by (Raise d) (Some o) = (λ e. absurd (cc), λ e. absurd (cc))

module _ (w : Rows) where
  mutual
    task_idle : (t : Task) (c : Came) → Each (IsIdleIfPending w) (seen_task w t c)
    task_idle (task k call ls es) c = (
      idle_by c (state_of k w),
      each_append (IsIdleIfPending w) (seen_callbacks w ls) (seen_callbacks w es)
          (callbacks_idle ls) (callbacks_idle es),
    )

    callbacks_idle : (ts : Tasks) → Each (IsIdleIfPending w) (seen_callbacks w ts)
    callbacks_idle no_tasks = tt
    callbacks_idle (and_task t ts) = each_append (IsIdleIfPending w) (seen_task w t Value) (seen_callbacks w ts)
        (task_idle t Value) (callbacks_idle ts)

  module _ (table : ℕ → List ℕ) where
    mutual
      pub line_idle : (l : Line) (c : Came) → Each (IsIdleIfPending w) (seen w table l c)
      line_idle stop c = tt
      line_idle (step t rest) c =
          each_append (IsIdleIfPending w) (seen_task w t c)
          (seen w table rest (after c (no_of t) (state_of (no_of t) w)))
          (task_idle t c) (line_idle rest (after c (no_of t) (state_of (no_of t) w)))
      line_idle (group_end g ms) c = members_idle ms c
      line_idle (chord_end g ms b) c =
          each_append (IsIdleIfPending w) (seen_all w table ms c)
          (seen w table b (into_body c (with_states w (table g))))
          (members_idle ms c) (line_idle b (into_body c (with_states w (table g))))

      members_idle : (ms : Lines) (c : Came) → Each (IsIdleIfPending w) (seen_all w table ms c)
      members_idle no_lines c = tt
      members_idle (and_line m ms) c = each_append (IsIdleIfPending w) (seen w table m c) (seen_all w table ms c)
          (line_idle m c) (members_idle ms c)
