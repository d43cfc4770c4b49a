-- Rows that were read at the end.
use Rattle.std.proofs.Common.{◌≡◌, ◌⊎◌, ℕ, suc, List, [], ◌∷◌, length, map, None, refl, sym, ap, ap₂, subst, ◌∙◌, inl, inr, ⊎_elim}
use Rattle.canvas_task.specs.Apply.{Behaviour}
use Rattle.canvas_semantics.specs.Evaluation.{State, state_of, eval, nothing}
use Rattle.canvas_semantics.specs.Line.{Line, tree_of}
use Rattle.canvas_rewrite.specs.Planned.{IsPlan}
use Rattle.canvas_semantics.specs.States.{states, numbers_from}
use Rattle.canvas_semantics.proofs.Numbered.{count_elements}
use Rattle.canvas_history.specs.Table.{Results, results}
use Rattle.canvas_history.specs.Roster.{roster_of}
use Rattle.canvas_runs.specs.Following.{Pass, Seat}
use Rattle.canvas_history.specs.Lists.{Each}
use Rattle.canvas_runs.specs.CallerRuns.{ReadsWhatIsHeld}
use Rattle.canvas_runs.specs.CallerRows.{reads_from, RanTo, RanWell}
use Rattle.canvas_semantics.specs.States.{EachMay}
use Rattle.canvas_runs.proofs.Laws.FirstLaw.{first_part}
use Rattle.canvas_runs.proofs.Laws.SecondLaw.{second_part}
use Rattle.canvas_runs.proofs.ByCallers.Closing.{closing_held}
use Rattle.canvas_runs.proofs.ByCallers.FromCallerRuns.{the_run, the_closed}

module _ (s : Results) (f : ℕ → State) where
  rows_are : ((t : ℕ) → s.outcomes t ≡ f t) → (k : ℕ) (rows : List State) → Each (ReadsWhatIsHeld s) (reads_from k rows)
      → rows ≡ map f (numbers_from k (length rows))
  rows_are same k [] h = refl
  rows_are same k (x ∷ rows) h = ap₂ (λ (a : State) (b : List State). a ∷ b) (h.0 ∙ same k) (rows_are same (suc k) rows h.1)

  rows_may : ((t : ℕ) → (s.outcomes t ≡ None) ⊎ (s.outcomes t ≡ f t)) → (k : ℕ) (rows : List State) → Each (ReadsWhatIsHeld s) (reads_from k rows)
      → EachMay rows (map f (numbers_from k (length rows)))
  rows_may same k [] h = tt
  rows_may same k (x ∷ rows) h = (⊎_elim (λ n. inl (h.0 ∙ n)) (λ e. inr (h.0 ∙ e)) (same k), rows_may same (suc k) rows h.1)

module _ (behaviour : Behaviour) (l : Line) (plan : IsPlan l) (pass : Pass) (seat : Seat) (rows : List State) where
  abbrev its : ℕ → State
  its k = state_of k (eval behaviour (tree_of l) nothing).rows

  read_held : (r : RanTo behaviour l pass seat rows) → Each (ReadsWhatIsHeld (results (roster_of l) seat.seen)) (reads_from 1 rows)
  read_held r = subst (λ cs. Each (ReadsWhatIsHeld (results (roster_of l) seat.seen)) cs) r.read (closing_held behaviour l pass seat r.ran)

  all_rows : (r : RanTo behaviour l pass seat rows) → map its (numbers_from 1 (length rows)) ≡ states behaviour (tree_of l)
  all_rows r = ap (λ n. map its (numbers_from 1 n)) (r.each ∙ sym (count_elements l))

  pub rows_of_well : RanWell behaviour l pass seat rows → rows ≡ states behaviour (tree_of l)
  rows_of_well r =
      rows_are (results (roster_of l) seat.seen) its
      (λ t. (second_part behaviour l plan (the_run behaviour l pass seat r.to.ran) (the_closed behaviour l pass seat r.to.ran r.well)).rows t) 1 rows
      (read_held r.to) ∙ all_rows r.to

  pub rows_of_any : RanTo behaviour l pass seat rows → EachMay rows (states behaviour (tree_of l))
  rows_of_any r =
      subst (λ ys. EachMay rows ys) (all_rows r)
      (rows_may (results (roster_of l) seat.seen) its (λ t. (first_part behaviour l plan (the_run behaviour l pass seat r.ran)).rows t) 1 rows
      (read_held r))
