use Rattle.std.proofs.Common.{ap, ◌∙◌, inl, inr, ⊎_elim}
use Rattle.canvas_semantics.specs.Evaluation.{state_of, eval, nothing}
use Rattle.canvas_semantics.proofs.NumberLemmas.{law}
use Rattle.canvas_runs.proofs.Laws.Causes.{by_cause, completed_once, by_its_cause}
use Rattle.canvas_runs.proofs.Laws.FirstLaw.{first_part}
use Rattle.canvas_runs.proofs.Laws.SecondLaw.{second_part}
use Rattle.canvas_runs.proofs.ByCallers.FromCallerRuns.{the_run, the_closed}
use Rattle.canvas_runs.proofs.callers.law_of_callers.Goals as goal

pub returns-clause-rows_may : goal.returns-clause-rows_may
returns-clause-rows_may c = λ behaviour l plan pass seat r t. (first_part behaviour l plan (the_run behaviour l pass seat r)).rows t

pub returns-clause-rows_are : goal.returns-clause-rows_are
returns-clause-rows_are c =
    λ behaviour l plan pass seat r w t. (second_part behaviour l plan (the_run behaviour l pass seat r) (the_closed behaviour l pass seat r w)).rows t

pub returns-clause-canvas_rows_may : goal.returns-clause-canvas_rows_may
returns-clause-canvas_rows_may c = λ behaviour d l plan pass seat r t.
    ⊎_elim (λ n. inl n) (λ e. inr
    (e ∙ (ap (λ u. state_of t (eval behaviour u nothing).rows) plan.2 ∙ ap (λ m. state_of t m.rows) (law behaviour d nothing plan.0))))
    ((first_part behaviour l plan.1 (the_run behaviour l pass seat r)).rows t)

pub returns-clause-canvas_rows_are : goal.returns-clause-canvas_rows_are
returns-clause-canvas_rows_are c = λ behaviour d l plan pass seat r w t.
    (second_part behaviour l plan.1 (the_run behaviour l pass seat r) (the_closed behaviour l pass seat r w)).rows t
    ∙ (ap (λ u. state_of t (eval behaviour u nothing).rows) plan.2 ∙ ap (λ m. state_of t m.rows) (law behaviour d nothing plan.0))

pub returns-clause-by_cause : goal.returns-clause-by_cause
returns-clause-by_cause c = λ behaviour l plan pass seat r. by_cause behaviour l plan (the_run behaviour l pass seat r)

pub returns-clause-published_once : goal.returns-clause-published_once
returns-clause-published_once c = λ behaviour l plan pass seat r k. (first_part behaviour l plan (the_run behaviour l pass seat r)).published_once k

pub returns-clause-completed_once : goal.returns-clause-completed_once
returns-clause-completed_once c = λ behaviour l plan pass seat r g. completed_once behaviour l plan (the_run behaviour l pass seat r) g

pub returns-clause-by_its_cause : goal.returns-clause-by_its_cause
returns-clause-by_its_cause c = λ behaviour l plan pass seat r. by_its_cause behaviour l plan (the_run behaviour l pass seat r)
