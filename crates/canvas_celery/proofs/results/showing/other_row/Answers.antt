use Rattle.std.proofs.Common.{rules, ◌≡◌, ◌≤◌, sym, subst}
use Rattle.serde_json.specs.Data.{Data, depth}
use Rattle.serde_json.specs.Read.{max_depth}
use Rattle.serde_json.specs.View.{view}
use Rattle.canvas_semantics.specs.Line.{count_line}
use Rattle.canvas_celery.specs.declared.results.stored.Lack.{Lack}
use Rattle.canvas_celery.specs.declared.results.stored.Lack.TheVariants.{Dependency}
use Rattle.canvas_celery.specs.Stored.{result_of}
use Rattle.canvas_celery.specs.steps.Lacking.{LacksFault, LacksOutcome}
use Rattle.canvas_celery.specs.steps.Found.{value_at}
use Rattle.canvas_celery.specs.steps.Rows.{IsChordRow}
use Rattle.canvas_celery.proofs.Collected.RowLemmas.{both, result_low, chord_row, no_json}
use Rattle.canvas_celery.proofs.results.showing.other_row.Goals as goal

pub value_row-requires : goal.value_row-requires
value_row-requires c =
    let found : value_at c.get-found.result ≡ result_of (view c.args.meta.now) = search rules in
    let P : Data → Type 0 = λ d. depth d ≤ max_depth in
    subst P (sym found) (result_low (view c.args.meta.now) c.requires.low)

pub chord_row-requires : goal.chord_row-requires
chord_row-requires c =
    let found : value_at c.get-found.result ≡ result_of (view c.args.meta.now) = search rules in
    let F : Lack → Type 0 = λ e. LacksOutcome c.args.run.now.digits (count_line c.args.plan.now) (view c.args.meta.now) e in
    let refused : F Dependency = subst F c.in-Dependency.is c.requires.lacks in
    let P : Data → Type 0 = λ d. LacksFault c.args.run.now.digits (count_line c.args.plan.now) d Dependency in
    subst P (sym found) refused.1

pub returns-in-Dependency : goal.returns-in-Dependency
returns-in-Dependency c =
    let found : value_at c.get-found.result ≡ result_of (view c.args.meta.now) = search rules in
    let F : Lack → Type 0 = λ e. LacksOutcome c.args.run.now.digits (count_line c.args.plan.now) (view c.args.meta.now) e in
    let refused : F Dependency = subst F c.in-Dependency.is c.requires.lacks in
    both c.chord_row.result _ _ _ _
    (λ row h. let P : Data → Type 0 = λ d. IsChordRow c.args.run.now.digits (count_line c.args.plan.now) d row in
    chord_row c.args.run.now.digits (count_line c.args.plan.now) (view c.args.meta.now) row refused (subst P found h))
    (λ e h. no_json (view c.args.meta.now) e h) c.chord_row.ensures
