use Rattle.std.proofs.Common.{rules, ◌≡◌, ℕ, length, subst}
use Rattle.canvas_semantics.specs.Line.{count_line}
use Rattle.canvas_task.specs.Text.{Text}
use Rattle.canvas_celery.specs.AsStored.{Names}
use Rattle.canvas_celery.specs.Stored.{message_of}
use Rattle.canvas_celery.specs.steps.Found.{value_at}
use Rattle.canvas_celery.proofs.Collected.Identifiers.{full}
use Rattle.canvas_celery.proofs.Collected.RowLemmas.{both, of_blame, of_chord, class_there, named_utf8}
use Rattle.canvas_celery.proofs.results.showing.chord_row.Goals as goal

pub blamed_row-requires : goal.blamed_row-requires
blamed_row-requires c =
    let as_long : length c.args.run.now.digits ≡ 22 = full c.digits-digits.result c.args.run.now.digits c.digits-digits.ensures (search rules) in
    named_utf8 c.args.run.now.digits c.as_bytes.result.now (count_line c.args.plan.now) _ _ as_long c.as_bytes.ensures.utf8 c.in-Some.ensures

pub returns-in-Some : goal.returns-in-Some
returns-in-Some c =
    let said : c.as_bytes.result.now ≡ message_of (value_at c.args.found) = search rules in
    let N : Text → Type 0 = λ m. Names c.args.run.now.digits (count_line c.args.plan.now) m c.in-Some.blame.dep c.in-Some.blame.class.now in
    both c.blamed_row.result _ _ _ _
    (λ row h. of_blame c.args.run.now.digits (count_line c.args.plan.now) (value_at c.args.found) _ _ row
    c.requires.0 (subst N said c.in-Some.ensures) c.requires.1 h)
    (λ e h. h) c.blamed_row.ensures

pub returns-in-None : goal.returns-in-None
returns-in-None c =
    let said : c.as_bytes.result.now ≡ message_of (value_at c.args.found) = search rules in
    let N : Text → Type 0 = λ m. (dep : ℕ) (name : Text) → ¬ Names c.args.run.now.digits (count_line c.args.plan.now) m dep name in
    both c.raised_row.result _ _ _ _
    (λ row h. of_chord c.args.run.now.digits (count_line c.args.plan.now) (value_at c.args.found) row c.requires.0 (subst N said c.in-None.ensures) h)
    (λ e h. class_there e h) c.raised_row.ensures
