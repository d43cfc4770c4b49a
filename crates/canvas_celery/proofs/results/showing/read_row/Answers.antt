use Rattle.std.proofs.Common.{◌≡◌, false, true, refl, inl, inr}
use Rattle.serde_json.specs.View.{view}
use Rattle.std.proofs.lemmas.Result.{err_from_is_err_and}
use Rattle.canvas_semantics.specs.Line.{count_line}
use Rattle.canvas_celery.specs.AsStored.{IsRow, Says}
use Rattle.canvas_celery.specs.steps.Rows.{ResultFault, LineFault}
use Rattle.canvas_celery.proofs.Collected.Gathering.{is_nil, not_nil}
use Rattle.canvas_celery.proofs.Collected.RowLemmas.{both, parsed_low, of_unread, of_result}
use Rattle.canvas_celery.proofs.results.showing.read_row.Goals as goal

pub returns-then-is_empty : goal.returns-then-is_empty
returns-then-is_empty c = inl (is_nil c.args.text.now c.if-is_empty.ensures, refl)

pub row_of-requires : goal.row_of-requires
row_of-requires c = parsed_low c.args.text.now (view c.in_ok-meta.meta) c.in_ok-meta.ensures

pub returns-in_err-meta : goal.returns-in_err-meta
returns-in_err-meta c =
    let p = err_from_is_err_and c.from_residual.result c.from_residual.ensures.1 in
    rw (p.1, p.2)
    (of_unread c.args.run.now.digits (count_line c.args.plan.now) c.args.task c.args.text.now _ (not_nil c.args.text.now c.if-is_empty.ensures)
    c.in_err-meta.ensures)

pub returns-then-is_of : goal.returns-then-is_of
returns-then-is_of c =
    let run = c.args.run.now.digits in
    let count = count_line c.args.plan.now in
    let line = c.args.text.now in
    let d = view c.in_ok-meta.meta in
    both c.row_of.result (IsRow run count d) (Says run count c.args.task line) (ResultFault d) (LineFault run count c.args.task line)
    (λ row shows. inr (d, (c.in_ok-meta.ensures, c.if-is_of.ensures.0 refl), shows))
    (λ e refused. of_result run count c.args.task line d e (c.in_ok-meta.ensures, c.if-is_of.ensures.0 refl) refused)
    c.row_of.ensures

pub returns : goal.returns
returns c = (view c.in_ok-meta.meta, c.in_ok-meta.ensures, λ named. let bad : false ≡ true = c.if-is_of.ensures.1 named in absurd cc)
