use Rattle.std.proofs.Common.{◌∙◌, sym, subst}
use Rattle.canvas_semantics.specs.Line.{tree_of}
use Rattle.canvas_report.specs.StoredRows.{AllShow}
use Rattle.canvas_answer.specs.Plans.{run_line}
use Rattle.canvas_answer.specs.Raised.{class_of, own_class}
use Rattle.canvas_answer.specs.Told.{known_states}
use Rattle.canvas_answer.proofs.ShownRows.{all_show, known_json, seen_at}
use Rattle.canvas_answer.proofs.ToldRows.{plain_rows}
use Rattle.canvas_answer.proofs.source.Source.json_told.Goals as goal

pub returns-then-is_empty : goal.returns-then-is_empty
returns-then-is_empty g c = λ n numbered.
    let its = c.args.self.now.setting in
    let told = c.args.told in
    let ss = c.args.report.now.rows in (
      known_states ss,
      plain_rows its.stubs.now its.errors.now told.fates.now (run_line c.args.plans.now) ss (sym c.is_empty.ensures ∙ c.if-is_empty.true),
      known_json told.fates.now told.blamed.now told.again (tree_of c.args.plans.now.shown) ss _ c.in_ok-rows_text.ensures.lines,
    )

pub returns : goal.returns
returns g c = λ n numbered.
    let its = c.args.self.now.setting in
    let rows = c.in_ok-rows.rows.items in
    let shows = c.in_ok-rows.ensures.shown n numbered in
    let all = all_show (class_of c.args.told.fates.now (own_class its.stubs.now its.errors.now (run_line c.args.plans.now)))
    c.args.report.now.rows rows shows in
    let given = subst (λ xs. AllShow xs (seen_at rows)) (sym c.deref.ensures.value) all in
    (rows, shows, (seen_at rows, all, c.in_ok-stored_rows_text.ensures.json (seen_at rows) given))
