use Rattle.std.proofs.Common.{◌∙◌, Some, map, ap, sym, subst, string_bytes}
use Rattle.std.specs.List.{filter_map}
use Rattle.canvas_semantics.specs.Line.{tree_of}
use Rattle.canvas_semantics.specs.Report.{names_by_number}
use Rattle.canvas_answer.specs.Cases.{AreAllRows, case_line, changed_object}
use Rattle.canvas_answer.specs.Plans.{run_line}
use Rattle.canvas_answer.proofs.failures.Cases.line.Goals as goal

pub returns-clause-line : goal.returns-clause-line
returns-clause-line g c = λ plan all.
    let f = c.in_ok-told.ensures in
    let told = c.in_ok-told.told in
    let plans = c.in_ok-told.ready.plans in
    let base = c.args.base.now in
    let rows = c.in_ok-rows.ensures (subst (λ l. AreAllRows base.told l (map string_bytes base.rows.items)) (sym f.same) all) in
    record {
      stub = f.stub;
      rename = f.rename;
      error = f.error;
      fails = f.fails;
      run = run_line plans;
      runs = f.runs plan;
      now = told;
      told = f.told;
      line = c.in_ok-line.ensures ∙ ap (λ rs. case_line told (tree_of plans.shown) (Some c.args.task) (map string_bytes rs)) c.deref.ensures.value
          ∙ ap (case_line told (tree_of plans.shown) (Some c.args.task)) rows
          ∙ ap (λ l. case_line told (tree_of l) (Some c.args.task) (filter_map (changed_object told base.told) (names_by_number (tree_of l)))) f.same;
    }

pub returns-clause-ready : goal.returns-clause-ready
returns-clause-ready g c =
    let f = c.in_ok-told.ensures in (
      c.take_first.ensures c.args.ready.answers f.stub f.rename f.error f.put,
      f.same,
    )
