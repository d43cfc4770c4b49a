use Rattle.std.proofs.Common.{◌∙◌, ◌++◌, ap, arith, [], ◌∷◌, rules}
use Rattle.json.specs.Token.{end_array}
use Rattle.serde_json.specs.Data.{string}
use Rattle.canvas_semantics.specs.Line.{names}
use Rattle.canvas_values.specs.steps.Tokens.{data_tokens}
use Rattle.canvas_report.proofs.ReportLines.{names_long}
use Rattle.canvas_ran.specs.Calls.{known_name}
use Rattle.canvas_ran.proofs.Called.KnownNames.{end_ok, name_on, names_end}
use Rattle.canvas_ran.proofs.calls.lines.write_names.Goals as goal

pub loop-index-preserved : goal.loop-index-preserved
loop-index-preserved c = (
  name_on (names c.args.plan.now) c.loop-index.index _ c.loop-index.out.tokens c.write_known_name.new.out.tokens _ (omega arith)
      (omega (arith, names_long c.args.plan.now, c.tasks-index-end.ensures.value, c.loop-index-test.true))
      (c.in_ok-write_known_name.ensures.0
      ∙ ap (λ k. c.loop-index.out.tokens ++ data_tokens (string (known_name c.args.plan.now k))) c.task_at.ensures)
      c.loop-index.invariant.0,
  c.in_ok-write_known_name.ensures.1 ∙ c.loop-index.invariant.1,
)

pub returns : goal.returns
returns c =
    end_ok c.end_array.result c.args.out.now c.loop-index.out c.end_array.new.self (end_array ∷ []) _
    (names_end (names c.args.plan.now) c.loop-index.index c.loop-index.out.tokens _
    (omega (arith, names_long c.args.plan.now, c.tasks-index-end.ensures.value, c.loop-index-test.false, c.loop-index.auto.index-end))
    c.loop-index.invariant.0)
    c.loop-index.invariant.1 (search rules)
