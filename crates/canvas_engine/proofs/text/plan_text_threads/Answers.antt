use Rattle.std.proofs.Common.{List, ap, subst, ◌∙◌}
use Rattle.canvas_semantics.specs.Evaluation.{State}
use Rattle.canvas_semantics.specs.Line.{tree_of}
use Rattle.canvas_semantics.specs.Report.{report_of}
use Rattle.canvas_semantics.specs.States.{rows_from}
use Rattle.canvas_runs.specs.ProgramOrder.{program_order}
use Rattle.canvas_engine.specs.Evidence.{IsRun}
use Rattle.canvas_engine.specs.Headline.{Headline}
use Rattle.canvas_engine.proofs.text.plan_text_threads.Goals as goal

pub returns-in_ok-report_text-in-Ok-clause-ok : goal.returns-in_ok-report_text-in-Ok-clause-ok
returns-in_ok-report_text-in-Ok-clause-ok g c =
    let behaviour = g.T.Tasks.behaviour c.args.tasks.now in
    let l = c.args.plan.now in
    let run = c.in-Ok.ensures.headline in
    let Promised : List State → Type 0 = λ rows. (ran : IsRun behaviour l c.args.workers rows c.in-Ok.records)
    × Headline behaviour l c.args.workers rows c.in-Ok.records (program_order ran.run) in (
      (c.in-Ok.ensures.workers, c.tasks-tasks.ensures.planned),
      c.in_ok-report_text-in-Ok.ensures ∙ ap (λ rows. report_of (tree_of l) (rows_from 1 rows)) run.0.are,
      subst Promised run.0.are run,
      c.in-Ok.ensures.wanted,
    )
