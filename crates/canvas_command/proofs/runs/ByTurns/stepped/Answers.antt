use Rattle.std.proofs.Common.{◌≡◌, ◌∙◌, map, ap, subst}
use Rattle.canvas_report.specs.Failing.{any_failed}
use Rattle.canvas_semantics.specs.Evaluation.{with_states}
use Rattle.canvas_semantics.specs.Line.{ends_of, tree_of}
use Rattle.canvas_semantics.specs.States.{rows_from, states}
use Rattle.canvas_engine.specs.Noted.{IsStepped, step_seen}
use Rattle.canvas_answer.specs.Answers.{bytes_in}
use Rattle.canvas_answer.specs.Plans.{run_line}
use Rattle.canvas_answer.specs.Told.{report_status}
use Rattle.canvas_engine.specs.StepLines.{none_held, steps_text}
use Rattle.canvas_command.proofs.runs.ByTurns.stepped.Goals as goal

pub returns-in_ok-lines-in-Ok : goal.returns-in_ok-lines-in-Ok
returns-in_ok-lines-in-Ok g c = λ plans.
    let behaviour = g.T.Tasks.behaviour c.args.source.now.tasks.now in
    let self = c.args.self.now in
    let shown = c.args.plans.now.shown in
    let run = run_line c.args.plans.now in
    let report = c.in-Ok.report in
    let steps = c.in-Ok.steps.items in
    let rows = c.in_ok-rows-in-Ok.rows.items in
    let said = c.in-Ok.ensures.ok.1 in
    let are : report.rows ≡ states behaviour (tree_of run) = said.whole.are ∙ ap (λ l. states behaviour (tree_of l)) c.run-plan.ensures in
    let stepped = subst (λ l. IsStepped behaviour l self.workers self.turns.now self.again.now report.rows c.in-Ok.repeats (map step_seen steps))
    c.run-plan.ensures said in
    let ran = subst (λ ss. IsStepped behaviour run self.workers self.turns.now self.again.now ss c.in-Ok.repeats (map step_seen steps)) are stepped in
    let text = c.in_ok-lines-in-Ok.ensures ∙ (λ i. steps_text (c.run-plan.ensures i) (c.deref.ensures.value i) none_held (c.deref-in-Ok.ensures.value i)) in
    let status = ap (λ ss. report_status self.output.fails (any_failed (with_states (rows_from 1 ss) (ends_of shown)))) are in (
      shown,
      run,
      plans,
      (
        self.again.now,
        c.in-Ok.repeats,
        steps,
        ran,
        (
          rows,
          c.in_ok-rows-in-Ok.ensures behaviour are,
          record {
            out = ap bytes_in c.counted.ensures.0 ∙ c.answer-answer.ensures.out ∙ text;
            unrefused = c.counted.ensures.1 ∙ c.answer-answer.ensures.unrefused;
            ends = c.counted.ensures.2 ∙ c.answer-answer.ensures.ends ∙ status;
          },
        ),
      ),
    )
