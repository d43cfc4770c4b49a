use Rattle.std.proofs.Common.{◌≡◌, ◌++◌, true, subst}
use Rattle.canvas_adapt.specs.Stubs.{stubs_behaviour}
use Rattle.canvas_task.specs.Text.{Text}
use Rattle.canvas_answer.specs.Asking.{Asking, asked_of}
use Rattle.canvas_answer.specs.Plans.{ArePlansOf, run_line}
use Rattle.canvas_command.specs.Paged.{AreRunsShown}
use Rattle.canvas_command.proofs.page.put_runs_of.Goals as goal

pub returns-clause-lines : goal.returns-clause-lines
returns-clause-lines g c = λ plans.
    let cases = c.args.cases.now in
    let ready = c.args.ready in
    let behaviour = stubs_behaviour ready.answers.stubs.items (g.T.Tasks.behaviour cases.tasks.now) in
    let given : Asking =
    record { adapts = cases.adapts; stubs = c.deref.result.now; errors = c.deref-2.result.now; renames = c.deref-3.result.now } in
    let same : given ≡ asked_of cases.adapts ready.answers =
    λ i. record { adapts = cases.adapts; stubs = c.deref.ensures.value i; errors = c.deref-2.ensures.value i; renames = c.deref-3.ensures.value i } in
    subst (λ its. ArePlansOf its cases.text.now ready.plans.shown (run_line ready.plans)
    → (text : Text) × AreRunsShown behaviour its cases.text.now true text × (c.put_runs.new.lines.items ≡ c.args.lines.now.items ++ text))
    same c.in_ok-put_runs.ensures plans
