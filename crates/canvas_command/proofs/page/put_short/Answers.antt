use Rattle.std.proofs.Common.{◌≡◌, ◌∙◌, ◌++◌, List, [], OnOk, append-nil, append_assoc, ap, flat_map, map, refl, string_bytes, subst, sym}
use Rattle.std.proofs.lemmas.Result.{on_ok_weaker}
use Rattle.canvas_semantics.specs.Line.{count_line}
use Rattle.canvas_adapt.specs.Stubs.{stubs_behaviour}
use Rattle.canvas_task.specs.Text.{Text}
use Rattle.canvas_answer.specs.Asking.{asked_of}
use Rattle.canvas_answer.specs.Cases.{AreAllRows}
use Rattle.canvas_answer.specs.Plans.{IsPlanOf}
use Rattle.canvas_answer.specs.Printing.{printed}
use Rattle.canvas_command.specs.Failing.{AreCaseLines}
use Rattle.canvas_command.specs.Paged.{AreRunsShown, cases_shown}
use Rattle.canvas_command.proofs.page.put_short.Goals as goal

pub returns-then-short : goal.returns-then-short
returns-then-short g c = λ plans shows all.
    let cases = c.args.cases.now in
    let base = c.args.base.now in
    let ready = c.args.ready in
    let behaviour = g.T.Tasks.behaviour cases.tasks.now in
    let its = asked_of cases.adapts ready.answers in
    let shown = ready.plans.shown in
    let (played, runs, first) = c.in_ok-ready.ensures.lines plans in
    let told = subst (λ r. IsPlanOf cases.canvas r.plans.shown → AreAllRows base.told r.plans.shown (map string_bytes base.rows.items)
    → OnOk c.print_cases.result ((failing : List Text)
    × AreCaseLines (asked_of cases.adapts r.answers) behaviour cases.word.now cases.canvas r.plans.shown base.told (count_line r.plans.shown) failing
    × (c.print_cases.new.out.items ≡ c.put_runs_of.new.lines.items ++ flat_map printed failing)))
    c.in_ok-ready.ensures.ready c.print_cases.ensures shows all in
    on_ok_weaker c.print_cases.result
    (λ it.
    let (failing, each, more) = it in (
      played,
      failing,
      subst (λ b. AreRunsShown (stubs_behaviour ready.answers.stubs.items behaviour) its cases.text.now b played) (sym c.if-short.true) runs,
      subst (λ n. AreCaseLines its behaviour cases.word.now cases.canvas shown base.told n failing)
          (sym (ap (λ b. cases_shown b shown) c.if-short.true)) each,
      more ∙ ap (λ x. x ++ flat_map printed failing) first ∙ append_assoc c.args.lines.now.items played (flat_map printed failing),
    ))
    told

pub returns : goal.returns
returns g c = λ plans shows all.
    let cases = c.args.cases.now in
    let ready = c.args.ready in
    let behaviour = g.T.Tasks.behaviour cases.tasks.now in
    let its = asked_of cases.adapts ready.answers in
    let shown = ready.plans.shown in (
      [],
      [],
      subst (λ b. AreRunsShown (stubs_behaviour ready.answers.stubs.items behaviour) its cases.text.now b []) (sym c.if-short.false) refl,
      subst (λ n. AreCaseLines its behaviour cases.word.now cases.canvas shown c.args.base.now.told n [])
          (sym (ap (λ b. cases_shown b shown) c.if-short.false)) refl,
      sym (append-nil c.args.lines.now.items),
    )
