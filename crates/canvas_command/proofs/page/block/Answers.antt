use Rattle.std.proofs.Common.{◌≡◌, ◌∙◌, ◌++◌, List, ap, ap₂, flat_map, map, string_bytes, subst, sym}
use Rattle.canvas_adapt.specs.Renamed.{renamed}
use Rattle.canvas_adapt.specs.Stubs.{stubs_behaviour}
use Rattle.canvas_task.specs.Text.{Text}
use Rattle.canvas_answer.specs.Asking.{asked_of}
use Rattle.canvas_answer.specs.Cases.{AreAllRows}
use Rattle.canvas_answer.specs.Plans.{ArePlansOf, IsPlanOf, run_line}
use Rattle.canvas_answer.specs.Printing.{printed}
use Rattle.canvas_command.specs.Failing.{AreCaseLines}
use Rattle.canvas_command.specs.Paged.{AreRunsShown, IsBlock, cases_shown, is_short}
use Rattle.canvas_command.proofs.page.block.Goals as goal

pub returns : goal.returns
returns g c = λ read.
    let cases = c.args.cases.now in
    let behaviour = g.T.Tasks.behaviour cases.tasks.now in
    let ready = c.in_ok-ready.ready in
    let its = asked_of cases.adapts ready.answers in
    let base = c.in_ok-line-2.base in
    let rows = map string_bytes base.rows.items in
    let shown = ready.plans.shown in
    let run = run_line ready.plans in
    let short = c.is_short-short.result in
    let (same, shows, runs) = c.in_ok-ready.ensures in
    let runs' : IsPlanOf (renamed ready.answers.renames.items cases.canvas) run =
    subst (λ a. IsPlanOf (renamed a.renames.items cases.canvas) run) (sym same) runs in
    let plans : ArePlansOf its cases.text.now shown run = record { canvas = cases.canvas; read = read; shows = shows; runs = runs' } in
    let (played, failing, plays, each, end) =
    subst (λ r. ArePlansOf (asked_of cases.adapts r.answers) cases.text.now r.plans.shown (run_line r.plans)
    → IsPlanOf cases.canvas r.plans.shown
    → AreAllRows base.told r.plans.shown rows
    → (played : Text) × (failing : List Text)
    × AreRunsShown (stubs_behaviour r.answers.stubs.items behaviour) (asked_of cases.adapts r.answers) cases.text.now short played
    × AreCaseLines (asked_of cases.adapts r.answers) behaviour cases.word.now cases.canvas r.plans.shown base.told
    (cases_shown short r.plans.shown) failing
    × (c.put_short.new.lines.items ≡ c.print-2.new.out.items ++ (played ++ flat_map printed failing)))
    c.in_ok-line-2.ensures.ready c.in_ok-put_short.ensures plans shows c.in_ok-line-2.ensures.rows in
    let is_so : short ≡ is_short shown = c.is_short-short.ensures (c.deref.ensures ∙ c.in_ok-line.ensures) in
    let one = c.in_ok-print.ensures
    ∙ ap₂ (λ x b. x ++ printed b) c.new-lines.ensures.items (c.deref-2.ensures ∙ c.in_ok-line.ensures) in
    let two = c.in_ok-print-2.ensures ∙ ap₂ (λ x b. x ++ printed b) one (c.deref-3.ensures ∙ c.in_ok-line-2.ensures.line) in
    subst (λ a. IsBlock behaviour (asked_of cases.adapts a) cases.word.now cases.text.now c.put_short.new.lines.items) same
    record {
      canvas = cases.canvas;
      reads = read;
      shown = shown;
      run = run;
      shows = shows;
      runs = runs';
      before = base.told;
      told = c.in_ok-line-2.ensures.told;
      rows = rows;
      all = c.in_ok-line-2.ensures.rows;
      cases = failing;
      each = subst (λ b. AreCaseLines its behaviour cases.word.now cases.canvas shown base.told (cases_shown b shown) failing) is_so each;
      played = played;
      plays = subst (λ b. AreRunsShown (stubs_behaviour ready.answers.stubs.items behaviour) its cases.text.now b played) is_so plays;
      is = end ∙ ap (λ x. x ++ (played ++ flat_map printed failing)) two;
    }
