use Rattle.std.proofs.Common.{◌∙◌, ◌∷◌, None, refl, sym, subst, map, string_bytes}
use Rattle.std.specs.Io.KnownBytes.{Appends}
use Rattle.canvas_semantics.specs.Line.{count_line, tree_of}
use Rattle.canvas_adapt.specs.Stubs.{stubs_behaviour}
use Rattle.canvas_answer.specs.Asking.{asked_of}
use Rattle.canvas_answer.specs.Cases.{AreAllRows, IsEvaluated, case_line}
use Rattle.canvas_answer.specs.Plans.{IsPlanOf, run_line}
use Rattle.canvas_answer.specs.Printing.{printed}
use Rattle.canvas_command.specs.Failing.{AreCaseLines}
use Rattle.canvas_command.proofs.Printed.{first_line}
use Rattle.canvas_command.proofs.failures.print_all.Goals as goal

pub returns-clause-lines : goal.returns-clause-lines
returns-clause-lines g c =
    let cases = c.args.cases.now in
    let answers = c.args.answers in
    let behaviour = g.T.Tasks.behaviour cases.tasks.now in
    let ready = c.in_ok-ready.field-0 in
    let base = c.in_ok-line.base in
    let rows = map string_bytes base.rows.items in
    let (same, shows, runs) = c.in_ok-ready.ensures in
    let here = c.in_ok-line.ensures.ready in
    let (lines, are, more) = c.in_ok-print_cases.ensures (subst (λ r. IsPlanOf cases.canvas r.plans.shown) (sym here) shows)
    (subst (λ r. AreAllRows base.told r.plans.shown rows) (sym here) c.in_ok-line.ensures.rows) in
    let each = subst (λ r. AreCaseLines (asked_of cases.adapts r.answers) behaviour cases.word.now cases.canvas r.plans.shown
    base.told (count_line r.plans.shown) lines)
    here are in
    let first = subst (λ t. Appends (g.W.Write.contents c.args.out.now) (g.W.Write.contents c.print.new.out) (printed t))
    (c.deref.ensures ∙ c.in_ok-line.ensures.line)
    c.in_ok-print.ensures in
    let line = case_line base.told (tree_of ready.plans.shown) None rows in (
      line ∷ lines,
      record {
        shown = ready.plans.shown;
        run = run_line ready.plans;
        shows = shows;
        runs = runs;
        before = base.told;
        told = subst (λ a. IsEvaluated (asked_of cases.adapts a) (stubs_behaviour a.stubs.items behaviour)
            (run_line ready.plans) ready.plans.shown base.told) same
            c.in_ok-line.ensures.told;
        rows = rows;
        all = c.in_ok-line.ensures.rows;
        cases = lines;
        each = subst (λ a. AreCaseLines (asked_of cases.adapts a) behaviour cases.word.now cases.canvas ready.plans.shown
            base.told (count_line ready.plans.shown) lines)
            same each;
        are = refl;
      },
      first_line printed (g.W.Write.contents c.args.out.now) (g.W.Write.contents c.print.new.out)
          (g.W.Write.contents c.print_cases.new.out) line lines first more,
    )

pub returns-clause-failed : goal.returns-clause-failed
returns-clause-failed g c =
    let cases = c.args.cases.now in
    let behaviour = g.T.Tasks.behaviour cases.tasks.now in
    let ready = c.in_ok-ready.field-0 in
    let base = c.in_ok-line.base in
    let (same, shows, runs) = c.in_ok-ready.ensures in
    let told = subst (λ a. IsEvaluated (asked_of cases.adapts a) (stubs_behaviour a.stubs.items behaviour)
    (run_line ready.plans) ready.plans.shown base.told) same
    c.in_ok-line.ensures.told in
    (ready.plans.shown, run_line ready.plans, shows, runs, told.failed_is)
