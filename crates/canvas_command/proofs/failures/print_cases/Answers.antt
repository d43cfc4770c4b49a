use Rattle.std.proofs.Common.{◌≡◌, ◌∙◌, ◌++◌, ◌∷◌, [], refl, sym, subst, map, arith, string_bytes}
use Rattle.std.specs.Io.KnownBytes.{Appends}
use Rattle.canvas_semantics.specs.Line.{count_line}
use Rattle.canvas_answer.specs.Asking.{asked_of}
use Rattle.canvas_answer.specs.Cases.{AreAllRows}
use Rattle.canvas_answer.specs.Plans.{IsPlanOf}
use Rattle.canvas_answer.specs.Printing.{printed}
use Rattle.canvas_command.specs.Failing.{AreCaseLines}
use Rattle.canvas_command.proofs.Cases.{alike_after, alike_itself, next_case}
use Rattle.canvas_command.proofs.Printed.{nothing, one_more}
use Rattle.canvas_command.proofs.failures.print_cases.Goals as goal

pub loop-place-init : goal.loop-place-init
loop-place-init g c = (alike_itself c.args.ready.answers, refl, λ plan all. ([], refl, nothing (g.W.Write.contents c.args.out.now)))

pub loop-place-preserved : goal.loop-place-preserved
loop-place-preserved g c =
    let cases = c.args.cases.now in
    let base = c.args.base.now in
    let first = c.args.ready in
    let ready = c.loop-place.ready in
    let (alike, same, so_far) = c.loop-place.invariant in
    let (alike', same') = c.in_ok-line.ensures.ready in (
      alike_after first.answers ready.answers c.in_ok-line.again.answers alike alike',
      same' ∙ same,
      λ plan all.
          let (lines, are, shown) = so_far plan all in
          let line = c.in_ok-line.ensures.line (subst (λ l. IsPlanOf cases.canvas l) (sym same) plan)
          (subst (λ l. AreAllRows base.told l (map string_bytes base.rows.items)) (sym same) all) in
          let text = subst (λ t. Appends (g.W.Write.contents c.loop-place.out) (g.W.Write.contents c.print.new.out) (printed t))
          c.deref.ensures c.in_ok-print.ensures in (
            lines ++ string_bytes c.in_ok-line.line ∷ [],
            next_case cases.adapts first.answers ready.answers (g.T.Tasks.behaviour cases.tasks.now) cases.word.now cases.canvas
                first.plans.shown ready.plans.shown
                base.told c.loop-place.place c.task_at-task.result lines (string_bytes c.in_ok-line.line) alike same c.task_at-task.ensures are line,
            one_more printed (g.W.Write.contents c.args.out.now) (g.W.Write.contents c.loop-place.out) (g.W.Write.contents c.print.new.out) lines
                (string_bytes c.in_ok-line.line) shown text,
          ),
    )

pub returns : goal.returns
returns g c = λ plan all.
    let cases = c.args.cases.now in
    let (alike, same, so_far) = c.loop-place.invariant in
    let (lines, are, shown) = so_far plan all in
    let end : c.loop-place.place ≡ count_line c.args.ready.plans.shown =
    omega (arith, c.loop-place-test.false, c.loop-place.auto.place-end, c.tasks-place-end.ensures) in (
      lines,
      subst (λ n. AreCaseLines (asked_of cases.adapts c.args.ready.answers) (g.T.Tasks.behaviour cases.tasks.now) cases.word.now cases.canvas
          c.args.ready.plans.shown
          c.args.base.now.told n lines) end are,
      shown,
    )
