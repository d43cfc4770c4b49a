use Rattle.std.proofs.Common.{◌≡◌, ◌∙◌, ap}
use Rattle.canvas_semantics.specs.Line.{members}
use Rattle.canvas_semantics.specs.PlacedLine.{strip}
use Rattle.canvas_semantics.proofs.Numbered.{strip_bare}
use Rattle.canvas_rewrite.specs.FrozenView.{line_in}
use Rattle.canvas_celery.specs.Completing.{completed}
use Rattle.canvas_celery.specs.Looks.{looks}
use Rattle.canvas_celery.specs.declared.results.completing.Flow.TheVariants.{Value}
use Rattle.canvas_celery.proofs.Collected.Knowing.{completes}
use Rattle.canvas_celery.proofs.Collected.Shown.{looks_shown, rows_shown}
use Rattle.canvas_celery.proofs.results.completing.complete.Goals as goal

pub returns-clause-completed : goal.returns-clause-completed
returns-clause-completed c =
    let plan = c.args.plan.now in
    let line : line_in c.line.result.now ≡ plan = ap strip c.line.ensures.value ∙ strip_bare plan in
    c.in_ok-complete_line.ensures.completed ∙ ap (λ l. completed (λ g. members plan g) l Value (looks c.args.rows.now)) line

pub returns-clause-known : goal.returns-clause-known
returns-clause-known c old is =
    let plan = c.args.plan.now in
    let line : line_in c.line.result.now ≡ plan = ap strip c.line.ensures.value ∙ strip_bare plan in
    let made = c.in_ok-complete_line.ensures.completed ∙ ap (λ l. completed (λ g. members plan g) l Value (looks c.args.rows.now)) line in
    let given = ap looks is ∙ looks_shown old in
    let q = completes plan c.line.ensures.planned.numbered c.line.ensures.in_order old in
    let shows = made ∙ (ap (λ ls. completed (λ g. members plan g) plan Value ls) given ∙ q.1) in
    (q.0, rows_shown c.complete_line.new.rows q.0 shows, q.2)
