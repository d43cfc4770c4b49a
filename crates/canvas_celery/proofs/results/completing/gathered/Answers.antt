use Rattle.std.proofs.Common.{◌∙◌, ◌+◌, drop, sym, ap}
use Rattle.std.proofs.lemmas.List.{drop_all}
use Rattle.canvas_task.proofs.Turns.{item_first}
use Rattle.canvas_celery.specs.Completing.{gathered_on, gathered_from}
use Rattle.canvas_celery.specs.Looks.{looks}
use Rattle.canvas_celery.proofs.results.completing.gathered.Goals as goal

pub loop-last-preserved : goal.loop-last-preserved
loop-last-preserved c =
    let lasts = c.args.lasts.now in
    let ls = looks c.args.rows.now in
    let i = c.loop-last.last-index in
    let k = c.last-item.result in
    let rest = item_first lasts i k c.loop-last-test.true c.last-item.is in
    let next = c.gathered_on-flow.ensures ∙ ap (λ f. gathered_on c.loop-last.flow f) c.passed_on.ensures in
    ap (λ f. gathered_from f (drop (i + 1) lasts) ls) next
    ∙ (sym (ap (λ ks. gathered_from c.loop-last.flow ks ls) rest) ∙ c.loop-last.invariant)

pub returns : goal.returns
returns c =
    let none = drop_all c.loop-last.last-index c.args.lasts.now c.loop-last-test.false in
    sym (ap (λ ks. gathered_from c.loop-last.flow ks (looks c.args.rows.now)) none) ∙ c.loop-last.invariant
