use Rattle.std.proofs.Common.{◌∙◌, ◌++◌, List, map, ap, refl}
use Rattle.canvas_task.proofs.Turns.{put_on}
use Rattle.canvas_semantics.specs.Evaluation.{State}
use Rattle.canvas_report.specs.declared.row.Row.TheVariants as row
use Rattle.canvas_report.proofs.shown.run_rows.Goals as goal

pub loop-row-init : goal.loop-row-init
loop-row-init c =
    ap (λ rs. rs ++ map (λ s. row.Known s) c.deref-row-items.result.now) c.new-rows.ensures.items
    ∙ ap (map (λ s. row.Known s)) (c.deref-row-items.ensures.value ∙ c.get.ensures)

pub loop-row-preserved : goal.loop-row-preserved
loop-row-preserved c =
    put_on (λ (ss : List State). map (λ s. row.Known s) ss) c.deref-row-items.result.now c.loop-row.row-index c.row-item.result _ c.loop-row.rows.items _ _
    c.loop-row-test.true c.row-item.is refl c.loop-row.invariant c.in_ok-push.ensures.items
