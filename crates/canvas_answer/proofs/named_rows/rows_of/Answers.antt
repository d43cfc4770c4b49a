use Rattle.std.proofs.Common.{◌≡◌, ◌∙◌, ◌+◌, ℕ, Option, suc, sym, subst, arith}
use Rattle.canvas_task.specs.Text.{Text}
use Rattle.canvas_answer.specs.Raised.{IsShown, AreShown}
use Rattle.canvas_answer.specs.steps.Classes.{class_at}
use Rattle.canvas_answer.proofs.Classes.{got_some}
use Rattle.canvas_answer.proofs.ShownRows.{AreSoFar, none_yet, one_more, all_shown}
use Rattle.canvas_answer.proofs.named_rows.rows_of.Goals as goal

pub loop-state-init : goal.loop-state-init
loop-state-init c =
    let class : ℕ → Option Text = λ k. class_at c.args.classes.now k in
    let ss = c.deref-state-items.result.now in (
      c.deref-state-items.ensures.value ∙ c.get.ensures,
      subst (λ xs. AreSoFar class ss xs 0) (sym c.new-rows.ensures.items) (none_yet class ss),
    )

pub loop-state-preserved : goal.loop-state-preserved
loop-state-preserved c =
    let class : ℕ → Option Text = λ k. class_at c.args.classes.now k in
    let ss = c.deref-state-items.result.now in
    let i = c.loop-state.state-index in
    let rows = c.loop-state.rows.items in
    let so_far = c.loop-state.invariant.1 in
    let place : c.len.result ≡ i = omega (arith, c.len.ensures, so_far.0, c.loop-state.rows.ok.0) in
    let shows : IsShown class (suc i) c.state-item.result c.in_ok-row.row =
    subst (λ n. IsShown class (suc n) c.state-item.result c.in_ok-row.row) place c.in_ok-row.ensures in (
      c.loop-state.invariant.0,
      subst (λ xs. AreSoFar class ss xs (i + 1)) (sym c.in_ok-push.ensures.items)
          (one_more class ss rows c.in_ok-row.row i c.state-item.result so_far
          (got_some ss i c.state-item.result c.loop-state-test.true c.state-item.is) shows),
    )

pub returns : goal.returns
returns c =
    let class : ℕ → Option Text = λ k. class_at c.args.classes.now k in
    let ss = c.deref-state-items.result.now in
    subst (λ xs. AreShown class xs c.loop-state.rows.items) c.loop-state.invariant.0
    (all_shown class ss c.loop-state.rows.items c.loop-state.state-index c.loop-state.invariant.1 c.loop-state-test.false)
