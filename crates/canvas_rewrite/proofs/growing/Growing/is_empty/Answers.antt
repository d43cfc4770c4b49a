use Rattle.std.proofs.Common.{◌≡◌, ◌∙◌, ◌==◌, ap, sym, not, arith, true≢false, length, vec_len}
use Rattle.canvas_rewrite.proofs.GrowingLines.{some_tail, no_tail}
use Rattle.canvas_rewrite.proofs.growing.Growing.is_empty.Goals as goal

pub returns-then-is_none : goal.returns-then-is_none
returns-then-is_none c =
    let v = c.args.self.now.tasks in
    let counted : vec_len v ≡ length v.items = omega (arith, v.ok.0) in
    no_tail v.items _ _ (c.is_none.ensures ∙ ap not c.if-is_none.true) (c.is_empty.ensures ∙ ap (λ n. n == 0) counted)

pub returns-else-is_none : goal.returns-else-is_none
returns-else-is_none c = (
  λ never. absurd (true≢false (sym never ∙ c.if-is_none.false)),
  λ e. absurd (some_tail c.args.self.now.tasks.items _ (c.is_none.ensures ∙ ap not c.if-is_none.false) e),
)
