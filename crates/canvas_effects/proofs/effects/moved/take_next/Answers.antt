use Rattle.std.proofs.Common.{◌≡◌, ◌∙◌, None, ap, sym, rules}
use Rattle.std.specs.Prelude.{◌==◌}
use Rattle.canvas_rewrite.specs.FrozenView.{p_task_view}
use Rattle.canvas_semantics.specs.PlacedLine.{p_step}
use Rattle.canvas_rewrite.specs.declared.frozen.FrozenLine.{out-FrozenLine}
use Rattle.canvas_effects.proofs.Copied.{made_of}
use Rattle.canvas_effects.proofs.Walked.{first_taken, last_taken, none_begins}
use Rattle.canvas_effects.proofs.effects.moved.take_next.Goals as goal

pub returns-then-is_empty : goal.returns-then-is_empty
returns-then-is_empty c =
    none_begins c.args.line c.into_plain-tasks.result.items c.into_plain-tasks.ensures
    (ap (λ n. n == 0) (sym c.into_plain-tasks.result.ok.0) ∙ sym c.is_empty.ensures ∙ c.if-is_empty.true)

pub returns-then-is_none : goal.returns-then-is_none
returns-then-is_none c =
    let none : (out-FrozenLine c.args.line).tail ≡ None = search rules in
    last_taken c.args.line c.into_plain-tasks.result.items c.remove-next.new.self.items c.remove-next.result c.into_plain-tasks.ensures
    (ap (λ n. n == 0) (sym c.into_plain-tasks.result.ok.0) ∙ sym c.is_empty.ensures ∙ c.if-is_empty.false)
    c.remove-next.ensures.value c.remove-next.ensures.by_index.2
    (ap (λ n. n == 0) (sym c.remove-next.new.self.ok.0) ∙ sym c.is_empty-2.ensures ∙ c.if-is_empty-2.true) none

pub returns : goal.returns
returns c =
    first_taken c.args.line c.into_plain-tasks.result.items c.of-tasks.result c.remove-next.result c.into_plain-tasks.ensures
    (ap (λ n. n == 0) (sym c.into_plain-tasks.result.ok.0) ∙ sym c.is_empty.ensures ∙ c.if-is_empty.false)
    c.remove-next.ensures.value (c.of-tasks.ensures ∙ c.remove-next.ensures.by_index.2)
    ∙ ap (p_step (p_task_view c.remove-next.result)) (sym (made_of c.of-tasks.result (out-FrozenLine c.args.line).tail))
