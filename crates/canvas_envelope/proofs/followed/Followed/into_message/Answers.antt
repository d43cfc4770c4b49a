use Rattle.std.proofs.Common.{◌≡◌, ◌∙◌, sym, ap, ap₂, subst}
use Rattle.canvas_rewrite.specs.FrozenView.{p_line_view}
use Rattle.canvas_rewrite.specs.declared.frozen.FrozenLine.{roll-FrozenLine}
use Rattle.canvas_semantics.specs.PlacedLine.{PLine}
use Rattle.canvas_envelope.specs.Content.{place_of}
use Rattle.canvas_envelope.specs.Fits.{fits}
use Rattle.canvas_envelope.specs.SharedTexts.{AreTexts}
use Rattle.canvas_envelope.specs.steps.Lines.{line_by, followed_by}
use Rattle.canvas_envelope.proofs.Apart.{line_made}
use Rattle.canvas_envelope.proofs.followed.Followed.into_message.Goals as goal

pub invariant_of-result : goal.invariant_of-result
invariant_of-result c =
    let tail = c.self.inside.tail in
    let texts = c.self.inside.texts in
    let rest : PLine = line_by c.self.inside.tasks.items tail in
    let line : p_line_view (roll-FrozenLine (record { tasks = c.of-tasks.result; tail = tail })) ≡ rest =
    line_made c.of-tasks.result tail ∙ ap (λ ts. line_by ts tail) (c.of-tasks.ensures ∙ c.from.ensures.0) in (
      ap fits (ap₂ followed_by c.message.view_is line) ∙ c.self.invariant.0,
      subst (AreTexts texts _) (sym line) (subst (λ p. AreTexts texts p rest) (sym (ap (λ z. place_of z.own) c.message.view_is)) c.self.invariant.1),
    )

pub returns : goal.returns
returns c =
    let tail = c.self.inside.tail in
    ap₂ followed_by c.message.view_is (line_made c.of-tasks.result tail ∙ ap (λ ts. line_by ts tail) (c.of-tasks.ensures ∙ c.from.ensures.0)) ∙ c.self.view_is
