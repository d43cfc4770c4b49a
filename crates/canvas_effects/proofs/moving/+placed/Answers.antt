use Rattle.std.proofs.Common.{◌∙◌, sym, ap, refl}
use Rattle.canvas_rewrite.specs.declared.frozen.FrozenLine.{out-FrozenLine}
use Rattle.canvas_effects.specs.Placing.{placed}
use Rattle.canvas_envelope.specs.MessageView.{place_seen}
use Rattle.canvas_effects.proofs.Copied.{longer_placed, line_parts}
use Rattle.canvas_effects.proofs.moving.+placed.Goals as goal

pub into_placed-returns-in_ok-tail-in-Some : goal.into_placed-returns-in_ok-tail-in-Some
into_placed-returns-in_ok-tail-in-Some t c =
    longer_placed (place_seen c.args.place) (out-FrozenLine c.args.line).tail c.in-Some.end c.in-Some.is _ _ _ _ _ refl
    c.into_inner.ensures c.in_ok-end-in-Some.ensures c.in_ok-tail-in-Some.ensures.ok
    ∙ sym (ap (placed (place_seen c.args.place)) (line_parts c.args.line))
