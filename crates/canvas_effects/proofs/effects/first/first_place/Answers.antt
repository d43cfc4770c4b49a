use Rattle.std.proofs.Common.{◌∙◌, arith, ap}
use Rattle.std.proofs.lemmas.Result.{IfOk-weaker}
use Rattle.canvas_semantics.specs.PlacedLine.{p_nowhere, p_chord}
use Rattle.canvas_rewrite.specs.declared.frozen.FrozenEnd.{out-FrozenEnd}
use Rattle.canvas_effects.specs.Placing.{placed}
use Rattle.canvas_effects.proofs.Begun.{fits_size, header_is, group_is}
use Rattle.canvas_effects.proofs.effects.first.first_place.Goals as goal

pub overflow_cast-size : goal.overflow_cast-size
overflow_cast-size c = omega (
  arith,
  c.len-size.ensures,
  c.get.result.now.ok.0,
  fits_size c.args.end.now c.in-Some.body _ _ c.in-Some.is c.get.ensures c.requires,
)

pub returns-in_ok-body-in-Some : goal.returns-in_ok-body-in-Some
returns-in_ok-body-in-Some c =
    IfOk-weaker c.header_place.result _ _
    (λ d is. is ∙ ap (λ l. p_chord (out-FrozenEnd c.args.end.now).group c.len-size.result (placed p_nowhere l)) c.in_ok-body-in-Some.ensures
    ∙ header_is c.args.end.now c.in-Some.body p_nowhere c.get.result.now.items c.len-size.result c.in-Some.is c.get.ensures
    (omega (arith, c.len-size.ensures, c.get.result.now.ok.0)))
    c.header_place.ensures

pub returns-in-None : goal.returns-in-None
returns-in-None c =
    IfOk-weaker c.group_place.result _ _ (λ d is. is ∙ group_is c.args.end.now p_nowhere c.in-None.is) c.group_place.ensures
