use Rattle.std.proofs.Common.{◌≡◌, ◌∙◌, true, sym, ap, ap₂, subst}
use Rattle.canvas_semantics.specs.PlacedLine.{p_stop}
use Rattle.canvas_envelope.specs.Content.{number_of, place_of}
use Rattle.canvas_envelope.specs.Fits.{fits}
use Rattle.canvas_envelope.specs.MessageView.{place_seen, rest_seen}
use Rattle.canvas_envelope.specs.SharedTexts.{AreTexts}
use Rattle.canvas_effects.specs.Carrying.{place_stands}
use Rattle.canvas_effects.specs.Effects.{part_in, part_of}
use Rattle.canvas_effects.proofs.Ended.{own_place_stands}
use Rattle.canvas_effects.proofs.effects.moved.part_left.Goals as goal

pub take_part-requires-clause-place : goal.take_part-requires-clause-place
take_part-requires-clause-place c =
    let fit : fits c.args.message ≡ true = sym (ap fits c.message.view_is) ∙ c.message.invariant.0 in
    let place : place_seen c.message.inside.place ≡ place_of c.args.message.own = ap (λ z. place_of z.own) c.message.view_is in
    ap place_stands place ∙ own_place_stands c.args.message fit c.requires

pub take_part-requires-clause-texts : goal.take_part-requires-clause-texts
take_part-requires-clause-texts c =
    let last : rest_seen c.message.inside.rest ≡ p_stop = ap (λ z. z.rest) c.message.view_is ∙ c.requires in
    subst (λ r. AreTexts c.message.inside.texts (place_seen c.message.inside.place) r) last c.message.invariant.1

pub returns : goal.returns
returns c =
    let task : c.message.inside.task ≡ number_of c.args.message.own = ap (λ z. number_of z.own) c.message.view_is in
    let place : place_seen c.message.inside.place ≡ place_of c.args.message.own = ap (λ z. place_of z.own) c.message.view_is in
    c.take_part.ensures ∙ ap₂ (λ q k. part_in (part_of q k)) place task
