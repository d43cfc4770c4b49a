use Rattle.canvas_rewrite.specs.FrozenView.{p_line_view, place_or}
use Rattle.canvas_envelope.specs.MessageView.{place_seen}
use Rattle.canvas_effects.proofs.Begun.{header_made}
use Rattle.canvas_effects.proofs.Sharing.{of_header}
use Rattle.canvas_effects.proofs.effects.started.header_place.Goals as goal

pub written-requires : goal.written-requires
written-requires c =
    of_header c.parts-outer.result.1 (place_or c.args.place) _ c.args.group c.args.size (p_line_view c.args.body)
    (header_made c.args.group c.args.size c.args.body c.in_ok-body.body c.in_ok-body-2.body (place_or c.args.place) (place_seen c.parts-outer.result.0)
    c.parts-outer.ensures.place c.in_ok-body.ensures c.in_ok-body-2.ensures.ok)
    c.parts-outer.ensures.text
