use Rattle.canvas_envelope.proofs.Rings.{ring_on}
use Rattle.canvas_envelope.proofs.nested_text.share_rings.Goals as goal

pub loop-ring-preserved : goal.loop-ring-preserved
loop-ring-preserved c =
    ring_on c.args.rings.now c.loop-ring.ring-index c.ring-item.result c.in_ok-share.field-0 _ _ _ c.loop-ring-test.true c.ring-item.is
    c.in_ok-share.ensures c.loop-ring.invariant c.in_ok-push.ensures.items
