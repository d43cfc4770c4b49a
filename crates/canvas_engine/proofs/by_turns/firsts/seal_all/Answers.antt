use Rattle.std.proofs.Common.{◌≡◌, ◌∷◌, rules}
use Rattle.canvas_engine.proofs.ByTurns.Portions.{message_sealed, message_read}
use Rattle.canvas_engine.specs.steps.TurnRuns.{ReadsAs}
use Rattle.canvas_engine.proofs.by_turns.firsts.seal_all.Goals as goal

pub loop-message-preserved : goal.loop-message-preserved
loop-message-preserved c =
    let l = c.loop-message in
    let left = l.message-iterator.rest.items in
    let others = c.next.new.self.rest.items in
    let split : left ≡ c.in-Some.message ∷ others = search rules in (
      message_sealed l.envelopes.items c.push.new.self.items c.in_ok-envelope.envelope c.in-Some.message left others _ l.invariant.0 split
          c.in_ok-push.ensures.items c.in_ok-envelope.ensures.value,
      message_read ReadsAs left c.in-Some.message others l.invariant.1 split c.in_ok-envelope.ensures.back,
    )
