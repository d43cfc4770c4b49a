use Rattle.std.specs.Prelude.{List, ◌∷◌, []}
use Rattle.std.proofs.Crossing.{crosses, send as heap}
use Rattle.std.specs.contracts.alloc.Global as Global
use denote.RattleType.{RattleType}
use denote.Param.{param}
use denote.Param.Send.{sendable, param_send, shr_send}
use Rattle.canvas_envelope.proofs.Crosses.{letter}
use Rattle.canvas_envelope.specs.contracts.letter.Letter as Letter
use Rattle.canvas_broker.specs.contracts.broker.Broker as Broker
use Rattle.canvas_broker.specs.contracts.pass.BrokerPass as BrokerPass
use Rattle.canvas_broker.proofs.Crosses.{pass, broker, lent, captured}
use Rattle.canvas_surface.proofs.queues.trade_twice.Goals as goal
use Rattle.canvas_surface.proofs.queues.trade_twice.Lts as types

-- the closure captures the runtime, the allocator, the broker and a pass
pub join-one-requires-send-F : goal.join-one-requires-send-F
join-one-requires-send-F g c κs within =
    let captures : List RattleType =
    lent _ (param 0 g.row.R) tt ∷ Global.the_row ∷ lent _ (Broker.the_row Letter.the_row) tt ∷ BrokerPass.the_row Letter.the_row ∷ [] in
    let all =
    captured captures (shr_send _ _ _ c.type_bounds.sync-R, (heap, (shr_send _ _ _ (broker Letter.the_row letter), (pass Letter.the_row letter, tt)))) in
    param_send 1 (types.arg-9-1 g.row.R g.R.laws g.R.Threads-dict g.R.Wait-dict κs) record {
      owned = all.owned;
      leaving = all.leaving;
    }

pub join-one-requires-send-A : goal.join-one-requires-send-A
join-one-requires-send-A g c κs within = search (pass, letter, sendable, crosses) depth 20
