use Rattle.std.specs.Prelude.{List, ◌∷◌, []}
use Rattle.std.proofs.Crossing.{sync as heap}
use Rattle.std.specs.contracts.alloc.Global as Global
use denote.RattleType.{RattleType}
use denote.Param.{param}
use denote.Param.Send.{sendable, shr_sync}
use Rattle.canvas_backend.specs.contracts.backend.Backend as Backend
use Rattle.canvas_envelope.specs.contracts.letter.Letter as Letter
use Rattle.canvas_broker.specs.contracts.broker.Broker as Broker
use Rattle.canvas_worker.specs.contracts.in_flight.InFlight as InFlight
use Rattle.canvas_worker.specs.contracts.stop.Stop as Stop
use Rattle.canvas_engine.proofs.OnThreads.Crosses.{slot, broker, backend, stop, flight, lent, captured}
use Rattle.canvas_engine.proofs.threads.workers.work_on_threads.Goals as goal

pub for_each_mut-requires-send-T : goal.for_each_mut-requires-send-T
for_each_mut-requires-send-T g c κs within = search (slot, sendable)

-- the closure captures the runtime, the allocator, the broker, the backend, the tasks, the gate, the stop and the count of what is in flight
pub for_each_mut-requires-sync-F : goal.for_each_mut-requires-sync-F
for_each_mut-requires-sync-F g c κs within =
    let captures : List RattleType =
    lent κs.1.1.1.1.1.1.0 (param 0 g.row.R) tt
    ∷ lent κs.1.1.1.1.1.1.1.0 Global.the_row tt
    ∷ lent κs.1.1.1.1.1.1.1.1.0 (Broker.the_row Letter.the_row) tt
    ∷ lent κs.1.1.1.1.1.1.1.1.1.0 Backend.the_row tt
    ∷ lent κs.1.1.1.1.1.1.1.1.1.1.0 (param 1 g.row.T) tt
    ∷ lent κs.1.1.1.1.1.1.1.1.1.1.1.0 (param 2 g.row.G) tt
    ∷ lent κs.1.1.1.1.1.1.1.1.1.1.1.1.0 Stop.the_row tt
    ∷ lent κs.1.1.1.1.1.1.1.1.1.1.1.1.1.0 InFlight.the_row tt
    ∷ [] in
    record {
      shared = (captured captures (
        shr_sync _ _ _ c.type_bounds.sync-R,
        (
          shr_sync _ _ _ heap,
          (
            shr_sync _ _ _ broker,
            (
              shr_sync _ _ _ backend,
              (shr_sync _ _ _ c.type_bounds.sync-T, (shr_sync _ _ _ c.type_bounds.sync-G, (shr_sync _ _ _ stop, (shr_sync _ _ _ flight, tt)))),
            ),
          ),
        ),
      )).shared;
    }
