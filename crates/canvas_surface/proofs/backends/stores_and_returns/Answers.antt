use Rattle.std.proofs.Common.{ap}
use Rattle.canvas_history.specs.Table.{was}
use Rattle.canvas_backend.proofs.Stands.{first_stood}
use Rattle.canvas_surface.proofs.backends.stores_and_returns.Goals as goal

pub part-requires-clause-stored : goal.part-requires-clause-stored
part-requires-clause-stored c = (first_stood c.args.backend.now.plan _ _ _ _ _ (ap was c.in-First.is) c.store.ensures.call).own

pub part-requires-clause-free : goal.part-requires-clause-free
part-requires-clause-free c = (first_stood c.args.backend.now.plan _ _ _ _ _ (ap was c.in-First.is) c.store.ensures.call).free
