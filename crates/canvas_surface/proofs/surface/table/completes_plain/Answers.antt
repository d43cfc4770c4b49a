use Rattle.canvas_surface.proofs.Kept.{has_outcome, store_keeps, part_keeps}
use Rattle.canvas_surface.proofs.surface.table.completes_plain.Goals as goal

pub part-requires-clause-stored : goal.part-requires-clause-stored
part-requires-clause-stored c = has_outcome _ _ _ _ _ c.store-stored.ensures

pub part-requires-clause-free : goal.part-requires-clause-free
part-requires-clause-free c = store_keeps _ _ _ _ _ c.args.task c.store-stored.ensures c.requires

pub returns : goal.returns
returns c = λ t apart free. part_keeps _ _ _ _ _ t apart c.part.ensures (store_keeps _ _ _ _ _ t c.store-stored.ensures free)
