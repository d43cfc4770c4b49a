use Rattle.canvas_surface.proofs.Kept.{store_keeps}
use Rattle.canvas_surface.proofs.surface.table.keeps_plain.Goals as goal

pub returns-then-eq-2 : goal.returns-then-eq-2
returns-then-eq-2 c = λ t free. store_keeps _ _ _ _ _ t c.store-stored.ensures free

pub returns-else-eq-2 : goal.returns-else-eq-2
returns-else-eq-2 c = λ t free. store_keeps _ _ _ _ _ t c.store-stored.ensures free
