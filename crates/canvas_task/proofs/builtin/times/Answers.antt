use Rattle.canvas_task.proofs.Products.{widened, product_fits, product_is}
use Rattle.canvas_task.proofs.builtin.times.Goals as goal

pub overflow_mul-result : goal.overflow_mul-result
overflow_mul-result c =
    product_fits c.args.x c.args.y _ _ c.ranges.x c.ranges.y (widened c.args.x c.from.result c.ranges.x c.from.ensures)
    (widened c.args.y c.from-2.result c.ranges.y c.from-2.ensures)

pub returns : goal.returns
returns c =
    product_is c.args.x c.args.y _ _ c.ranges.x c.ranges.y (widened c.args.x c.from.result c.ranges.x c.from.ensures)
    (widened c.args.y c.from-2.result c.ranges.y c.from-2.ensures)
