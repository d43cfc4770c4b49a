use Rattle.std.proofs.Common.{rules, string_cmp}
use Rattle.std.specs.BTreeMap.{IsFromIterResult}
use Rattle.std.proofs.lemmas.Result.{IfOk-weaker}
use Rattle.canvas_task.proofs.InOrder.{made_in_order}
use Rattle.canvas_task.proofs.in_order.map_in_order.Goals as goal

pub returns : goal.returns
returns c =
    let es = c.args.entries.items in
    IfOk-weaker c.collect.result (IsFromIterResult string_cmp es) _ (made_in_order es c.requires) (search rules)
