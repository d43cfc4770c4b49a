use Rattle.std.proofs.Common.{sym}
use Rattle.canvas_sig.proofs.Datums.{array_list}
use Rattle.canvas_sig.proofs.fields.items_or_one.Goals as goal

pub returns-in-List : goal.returns-in-List
returns-in-List c = sym (array_list _ _ c.in-List.is)
