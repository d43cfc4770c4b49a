use Rattle.std.proofs.Common.{◌∙◌, sym}
use Rattle.canvas_sig.proofs.Datums.{array_is_empty}
use Rattle.canvas_sig.proofs.fields.is_empty_value.Goals as goal

pub returns-in-List : goal.returns-in-List
returns-in-List c = c.is_empty.ensures ∙ sym (array_is_empty _ _ c.in-List.is)
