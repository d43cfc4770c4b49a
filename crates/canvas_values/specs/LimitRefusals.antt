-- The refusals of a whole canvas: a group nested in a group, too deep, too many. They are this
-- project's own.
use Rattle.std.specs.Prelude.{if◌then◌else◌, Option, Some, None}
use Rattle.canvas_values.specs.declared.fault.SigFault.{SigFault}
use Rattle.canvas_values.specs.declared.fault.SigFault.TheVariants.{NestedGroup, TooDeep, TooMany}
use Rattle.canvas_semantics.specs.Tree.{Tree}
use Rattle.canvas_semantics.specs.Bounds.{nests_group, is_too_deep, is_too_many}

-- the first refusal of a canvas whose signatures have no faults
abbrev pub tree_fault : Tree → Option SigFault
tree_fault c =
    if nests_group c then Some NestedGroup
    else (if is_too_deep c then Some TooDeep
    else (if is_too_many c then Some TooMany else None))
