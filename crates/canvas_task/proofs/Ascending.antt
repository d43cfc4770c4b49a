-- The names of a map's entries ascend.
use Rattle.std.proofs.Common.{◌≡◌, List, [], ◌∷◌, Less, String, Global, string_bytes, string_cmp}
use Rattle.std.specs.List.{AllByRecursion}
use Rattle.std.specs.List.Sorted.{IsStrictlySortedBy}
use Rattle.std.specs.Map.{keys_of}
use Rattle.canvas_task.specs.Entries.{named, IsBelow, Ascends}

below_named : {T : Type 0} (k : String Global) (es : List (String Global × T)) → AllByRecursion (λ l. string_cmp k l ≡ Less) (keys_of es)
    → IsBelow (string_bytes k) (named es)
below_named k [] h = tt
below_named k (e ∷ es) h = (h.0, below_named k es h.1)

pub named_ascend : {T : Type 0} (es : List (String Global × T)) → IsStrictlySortedBy string_cmp (keys_of es) → Ascends (named es)
unfolding IsStrictlySortedBy
named_ascend [] h = tt
named_ascend (e ∷ es) h = (below_named e.0 es h.0, named_ascend es h.1)
