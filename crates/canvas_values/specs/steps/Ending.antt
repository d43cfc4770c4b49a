-- Whether a line ends in a group, if none of its groups and headers has a member that does.
use Rattle.std.specs.Prelude.{Bool, false, not, if◌then◌else◌, List, [], ◌∷◌, Option, Some, None}
use Rattle.std.specs.Option.{option_and_then}
use Rattle.canvas_semantics.specs.Tree.{Tree, ends_in_group}
use Rattle.canvas_semantics.specs.Bounds.{nests_group}

abbrev pub ending : Tree → Option Bool
ending t = if nests_group t then None else Some (ends_in_group t)

-- the ending of a chain is that of its last element, or `before` if it has none
abbrev pub last_ending : Bool → List Tree → Option Bool
last_ending before [] = Some before
last_ending before (t ∷ ts) = option_and_then (λ e. last_ending e ts) (ending t)

-- whether a member with this ending ends in a task
abbrev pub ends_in_task : Option Bool → Bool
ends_in_task None = false
ends_in_task (Some b) = not b
