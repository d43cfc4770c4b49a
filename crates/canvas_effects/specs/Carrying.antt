-- The places that a message can carry for the end of its line (the embed of Celery's task message
-- protocol, version 2), and the lines that can be walked.
use Rattle.std.specs.Prelude.{◌≡◌, suc, Bool, true, false, ◌&&◌, ◌||◌, nat_le, List, [], ◌∷◌}
use Rattle.std.specs.List.{list_all}
use Rattle.canvas_task.specs.Numbers.{in_range}
use Rattle.canvas_semantics.specs.Bounds.{most_reach}
use Rattle.canvas_rewrite.specs.FrozenView.{PCarried}
use Rattle.canvas_semantics.specs.PlacedLine.{PLine, PPlace, PTasks, p_chord}
use Rattle.canvas_envelope.specs.Fits.{is_task_number, size_ok, tasks_ok, place_ok, place_reach, tasks_reach, line_ok, line_reach}
use Rattle.canvas_effects.specs.Flowing.{Input, no_input, number_input, list_input, id_input}
use Rattle.canvas_effects.specs.Placing.{placed}

-- a line that can be in a message, and one that can if its end goes to p
abbrev pub is_whole : PLine → Bool
is_whole l = line_ok true l && nat_le (line_reach 0 l) most_reach

-- the line of a member, or one that can be in a message
abbrev pub is_walkable : PLine → Bool
is_walkable l = line_ok false l || line_ok true l

abbrev pub can_stand : PLine → PPlace → Bool
can_stand l p = is_whole (placed p l)

-- the parts of a message's own task: its callbacks, and its place
abbrev pub callbacks_ok : PTasks → Bool
callbacks_ok ts = tasks_ok ts && nat_le (suc (tasks_reach ts)) most_reach

abbrev pub place_stands : PPlace → Bool
place_stands p = place_ok true p && nat_le (suc (place_reach p)) most_reach

-- the size and body that a chord's place carries
abbrev pub carried_ok : PCarried → Bool
carried_ok c =
    size_ok c.size && line_ok true c.body && nat_le (suc (line_reach 0 c.body)) most_reach

-- a place with this size and body, for any chord
abbrev pub carrying_place : PCarried → PPlace
carrying_place c = p_chord 0 c.size c.body

abbrev pub input_ok : Input → Bool
input_ok no_input = true
input_ok (number_input n) = in_range n
input_ok (list_input ns) = list_all in_range ns
input_ok (id_input k) = is_task_number k

-- each of some lines is whole
abbrev pub AllWhole : List PLine → Type 0
AllWhole [] = Unit {0}
AllWhole (l ∷ ls) = (is_whole l ≡ true) × AllWhole ls

abbrev pub AllStand : PPlace → List PLine → Type 0
AllStand p [] = Unit {0}
AllStand p (l ∷ ls) = (can_stand l p ≡ true) × AllStand p ls
