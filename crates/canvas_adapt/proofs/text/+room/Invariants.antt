use Rattle.std.proofs.Common.{◌+◌, ◌*◌}
use Rattle.canvas_adapt.proofs.text.+room.Given as goal

abbrev pub decreases-room_behind : goal.decreases-room_behind
decreases-room_behind l = 2 * l.left

abbrev pub decreases-room_behind_items : goal.decreases-room_behind_items
decreases-room_behind_items l = 2 * l.left + 1

abbrev pub decreases-room_behind_members : goal.decreases-room_behind_members
decreases-room_behind_members l = 2 * l.left + 1
