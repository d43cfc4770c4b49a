use Rattle.std.proofs.Common.{◌≡◌, ◌++◌, All, map, length}
use Rattle.std.specs.List.{slice_split}
use denote.Text.{Utf8}
use denote.Shadow.{shadow}
use Rattle.canvas_runs.specs.CommaList.{is_comma}
use Rattle.canvas_runs.proofs.comma_list.read_pieces.Given as goal

-- the items so far, and the pieces still to come
abbrev pub invariant-loop-first : goal.invariant-loop-first
invariant-loop-first g l =
    shadow (Utf8 l.rest) × All (g.R.ItemReader.is_item l.reader) l.items.items
    × (slice_split is_comma l.text ≡ map g.R.ItemReader.item_text l.items.items ++ slice_split is_comma l.rest)

abbrev pub decreases-loop-first : goal.decreases-loop-first
decreases-loop-first g l = length l.rest
