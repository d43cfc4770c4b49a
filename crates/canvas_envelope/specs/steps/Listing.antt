-- The part of a line that is written, from its last element.
use Rattle.std.specs.Prelude.{◌≡◌, ◌==◌, ◌++◌, ℕ, List, length, reverse}
use Rattle.std.specs.Str.{IsUtf8}
use Rattle.canvas_semantics.specs.PlacedLine.{PLine, p_stop, p_step, p_group_end, p_chord_end}
use Rattle.canvas_envelope.specs.SharedTexts.{AreEnds, IsListed, backwards}
use Rattle.canvas_envelope.specs.steps.Parts.{is_stop}

-- the group or chord that a line ends in
abbrev pub tail_line : PLine → PLine
tail_line p_stop = p_stop
tail_line (p_step t l) = tail_line l
tail_line (p_group_end g ms) = p_group_end g ms
tail_line (p_chord_end g ms b) = p_chord_end g ms b

-- the last element of a line
abbrev pub last_line : PLine → PLine
last_line p_stop = p_stop
last_line (p_step t p_stop) = p_step t p_stop
last_line (p_step t l) = last_line l
last_line (p_group_end g ms) = p_group_end g ms
last_line (p_chord_end g ms b) = p_chord_end g ms b

-- with the head, the text is that of the line, and each of its elements has an end
pub record Listing (head text ends : List ℕ) (l : PLine) : Type 0 where
  pub listed : IsListed (head ++ text) (backwards l)
  pub utf8 : IsUtf8 text
  pub ended : AreEnds head text (reverse ends) l
  pub none : (length ends == 0) ≡ is_stop l
