-- The chords whose headers start at once with a line, each with its number of members.
use Rattle.std.specs.Prelude.{ℕ, List, [], ◌∷◌, ◌++◌}
use Rattle.canvas_semantics.specs.PlacedLine.{PLine, p_stop, p_step, p_group_end, p_chord_end, PLines, no_p_lines, and_p_line}
use Rattle.canvas_envelope.specs.Fits.{how_many}

-- an empty header starts the body at once
abbrev pub chord_sizes : ℕ → (header : PLines) → (of_header of_body : List (ℕ × ℕ)) → List (ℕ × ℕ)
chord_sizes g no_p_lines h b = b
chord_sizes g (and_p_line m ms) h b = (g, how_many (and_p_line m ms)) ∷ h

abbrev mutual
  pub starting : PLine → List (ℕ × ℕ)
  starting p_stop = []
  starting (p_step t l) = []
  starting (p_group_end g ms) = all_starting ms
  starting (p_chord_end g ms b) = chord_sizes g ms (all_starting ms) (starting b)

  pub all_starting : PLines → List (ℕ × ℕ)
  all_starting no_p_lines = []
  all_starting (and_p_line m ms) = starting m ++ all_starting ms
