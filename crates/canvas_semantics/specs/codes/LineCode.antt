-- The encoding of lines, as their trees, so that a type may have lines as its value.
use Rattle.std.specs.Prelude.{◌≡◌, refl}
use Rattle.std.proofs.Common.{ap, ap₂}
use Rattle.std.specs.Coded.{Coded, code_by}
use Rattle.canvas_semantics.specs.Tree.{Tree, one, chain, group, chord, Trees, no_trees, and_tree}
use Rattle.canvas_semantics.specs.codes.TreeCode.{tree_code}
use Rattle.canvas_semantics.specs.Line.{Line, stop, step, group_end, chord_end, Lines, no_lines, and_line, elements_of, members_of, tree_of}

-- the line of a line's tree
abbrev mutual
  line_from : Tree → Line
  line_from (chain ts) = elements_from ts
  line_from t = stop

  elements_from : Trees → Line
  elements_from (and_tree (one t) ts) = step t (elements_from ts)
  elements_from (and_tree (group g ms) ts) = group_end g (members_from ms)
  elements_from (and_tree (chord g ms b) ts) = chord_end g (members_from ms) (line_from b)
  elements_from ts = stop

  members_from : Trees → Lines
  members_from no_trees = no_lines
  members_from (and_tree t ts) = and_line (line_from t) (members_from ts)

mutual
  elements_back : (l : Line) → elements_from (elements_of l) ≡ l
  elements_back stop = refl
  elements_back (step t l) = ap (step t) (elements_back l)
  elements_back (group_end g ms) = ap (group_end g) (members_back ms)
  elements_back (chord_end g ms b) = ap₂ (chord_end g) (members_back ms) (elements_back b)

  members_back : (ls : Lines) → members_from (members_of ls) ≡ ls
  members_back no_lines = refl
  members_back (and_line m ms) = ap₂ and_line (elements_back m) (members_back ms)

pub line_back : (l : Line) → line_from (tree_of l) ≡ l
line_back l = elements_back l

abbrev pub line_code : Coded Line
line_code = code_by Tree tree_code tree_of line_from line_back
