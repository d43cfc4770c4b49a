-- The ends of a line are those of its tree.
use Rattle.std.proofs.Common.{◌≡◌, ◌∙◌, ◌++◌, refl, ap}
use Rattle.canvas_semantics.specs.Tree.{task}
use Rattle.canvas_semantics.specs.Evaluation.{ends, last_ends, all_ends}
use Rattle.canvas_semantics.specs.Line.{Line, stop, step, group_end, chord_end, Lines, no_lines, and_line, elements_of, members_of, tree_of, ends_of, all_ends_of}

mutual
  same_ends : (l : Line) → ends_of l ≡ last_ends (elements_of l)
  same_ends stop = refl
  same_ends (step (task k call ls es) stop) = refl
  same_ends (step t (step u l)) = same_ends (step u l)
  same_ends (step t (group_end g ms)) = same_all_ends ms
  same_ends (step t (chord_end g ms b)) = same_ends b
  same_ends (group_end g ms) = same_all_ends ms
  same_ends (chord_end g ms b) = same_ends b

  same_all_ends : (ms : Lines) → all_ends_of ms ≡ all_ends (members_of ms)
  same_all_ends no_lines = refl
  same_all_ends (and_line m ms) = ap (λ x. x ++ all_ends_of ms) (same_ends m) ∙ ap (λ x. last_ends (elements_of m) ++ x) (same_all_ends ms)

pub ends_of_tree : (l : Line) → ends_of l ≡ ends (tree_of l)
ends_of_tree l = same_ends l
