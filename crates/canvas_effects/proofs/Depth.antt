-- The number of groups and chords of a line, which decreases in a walk of a consumed line.
use Rattle.std.proofs.Common.{◌≡◌, ℕ, suc, ◌+◌, ◌≤◌, arith, List, [], ◌∷◌, map, Option, Some, None, refl, ap}
use Rattle.canvas_semantics.specs.PlacedLine.{PLine, p_stop, p_step, p_group_end, p_chord_end, PLines, no_p_lines, and_p_line}
use Rattle.canvas_rewrite.specs.FrozenView.{p_lines_of, p_line_view, p_end_view}
use Rattle.canvas_rewrite.specs.declared.frozen.FrozenLine.{FrozenLine}
use Rattle.canvas_rewrite.specs.declared.frozen.FrozenEnd.{FrozenEnd, out-FrozenEnd}
use Rattle.canvas_envelope.proofs.Seen.{end_none, end_some}

abbrev mutual
  pub ends_in : PLine → ℕ
  ends_in p_stop = 0
  ends_in (p_step t l) = ends_in l
  ends_in (p_group_end g ms) = suc (ends_in_lines ms)
  ends_in (p_chord_end g ms body) = suc (ends_in_lines ms + ends_in body)

  pub ends_in_lines : PLines → ℕ
  ends_in_lines no_p_lines = 0
  ends_in_lines (and_p_line m ms) = ends_in m + ends_in_lines ms

abbrev pub ends_in_all : List PLine → ℕ
ends_in_all [] = 0
ends_in_all (l ∷ ls) = ends_in l + ends_in_all ls

all_ends : (ls : List PLine) → ends_in_lines (p_lines_of ls) ≡ ends_in_all ls
all_ends [] = refl
all_ends (l ∷ ls) = ap (λ n. ends_in l + n) (all_ends ls)

by_body : (t : FrozenEnd) (o : Option FrozenLine) → (out-FrozenEnd t).body ≡ o
    → suc (ends_in_all (map p_line_view (out-FrozenEnd t).members)) ≤ ends_in (p_end_view t)
by_body t None e = omega (arith, ap ends_in (end_none t e), all_ends (map p_line_view (out-FrozenEnd t).members))
by_body t (Some b) e = omega (arith, ap ends_in (end_some t b e), all_ends (map p_line_view (out-FrozenEnd t).members))

pub members_below : (t : FrozenEnd) (ms : List FrozenLine) → ms ≡ (out-FrozenEnd t).members → suc (ends_in_all (map p_line_view ms)) ≤ ends_in (p_end_view t)
members_below t ms same = omega (arith, by_body t (out-FrozenEnd t).body refl, ap (λ ls. ends_in_all (map p_line_view ls)) same)

pub body_below : (t : FrozenEnd) (b : FrozenLine) → (out-FrozenEnd t).body ≡ Some b → suc (ends_in (p_line_view b)) ≤ ends_in (p_end_view t)
body_below t b some = omega (arith, ap ends_in (end_some t b some))
