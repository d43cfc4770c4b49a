-- A plan as the proofs have it: its line, by its members' last tasks.
use Rattle.std.proofs.Common.{◌≡◌, ℕ, suc, ◌+◌, true, false, List, [], ◌∷◌, ◌++◌, refl, ap₂, subst, ◌∙◌, arith}
use Rattle.canvas_semantics.specs.FileOrder.{EndsInTask}
use Rattle.canvas_semantics.specs.FileOrder as order_of
use Rattle.canvas_rewrite.proofs.InOrder.{plan_in_order}
use Rattle.canvas_semantics.specs.Line.{Line, stop, step, group_end, chord_end, Lines, no_lines, and_line, no_of, count_line, members, ends_of, all_ends_of}
use Rattle.canvas_rewrite.specs.Planned.{IsPlan}
use Rattle.canvas_runs.proofs.Plans.Canvas.{Plan}
use Rattle.canvas_runs.proofs.Plans.FileOrder.{LineIn, LinesIn}
use Rattle.canvas_runs.proofs.Plans.Messages.{last_from, lasts}

mutual
  pub one_end : (l : Line) (k : ℕ) → EndsInTask false l → ends_of l ≡ last_from k l ∷ []
  one_end stop k e = absurd (let bad : false ≡ true = e in cc)
  one_end (step t l) k e = end_behind t l e
  one_end (group_end g ms) k e = elim e [ ]
  one_end (chord_end g ms b) k e = one_end b 0 e

  end_behind : (t : _) (l : Line) → EndsInTask true l → ends_of (step t l) ≡ last_from (no_of t) l ∷ []
  end_behind t stop e = refl
  end_behind t (step u l) e = end_behind u l e
  end_behind t (group_end g ms) e = elim e [ ]
  end_behind t (chord_end g ms b) e = one_end b 0 e

module _ (table : ℕ → List ℕ) where
  all_ends : (ms : Lines) (low high : ℕ) → order_of.LinesIn table ms low high → all_ends_of ms ≡ lasts ms
  all_ends no_lines low high n = refl
  all_ends (and_line m ms) low high (middle, i, e, j) = ap₂ (λ a b. a ++ b) (one_end m 0 e) (all_ends ms middle high j)

  mutual
    pub line_in : (l : Line) (low high : ℕ) → order_of.LineIn table l low high → LineIn table l low high
    line_in stop low high n = n
    line_in (step t l) low high (middle, i, j) = (middle, i, line_in l middle high j)
    line_in (group_end g ms) low high n = (lines_in ms low high n.0, n.1 ∙ all_ends ms low high n.0)
    line_in (chord_end g ms b) low high (middle, i, j, e) = (middle, lines_in ms low middle i, line_in b middle high j, e ∙ all_ends ms low middle i)

    lines_in : (ms : Lines) (low high : ℕ) → order_of.LinesIn table ms low high → LinesIn table ms low high
    lines_in no_lines low high n = n
    lines_in (and_line m ms) low high (middle, i, e, j) = (middle, line_in m low middle i, e, lines_in ms middle high j)

pub plan_numbered : (l : Line) → IsPlan l → LineIn (members l) l 1 (suc (count_line l))
plan_numbered l plan = subst (LineIn (members l) l 1) (omega arith) (line_in (members l) l 1 (1 + count_line l) (plan_in_order l plan))

abbrev pub plan_of : (l : Line) → IsPlan l → Plan
plan_of l plan = record {
  line = l;
  members = members l;
  limit = suc (count_line l);
  numbered = plan_numbered l plan;
}
