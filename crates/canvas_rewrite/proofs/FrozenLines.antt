-- What a line and its end count and number, by their parts.
use Rattle.std.proofs.Common.{◌≡◌, ◌∙◌, ◌≤◌, ℕ, ◌+◌, List, map, Option, Some, None, Box, Global, refl, sym, ap, arith}
use Rattle.canvas_semantics.specs.Tree.{Task}
use Rattle.canvas_values.specs.SignatureView.{task_view}
use Rattle.canvas_semantics.specs.Line.{Line, stop, count_line, count_lines, line_groups, lines_groups, number_line}
use Rattle.canvas_semantics.specs.PlacedLine.{p_stop, p_group_end, p_chord_end, bare}
use Rattle.canvas_rewrite.specs.FrozenView.{lines_of, line_of, end_of, p_steps, p_lines_of}
use Rattle.canvas_semantics.specs.steps.Numbering.{tasks_from, tasks_in, lines_from, lines_count, lines_group_count}
use Rattle.canvas_rewrite.specs.declared.line.Line as line
use Rattle.canvas_rewrite.specs.declared.line.Line.{out-Line}
use Rattle.canvas_rewrite.specs.declared.line.LineEnd.{LineEnd, out-LineEnd}
use Rattle.canvas_rewrite.proofs.FrozenViews.{line_none, line_some, end_none, end_some, in_lines, in_entries, lines_numbered, count_steps, groups_steps, steps_numbered}

-- ---- a line

module _ (l : line.Line) where
  abbrev its_tasks : List Task
  its_tasks = map task_view (out-Line l).tasks

  module _ (e : (out-Line l).tail ≡ None) where
    pub count_none : count_line (line_of l) ≡ tasks_in (map task_view (out-Line l).tasks)
    count_none = ap count_line (line_none l e) ∙ count_steps its_tasks stop ∙ omega arith

    pub groups_none : line_groups (line_of l) ≡ 0
    groups_none = ap line_groups (line_none l e) ∙ groups_steps its_tasks stop

    pub numbered_none : (k g : ℕ) → bare (number_line k g (line_of l)) ≡ p_steps (tasks_from k (map task_view (out-Line l).tasks)) p_stop
    numbered_none k g = ap (λ x. bare (number_line k g x)) (line_none l e) ∙ steps_numbered k g its_tasks stop

  module _ (b : Box LineEnd Global) (e : (out-Line l).tail ≡ Some b) where
    pub count_some : count_line (line_of l) ≡ tasks_in (map task_view (out-Line l).tasks) + count_line (end_of b.value)
    count_some = ap count_line (line_some l b e) ∙ count_steps its_tasks (end_of b.value)

    pub groups_some : line_groups (line_of l) ≡ line_groups (end_of b.value)
    groups_some = ap line_groups (line_some l b e) ∙ groups_steps its_tasks (end_of b.value)

    pub numbered_some : (k g : ℕ) → bare (number_line k g (line_of l))
        ≡ p_steps (tasks_from k (map task_view (out-Line l).tasks)) (bare (number_line (k + tasks_in (map task_view (out-Line l).tasks)) g (end_of b.value)))
    numbered_some k g = ap (λ x. bare (number_line k g x)) (line_some l b e) ∙ steps_numbered k g its_tasks (end_of b.value)

tasks_by : (l : line.Line) (o : Option (Box LineEnd Global)) → (out-Line l).tail ≡ o → tasks_in (map task_view (out-Line l).tasks) ≤ count_line (line_of l)
tasks_by l None e = omega (arith, count_none l e)
tasks_by l (Some b) e = omega (arith, count_some l b e)

pub tasks_fit : (l : line.Line) → tasks_in (map task_view (out-Line l).tasks) ≤ count_line (line_of l)
tasks_fit l = tasks_by l (out-Line l).tail refl

-- ---- an end

module _ (t : LineEnd) where
  abbrev its_members : List Line
  its_members = map line_of (out-LineEnd t).members

  module _ (e : (out-LineEnd t).body ≡ None) where
    pub end_count_none : count_line (end_of t) ≡ lines_count (map line_of (out-LineEnd t).members)
    end_count_none = ap count_line (end_none t e) ∙ in_lines its_members

    pub end_groups_none : line_groups (end_of t) ≡ 1 + lines_group_count (map line_of (out-LineEnd t).members)
    end_groups_none = ap line_groups (end_none t e) ∙ ap (λ n. 1 + n) (in_entries its_members)

    pub end_numbered_none : (k g : ℕ)
        → bare (number_line k g (end_of t)) ≡ p_group_end g (p_lines_of (lines_from k (g + 1) (map line_of (out-LineEnd t).members)))
    end_numbered_none k g = ap (λ x. bare (number_line k g x)) (end_none t e) ∙ ap (p_group_end g) (sym (lines_numbered k (g + 1) its_members))

  module _ (b : line.Line) (e : (out-LineEnd t).body ≡ Some b) where
    pub end_count_some : count_line (end_of t) ≡ lines_count (map line_of (out-LineEnd t).members) + count_line (line_of b)
    end_count_some = ap count_line (end_some t b e) ∙ ap (λ n. n + count_line (line_of b)) (in_lines its_members)

    pub end_groups_some : line_groups (end_of t) ≡ 1 + lines_group_count (map line_of (out-LineEnd t).members) + line_groups (line_of b)
    end_groups_some = ap line_groups (end_some t b e) ∙ ap (λ n. 1 + n + line_groups (line_of b)) (in_entries its_members)

    pub end_numbered_some : (k g : ℕ) → bare (number_line k g (end_of t))
        ≡ p_chord_end g (p_lines_of (lines_from k (g + 1) (map line_of (out-LineEnd t).members)))
        (bare (number_line (k + lines_count (map line_of (out-LineEnd t).members)) (g + 1 + lines_group_count (map line_of (out-LineEnd t).members))
        (line_of b)))
    end_numbered_some k g =
        ap (λ x. bare (number_line k g x)) (end_some t b e)
        ∙ ap (λ ms. p_chord_end g ms (bare (number_line (k + count_lines (lines_of its_members)) (g + 1 + lines_groups (lines_of its_members)) (line_of b))))
        (sym (lines_numbered k (g + 1) its_members))
        ∙ ap (λ n. p_chord_end g (p_lines_of (lines_from k (g + 1) its_members))
        (bare (number_line (k + n) (g + 1 + lines_groups (lines_of its_members)) (line_of b)))) (in_lines its_members)
        ∙ ap (λ n. p_chord_end g (p_lines_of (lines_from k (g + 1) its_members)) (bare (number_line (k + lines_count its_members) (g + 1 + n) (line_of b))))
        (in_entries its_members)

members_by : (t : LineEnd) (o : Option line.Line) → (out-LineEnd t).body ≡ o
    → (lines_count (map line_of (out-LineEnd t).members) ≤ count_line (end_of t))
    × (1 + lines_group_count (map line_of (out-LineEnd t).members) ≤ line_groups (end_of t))
members_by t None e = (omega (arith, end_count_none t e), omega (arith, end_groups_none t e))
members_by t (Some b) e = (omega (arith, end_count_some t b e), omega (arith, end_groups_some t b e))

pub members_fit : (t : LineEnd) → lines_count (map line_of (out-LineEnd t).members) ≤ count_line (end_of t)
members_fit t = (members_by t (out-LineEnd t).body refl).0

pub groups_fit : (t : LineEnd) → 1 + lines_group_count (map line_of (out-LineEnd t).members) ≤ line_groups (end_of t)
groups_fit t = (members_by t (out-LineEnd t).body refl).1
