-- The report of a canvas's normal line is that of the canvas.
use Rattle.std.proofs.Common.{◌≡◌, ◌∙◌, ℕ, Bool, List, [], ◌++◌, append_assoc, append-nil, refl, sym, ap}
use Rattle.canvas_semantics.specs.Tree.{Tree, one, chain, group, chord, Trees, no_trees, and_tree, numbered, ends_in_group}
use Rattle.canvas_semantics.specs.NormalLine.{onto, all_onto, normal_all, normal}
use Rattle.canvas_semantics.specs.Evaluation.{Rows, nothing, meaning, ends, with_states}
use Rattle.canvas_task.specs.Text.{Text}
use Rattle.canvas_semantics.specs.Report.{names_by_number, all_names_by_number, report, report_of, report_lines, result_text}
use Rattle.canvas_semantics.specs.SameMeaning.{IsSame}
use Rattle.canvas_semantics.specs.States.{rows_from, states}
use Rattle.canvas_semantics.proofs.NumberLemmas.{numbered_normal}
use Rattle.canvas_semantics.proofs.RowNumbers.{states_whole}
use Rattle.std.specs.Prelude.{codes}
use Rattle.canvas_task.specs.Apply.{Behaviour}

alone : (ns : List (ℕ × Text)) → ns ++ [] ≡ ns
alone ns = append-nil ns

mutual
  names_onto : (t : Tree) (after : Trees) → all_names_by_number (onto t after) ≡ names_by_number t ++ all_names_by_number after
  names_onto (one t) after = refl
  names_onto (chain ts) after = names_all_onto ts after
  names_onto (group g ms) no_trees = ap (λ ns. ns ++ []) (names_normal ms)
  names_onto (group g ms) (and_tree u us) = alone (all_names_by_number (normal_all ms) ++ all_names_by_number (and_tree u us))
      ∙ ap (λ ns. ns ++ all_names_by_number (and_tree u us)) (names_normal ms)
  names_onto (chord g h b) after =
      alone (all_names_by_number (normal_all h) ++ all_names_by_number (onto b after)) ∙ ap (λ ns. ns ++ all_names_by_number (onto b after)) (names_normal h)
      ∙ ap (λ ns. all_names_by_number h ++ ns) (names_onto b after) ∙ sym (append_assoc (all_names_by_number h) (names_by_number b) (all_names_by_number after))

  names_all_onto : (ts after : Trees) → all_names_by_number (all_onto ts after) ≡ all_names_by_number ts ++ all_names_by_number after
  names_all_onto no_trees after = refl
  names_all_onto (and_tree t ts) after =
      names_onto t (all_onto ts after) ∙ ap (λ ns. names_by_number t ++ ns) (names_all_onto ts after)
      ∙ sym (append_assoc (names_by_number t) (all_names_by_number ts) (all_names_by_number after))

  names_normal : (ms : Trees) → all_names_by_number (normal_all ms) ≡ all_names_by_number ms
  names_normal no_trees = refl
  names_normal (and_tree t ts) =
      ap (λ ns. ns ++ all_names_by_number (normal_all ts)) (names_onto t no_trees ∙ alone (names_by_number t))
      ∙ ap (λ ns. names_by_number t ++ ns) (names_normal ts)

names_same : (c : Tree) → names_by_number (numbered (normal c)) ≡ names_by_number (numbered c)
names_same c = ap names_by_number (numbered_normal c) ∙ names_onto (numbered c) no_trees ∙ alone (names_by_number (numbered c))

-- a report, by its parts
abbrev written : List (ℕ × Text) → Rows → Bool → List ℕ → Text
written ns rows many es = report_lines ns rows ++ codes "result " ++ result_text many (with_states rows es) ++ codes "\n"

-- for any rows, if the normal line means what the canvas means
pub same_report_of : (c : Tree) (rows : Rows) → IsSame (normal c) c → report_of (numbered (normal c)) rows ≡ report_of (numbered c) rows
same_report_of c rows law =
    ap (λ ns. written ns rows (ends_in_group (numbered (normal c))) (ends (numbered (normal c)))) (names_same c)
    ∙ ap (λ b. written (names_by_number (numbered c)) rows b (ends (numbered (normal c)))) law.in_group_alike
    ∙ ap (λ es. written (names_by_number (numbered c)) rows (ends_in_group (numbered c)) es) law.ends_alike

module _ (behaviour : Behaviour) where
  pub same_report : (c : Tree) → IsSame (normal c) c → report_of (numbered (normal c)) (rows_from 1 (states behaviour (numbered (normal c))))
      ≡ report behaviour c
  same_report c law =
      ap (report_of (numbered (normal c))) (states_whole behaviour (normal c) ∙ ap (λ m. m.rows) (law.means behaviour nothing))
      ∙ same_report_of c (meaning behaviour c) law
