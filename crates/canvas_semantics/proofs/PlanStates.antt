-- The states of a plan's tasks are those of its canvas.
use Rattle.std.proofs.Common.{◌≡◌, ◌∙◌, sym, ap}
use Rattle.canvas_task.specs.Apply.{Behaviour}
use Rattle.canvas_semantics.specs.Evaluation.{nothing}
use Rattle.canvas_semantics.specs.Line.{Line, number_line, tree_of}
use Rattle.canvas_semantics.specs.NormalLine.{normal}
use Rattle.canvas_semantics.specs.SameMeaning.{IsSame}
use Rattle.canvas_semantics.specs.States.{states}
use Rattle.canvas_semantics.specs.Tree.{Tree, IsFull, numbered}
use Rattle.canvas_semantics.proofs.NumberLemmas.{same}
use Rattle.canvas_semantics.proofs.Numbered.{tree_numbered}
use Rattle.canvas_semantics.proofs.RowNumbers.{states_in, states_listed}

module _ (behaviour : Behaviour) where
  pub same_states : (s t : Tree) → IsSame s t → states behaviour (numbered s) ≡ states behaviour (numbered t)
  same_states s t alike = states_listed behaviour s ∙ (ap (λ m. states_in m.rows) (alike.means behaviour nothing) ∙ sym (states_listed behaviour t))

  pub plan_states : (c : Tree) → IsFull c → (l : Line) → tree_of l ≡ normal c → states behaviour (tree_of (number_line 1 1 l)) ≡ states behaviour (numbered c)
  plan_states c full l is_normal = ap (states behaviour) (tree_numbered l ∙ ap (λ t. numbered t) is_normal) ∙ same_states (normal c) c (same c full)
