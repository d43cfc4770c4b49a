-- The states of a canvas's tasks as a table: one for each task, in the order of their numbers
-- (Celery's states PENDING, SUCCESS and FAILURE).
use Rattle.std.specs.Prelude.{◌≡◌, ◌⊎◌, None, ℕ, zero, suc, List, [], ◌∷◌, map}
use Rattle.canvas_task.specs.Apply.{Behaviour}
use Rattle.canvas_semantics.specs.Tree.{Tree, count}
use Rattle.canvas_semantics.specs.Evaluation.{State, Rows, state_of, eval, nothing}

-- n numbers, counted from k
abbrev pub numbers_from : ℕ → ℕ → List ℕ
numbers_from k zero = []
numbers_from k (suc n) = k ∷ numbers_from (suc k) n

-- states as rows; the first is that of task k
abbrev pub rows_from : ℕ → List State → Rows
rows_from k [] = []
rows_from k (s ∷ ss) = (k, s) ∷ rows_from (suc k) ss

-- the state of each task after evaluating a numbered canvas
abbrev pub states : Behaviour → Tree → List State
states behaviour c =
    map (λ k. state_of k (eval behaviour c nothing).rows) (numbers_from 1 (count c))

-- each state is pending, or equals the other
abbrev pub EachMay : List State → List State → Type 0
EachMay [] [] = Unit
EachMay (x ∷ xs) (y ∷ ys) = ((x ≡ None) ⊎ (x ≡ y)) × EachMay xs ys
EachMay xs ys = ⊥
