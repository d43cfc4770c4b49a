-- From the rows of a report to a table.
use Rattle.std.proofs.Common.{◌≡◌, ◌∙◌, ℕ, zero, suc, ◌-◌, List, [], ◌∷◌, ◌++◌, None, refl, sym, ap, subst, inl, length, get_or}
use Rattle.std.proofs.Common.{arith, append_assoc, length-append}
use Rattle.std.proofs.lemmas.List.{get_or_at}
use Rattle.canvas_task.specs.Apply.{Behaviour}
use Rattle.canvas_semantics.specs.Tree.{Tree, numbered}
use Rattle.canvas_semantics.specs.Evaluation.{nothing, State, Rows, eval, eval_chain}
use Rattle.canvas_semantics.specs.Line.{Line, elements_of, tree_of, number_line}
use Rattle.canvas_semantics.specs.States.{states, rows_from, EachMay}
use Rattle.canvas_semantics.proofs.Numbered.{tree_numbered}
use Rattle.canvas_semantics.proofs.RowNumbers.{states_whole}
use Rattle.canvas_celery.proofs.Collected.Flows.{Within}
use Rattle.canvas_celery.specs.Completed.{HasRows}

-- ---- the table of a plan

own_rows : (front ss : List State) → HasRows (front ++ ss) (rows_from (suc (length front)) ss)
own_rows front [] = tt
own_rows front (s ∷ ss) =
    let place : suc (length front) - 1 ≡ length front = omega arith in
    let here : get_or (front ++ s ∷ ss) (suc (length front) - 1) None ≡ s =
    ap (λ i. get_or (front ++ s ∷ ss) i None) place ∙ get_or_at front s ss None (length front) refl in
    let longer : length (front ++ s ∷ []) ≡ suc (length front) = length-append front (s ∷ []) ∙ (omega arith) in
    let P : List State → Type 0 = λ all. HasRows all (rows_from (suc (length (front ++ s ∷ []))) ss) in
    let Q : ℕ → Type 0 = λ k. HasRows (front ++ s ∷ ss) (rows_from (suc k) ss) in
    (here, subst Q longer (subst P (append_assoc front (s ∷ []) ss) (own_rows (front ++ s ∷ []) ss)))

pub table_rows : (b : Behaviour) (l : Line) → number_line 1 1 l ≡ l → rows_from 1 (states b (tree_of l)) ≡ (eval_chain b (elements_of l) nothing).rows
table_rows b l planned =
    let same : numbered (tree_of l) ≡ tree_of l = sym (tree_numbered l) ∙ ap tree_of planned in
    let P : Tree → Type 0 = λ c. rows_from 1 (states b c) ≡ (eval b c nothing).rows in
    subst P same (states_whole b (tree_of l))

pub table_has : (b : Behaviour) (l : Line) → number_line 1 1 l ≡ l → HasRows (states b (tree_of l)) (eval_chain b (elements_of l) nothing).rows
table_has b l planned = let Q : Rows → Type 0 = λ rs. HasRows (states b (tree_of l)) rs in subst Q (table_rows b l planned) (own_rows [] (states b (tree_of l)))

-- ---- two lists of rows

pub within_by_each : (xs ys : List State) → EachMay xs ys → Within xs ys
within_by_each [] [] h i = inl refl
within_by_each [] (y ∷ ys) h i = absurd h
within_by_each (x ∷ xs) [] h i = absurd h
within_by_each (x ∷ xs) (y ∷ ys) h zero = h.0
within_by_each (x ∷ xs) (y ∷ ys) h (suc i) = within_by_each xs ys h.1 i

pub each_long : (xs ys : List State) → EachMay xs ys → length xs ≡ length ys
each_long [] [] h = refl
each_long [] (y ∷ ys) h = absurd h
each_long (x ∷ xs) [] h = absurd h
each_long (x ∷ xs) (y ∷ ys) h = ap suc (each_long xs ys h.1)

pub each_by_within : (xs ys : List State) → length xs ≡ length ys → Within xs ys → EachMay xs ys
each_by_within [] [] e h = tt
each_by_within [] (y ∷ ys) e h = absurd (omega (arith, e))
each_by_within (x ∷ xs) [] e h = absurd (omega (arith, e))
each_by_within (x ∷ xs) (y ∷ ys) e h = (h 0, each_by_within xs ys (omega (arith, e)) (λ i. h (suc i)))
