-- Names that are left of a list of names.
use Rattle.std.proofs.Common.{◌≡◌, ◌⊎◌, ◌<◌, ◌≤◌, ◌+◌, inl, inr, ℕ, suc, Bool, true, false, List, ◌∷◌, Option, Some, None, drop, length, get_or, sym, ap, ◌∙◌, arith, add-one}
use Rattle.std.specs.Prelude.{◌||◌, slice_get}
use Rattle.std.proofs.Math.Seq.{drop-cons}
use Rattle.std.proofs.lemmas.List.{drop_all}
use Rattle.std.proofs.lemmas.Option.{slice_get_cases}
use Rattle.canvas_task.specs.Text.{Text}
use Rattle.canvas_semantics.specs.Line.{name_at}
use Rattle.canvas_answer.specs.Names.{has_name, is_called}

abbrev Cases : List Text → ℕ → Type 0
Cases ns k =
    ((x : Text) × (k < length ns) × (slice_get ns k ≡ Some x) × (get_or ns k x ≡ x)) ⊎ ((length ns ≤ k) × (slice_get ns k ≡ None))

from_cases : (name : Text) (ns : List Text) (k : ℕ) → Cases ns k
    → has_name name (drop k ns) ≡ (is_called (slice_get ns k) name || has_name name (drop (suc k) ns))
from_cases name ns k (inl (x, short, is, got)) =
    ap (has_name name) (drop-cons ns k x short ∙ ap (λ y. y ∷ drop (suc k) ns) got)
    ∙ sym (ap (λ q. is_called q name || has_name name (drop (suc k) ns)) is)
from_cases name ns k (inr (long, is)) =
    ap (has_name name) (drop_all k ns long)
    ∙ sym (ap (λ q. is_called q name || has_name name (drop (suc k) ns)) is ∙ ap (has_name name) (drop_all (suc k) ns (omega (arith, long))))

-- the first name that is left, and the others
one_more : (name : Text) (ns : List Text) (k : ℕ) → has_name name (drop k ns) ≡ (is_called (slice_get ns k) name || has_name name (drop (suc k) ns))
one_more name ns k = from_cases name ns k (slice_get_cases ns k).1

at_task : (name : Text) (ns : List Text) (k t : ℕ) (found : Option Text) → t ≡ k + 1 → found ≡ name_at ns t
    → has_name name (drop k ns) ≡ (is_called found name || has_name name (drop (suc k) ns))
at_task name ns k t found is named =
    one_more name ns k ∙ ap (λ q. is_called q name || has_name name (drop (suc k) ns)) (sym (named ∙ ap (name_at ns) (is ∙ add-one k)))

pub found_here : (name : Text) (ns : List Text) (k t : ℕ) (found : Option Text) (b : Bool) → t ≡ k + 1 → found ≡ name_at ns t
    → b ≡ is_called found name → b ≡ true → has_name name (drop k ns) ≡ has_name name ns → true ≡ has_name name ns
found_here name ns k t found b is named test here left =
    sym (ap (λ c. c || has_name name (drop (suc k) ns)) (sym test ∙ here)) ∙ sym (at_task name ns k t found is named) ∙ left

pub not_here : (name : Text) (ns : List Text) (k t : ℕ) (found : Option Text) (b : Bool) → t ≡ k + 1 → found ≡ name_at ns t
    → b ≡ is_called found name → b ≡ false → has_name name (drop k ns) ≡ has_name name ns → has_name name (drop (k + 1) ns) ≡ has_name name ns
not_here name ns k t found b is named test fails left =
    ap (λ j. has_name name (drop j ns)) (add-one k) ∙ sym (ap (λ c. c || has_name name (drop (suc k) ns)) (sym test ∙ fails))
    ∙ sym (at_task name ns k t found is named) ∙ left

pub none_left : (name : Text) (ns : List Text) (k : ℕ) → length ns ≤ k → has_name name (drop k ns) ≡ has_name name ns → false ≡ has_name name ns
none_left name ns k long left = sym (ap (has_name name) (drop_all k ns long)) ∙ left
