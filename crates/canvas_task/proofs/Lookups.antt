-- What is looked for in a list, element by element.
use Rattle.std.proofs.Common.{◌≡◌, ◌+◌, ◌≤◌, ◌||◌, ℕ, Bool, true, false, if◌then◌else◌, List, ◌∷◌, Option, Some, None, drop, length, ap, refl, bytes_eq}
use Rattle.canvas_task.specs.Text.{Text}
use Rattle.canvas_task.specs.Apply.{Meaning}
use Rattle.canvas_task.specs.Builtin.{first_called}
use Rattle.canvas_task.specs.Tasks.{named_tasks, has_name}
use Rattle.canvas_task.specs.declared.builtin.Builtin.{Builtin}
use Rattle.canvas_task.proofs.Turns.{by_first, by_none}

module _ {B : Type 0} (called : B → Text) (answers : B → Meaning) (name : Text) (bs : List B) (i : ℕ) where
  -- the rest, as the names in it
  abbrev pub rest_has : Bool
  rest_has = has_name name (named_tasks called answers (drop (i + 1) bs))

  pub named_here : (b : B) (all : Bool) → drop i bs ≡ b ∷ drop (i + 1) bs → bytes_eq (called b) name ≡ true
      → has_name name (named_tasks called answers (drop i bs)) ≡ all → true ≡ all
  named_here b all is same kept = by_first (λ w. has_name name (named_tasks called answers w)) bs i b true all is (ap (λ r. r || rest_has) same) kept

  pub named_later : (b : B) (all : Bool) → drop i bs ≡ b ∷ drop (i + 1) bs → bytes_eq (called b) name ≡ false
      → has_name name (named_tasks called answers (drop i bs)) ≡ all → rest_has ≡ all
  named_later b all is other kept = by_first (λ w. has_name name (named_tasks called answers w)) bs i b rest_has all is (ap (λ r. r || rest_has) other) kept

  pub named_nowhere : (all : Bool) → length bs ≤ i → has_name name (named_tasks called answers (drop i bs)) ≡ all → false ≡ all
  named_nowhere all past kept = by_none (λ w. has_name name (named_tasks called answers w)) bs i false all past refl kept

module _ (call : Builtin → Text) (name : Text) (ts : List Builtin) (i : ℕ) where
  pub called_here : (t : Builtin) (all : Option Builtin) → drop i ts ≡ t ∷ drop (i + 1) ts → bytes_eq (call t) name ≡ true
      → first_called call name (drop i ts) ≡ all → Some t ≡ all
  called_here t all is same kept =
      by_first (first_called call name) ts i t (Some t) all is
      (ap (λ r. if r then Some t else first_called call name (drop (i + 1) ts)) same) kept

  pub called_later : (t : Builtin) (all : Option Builtin) → drop i ts ≡ t ∷ drop (i + 1) ts → bytes_eq (call t) name ≡ false
      → first_called call name (drop i ts) ≡ all → first_called call name (drop (i + 1) ts) ≡ all
  called_later t all is other kept =
      by_first (first_called call name) ts i t (first_called call name (drop (i + 1) ts)) all is
      (ap (λ r. if r then Some t else first_called call name (drop (i + 1) ts)) other) kept

  pub called_nowhere : (all : Option Builtin) → length ts ≤ i → first_called call name (drop i ts) ≡ all → None ≡ all
  called_nowhere all past kept = by_none (first_called call name) ts i None all past refl kept
