-- What is written piece by piece comes after the text before.
use Rattle.std.proofs.Common.{◌≡◌, ◌∙◌, ℕ, List, ◌++◌, Result, Ok, Err, ap, append_assoc}
use Rattle.std.specs.Prelude.{OnOk}

pub behind : (t0 t1 t2 a b : List ℕ) → t1 ≡ t0 ++ a → t2 ≡ t1 ++ b → t2 ≡ t0 ++ (a ++ b)
behind t0 t1 t2 a b first second = second ∙ ap (λ t. t ++ b) first ∙ append_assoc t0 a b

pub last : {E : Type 0} (r : Result (Unit {0}) E) (t0 t1 t2 a b : List ℕ) → t1 ≡ t0 ++ a → OnOk r (t2 ≡ t1 ++ b) → OnOk r (t2 ≡ t0 ++ (a ++ b))
last (Ok x) t0 t1 t2 a b first second = behind t0 t1 t2 a b first second
last (Err e) t0 t1 t2 a b first second = tt
