-- Reading one value after the other, as a loop does.
use Rattle.std.proofs.Common.{◌≡◌, ℕ, suc, ◌+◌, ◌<◌, length, get_or, drop, map, arith, List, [], ◌∷◌, ◌++◌, Result, Ok, Err, refl, sym, ap, ◌∙◌, append_assoc}
use Rattle.std.proofs.Math.Seq.{drop-cons}
use Rattle.canvas_values.specs.declared.fault.SigFault.{SigFault}
use Rattle.canvas_values.specs.Answers.{◌>>=◌, in_turn}

-- the item of a loop's turn and those after it, as data
pub next_of : {X Y : Type 0} (view : X → Y) (xs : List X) (i : ℕ) (x d : X) → i < length xs → get_or xs i d ≡ x
    → map view (drop i xs) ≡ view x ∷ map view (drop (i + 1) xs)
next_of view xs i x d lt is =
    let up : suc i ≡ i + 1 = omega arith in
    ap (map view) (drop-cons xs i d lt) ∙ ap (λ y. view y ∷ map view (drop (suc i) xs)) is ∙ ap (λ k. view x ∷ map view (drop k xs)) up

-- what was read before, and what is still read
abbrev pub onto : {B : Type 0} → List B → Result (List B) SigFault → Result (List B) SigFault
onto front read = read >>= λ ys. Ok (front ++ ys)

regroup : {B : Type 0} (front : List B) (y : B) (read : Result (List B) SigFault) → onto front (read >>= λ ys. Ok (y ∷ ys)) ≡ onto (front ++ y ∷ []) read
regroup front y (Ok ys) = ap Ok (sym (append_assoc front (y ∷ []) ys))
regroup front y (Err f) = refl

-- one more was read
pub one_more : {A B : Type 0} (f : A → Result B SigFault) (front : List B) (x : A) (xs : List A) (y : B) → f x ≡ Ok y
    → onto front (in_turn f (x ∷ xs)) ≡ onto (front ++ y ∷ []) (in_turn f xs)
one_more f front x xs y is = rw is (regroup front y (in_turn f xs))

-- one more was read, and appended to the others
pub next_read : {A B : Type 0} (f : A → Result B SigFault) (front new : List B) (y : B) (x : A) (left now : List A)
    → new ≡ front ++ y ∷ [] → f x ≡ Ok y → left ≡ x ∷ now → onto front (in_turn f left) ≡ onto new (in_turn f now)
next_read f front new y x left now pushed read next =
    ap (λ xs. onto front (in_turn f xs)) next ∙ one_more f front x now y read ∙ ap (λ ys. onto ys (in_turn f now)) (sym pushed)
