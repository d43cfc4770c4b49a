-- Entries as text, and the parts of a text round its first colon.
use Rattle.std.proofs.Common.{◌≡◌, ℕ, suc, ◌+◌, ◌≤◌, ◌<◌, false, List, [], ◌∷◌, ◌++◌, length, take, drop, get_or, refl, ap, ◌∙◌, add-one, arith}
use Rattle.std.specs.Prelude.{◌==◌, Bool}
use Rattle.std.specs.Fmt.{decimal}
use Rattle.std.specs.List.{position_or_len, before_first, after_first}
use Rattle.std.proofs.Math.Seq.{get_or-append_seam, take-append_seam}
use Rattle.std.proofs.lemmas.Bool.Decides.{nat_tests}
use Rattle.std.proofs.lemmas.Fmt.{decimal_is_IsNumeral}
use Rattle.std.proofs.lemmas.List.{length-append, get_or_append_left}
use Rattle.std.proofs.lemmas.List.Sums.{position_or_len_is}
use Rattle.std.proofs.lemmas.Str.Parse.{digit_at}
use Rattle.canvas_runs.specs.CommaList.{IsNumberFromOne}

abbrev pub is_colon : ℕ → Bool
is_colon b = b == 58

-- ---- where the first colon is

fails : (b : ℕ) → 48 ≤ b → b ≤ 57 → is_colon b ≡ false
fails b low high = grind (arith, nat_tests)

no_colon_in : (k : ℕ) → IsNumberFromOne k → (i : ℕ) → i < length (decimal k) → is_colon (get_or (decimal k) i 0) ≡ false
no_colon_in k w i h =
    let digit = digit_at (decimal k) i (decimal_is_IsNumeral k (omega (arith, w.1))).0.1 h in
    fails (get_or (decimal k) i 0) (omega (arith, digit)) (omega (arith, digit))

colon_behind : (k : ℕ) (p : List ℕ) → IsNumberFromOne k → position_or_len is_colon (decimal k ++ 58 ∷ p) ≡ length (decimal k)
colon_behind k p w = position_or_len_is is_colon (decimal k ++ 58 ∷ p) (length (decimal k)) 0
    (omega (arith, length-append (decimal k) (58 ∷ p)))
    (λ i h. ap is_colon (get_or_append_left (decimal k) (58 ∷ p) 0 i h) ∙ no_colon_in k w i h)
    (λ _. ap is_colon (get_or-append_seam (decimal k) 58 p 0))

drop_past : (xs p : List ℕ) (y : ℕ) → drop (length xs + 1) (xs ++ y ∷ p) ≡ p
drop_past xs p y = ap (λ i. drop i (xs ++ y ∷ p)) (add-one (length xs)) ∙ go xs
  where
    go : (bs : List ℕ) → drop (suc (length bs)) (bs ++ y ∷ p) ≡ p
    go [] = refl
    go (b ∷ bs) = go bs

-- ---- what comes before and after it

-- the text is a number, a colon and then this
abbrev pub NumberThen : List ℕ → ℕ → List ℕ → Type 0
NumberThen bs k p = IsNumberFromOne k × (bs ≡ decimal k ++ 58 ∷ p)

pub no_number : (bs : List ℕ) → position_or_len is_colon bs ≡ length bs → (k : ℕ) (p : List ℕ) → NumberThen bs k p → ⊥
no_number bs none k p is =
    let at : position_or_len is_colon bs ≡ length (decimal k) = ap (position_or_len is_colon) is.1 ∙ colon_behind k p is.0 in
    omega (arith, at, none, ap length is.1, length-append (decimal k) (58 ∷ p))

pub number_before : (bs first : List ℕ) (k : ℕ) (p : List ℕ) → first ≡ before_first is_colon bs → NumberThen bs k p → first ≡ decimal k
number_before bs first k p e is =
    let at : position_or_len is_colon bs ≡ length (decimal k) = ap (position_or_len is_colon) is.1 ∙ colon_behind k p is.0 in
    e ∙ ap (λ i. take i bs) at ∙ ap (take (length (decimal k))) is.1 ∙ take-append_seam (decimal k) (58 ∷ p)

pub rest_behind : (bs behind : List ℕ) (k : ℕ) (p : List ℕ) → behind ≡ after_first is_colon bs → NumberThen bs k p → behind ≡ p
rest_behind bs behind k p e is =
    let at : position_or_len is_colon bs ≡ length (decimal k) = ap (position_or_len is_colon) is.1 ∙ colon_behind k p is.0 in
    e ∙ ap (λ i. drop (i + 1) bs) at ∙ ap (drop (length (decimal k) + 1)) is.1 ∙ drop_past (decimal k) p 58
