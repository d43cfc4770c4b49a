-- The parts of a pointer: names that need no escape, and indices.
use Rattle.std.proofs.Common.{◌≡◌, ◌≢◌, ℕ, zero, suc, ◌^◌, ◌<◌, List, [], ◌∷◌, ◌++◌, length, get_or, Bool, true, false, Some, decimal, refl, sym, ap, ◌∙◌, arith, append-nil, lt-ltb, ne_eqb, eqb, eq-eqb}
use Rattle.std.specs.Prelude.{not, ◌&&◌, ◌||◌}
use Rattle.std.specs.List.{list_all}
use Rattle.std.specs.Char.{digit_value}
use Rattle.std.specs.Str.Parse.{AllDigits}
use Rattle.std.proofs.lemmas.Fmt.{decimal_is_IsNumeral, decimal_nonempty, first_decimal, decimal_digit}
use Rattle.fast_float.specs.Text.{Parts, scan, IsWellFormed}
use Rattle.fast_float.proofs.Writing.{scan-text_of}
use Rattle.serde_json.specs.Find.{index_of}
use Rattle.serde_json.proofs.Paths.{Lacks}

both : (a b : Bool) → (a && b) ≡ true → (a ≡ true) × (b ≡ true)
both true b h = (refl, h)
both false b h = absurd cc

or_true : (a b : Bool) → b ≡ true → (a || b) ≡ true
or_true true b h = refl
or_true false b h = h

differs : (x c : ℕ) → not (eqb x c) ≡ true → x ≢ c
differs x c h e = let same = eq-eqb x c e in absurd cc

pub lacks : (c : ℕ) (xs : List ℕ) → list_all (λ x. not (eqb x c)) xs ≡ true → Lacks c xs
lacks c [] h i less = absurd (omega arith)
lacks c (x ∷ xs) h zero less = differs x c (both (not (eqb x c)) (list_all (λ y. not (eqb y c)) xs) h).0
lacks c (x ∷ xs) h (suc i) less = lacks c xs (both (not (eqb x c)) (list_all (λ y. not (eqb y c)) xs) h).1 i (omega arith)

digits_lack : (xs : List ℕ) → AllDigits 10 xs → Lacks 47 xs
digits_lack [] h i less = absurd (omega arith)
digits_lack (x ∷ xs) h zero less = λ e. let digit : digit_value x < 10 = h.0 in let is : x ≡ 47 = e in grind arith
digits_lack (x ∷ xs) h (suc i) less = digits_lack xs h.1 i (omega arith)

pub index_lacks : (n : ℕ) → n < 2 ^ 64 → Lacks 47 (decimal n)
index_lacks n h = digits_lack (decimal n) (decimal_is_IsNumeral n h).0.1

abbrev digits : List ℕ → Parts
digits ds = record { whole = ds; point = false; fraction = []; exponent_negative = false; exponent = []; len = length (ds ++ []) }

scanned : (n : ℕ) → n < 2 ^ 64 → scan (decimal n) ≡ digits (decimal n)
scanned n h =
    let e = decimal_is_IsNumeral n h in
    let formed : IsWellFormed (digits (decimal n)) =
    record { whole_digits = e.0.1; fraction_digits = tt; exponent_digits = tt; no_point = λ _. refl; no_exponent = λ _. refl; len_is = refl } in
    ap scan (sym (append-nil (decimal n))) ∙ scan-text_of (digits (decimal n)) formed

no_zero_first : (n : ℕ) → n < 2 ^ 64 → (eqb (length (decimal n)) 1 || not (eqb (get_or (decimal n) 0 0) 48)) ≡ true
no_zero_first zero h = rw (decimal_digit 0 (omega arith)) refl
no_zero_first (suc n) h =
    let first = first_decimal (suc n) (omega arith) h in
    or_true (eqb (length (decimal (suc n))) 1) _ (rw (ne_eqb (get_or (decimal (suc n)) 0 0) 48 (λ e. omega arith)) refl)

pub index_of-decimal : (n : ℕ) → n < 2 ^ 64 → index_of (decimal n) ≡ Some n
unfolding index_of
index_of-decimal n h =
    let some = decimal_nonempty n h in
    let value = (decimal_is_IsNumeral n h).1 in
    rw (scanned n h) (rw (lt-ltb _ _ some, append-nil (decimal n))
    (rw (eq-eqb (length (decimal n)) (length (decimal n)) refl, value) (rw (lt-ltb _ _ h, no_zero_first n h) refl)))
