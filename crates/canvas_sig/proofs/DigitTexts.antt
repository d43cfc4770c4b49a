-- A text of only digits is the number that they write.
use Rattle.std.proofs.Common.{◌≡◌, ℕ, ◌+◌, ◌-◌, ◌*◌, ◌^◌, ◌≤◌, ◌<◌, true, false, List, [], ◌++◌, length, get_or, take, Option, Some, None, IfSome, refl, sym, ap, ◌∙◌, append-nil, arith, lt-ltb, ne_eqb}
use Rattle.std.specs.Int.{IsInRange}
use Rattle.std.specs.Str.Parse.{IsNumeral, AllDigits, digits_value}
use Rattle.std.proofs.lemmas.Int.Digits.{digits_more, digits_value_more}
use Rattle.std.proofs.lemmas.List.{length-take-le}
use Rattle.std.proofs.lemmas.Str.{digit_value_digit}
use Rattle.std.proofs.lemmas.Str.Parse.{IsNumeralModel, numerals_by_value, tells_digits, digits_value_short, digit_at}
use Rattle.fast_float.specs.Text.{Parts, scan, digits_of, IsWellFormed}
use Rattle.fast_float.proofs.Writing.{scan-text_of}
use Rattle.serde_json.specs.Data.{unsigned}
use Rattle.serde_json.specs.Read.{number_of, number_from, is_integer}

abbrev parts : List ℕ → Parts
parts ds = record { whole = ds; point = false; fraction = []; exponent_negative = false; exponent = []; len = length (ds ++ []) }

scanned : (ds : List ℕ) → IsNumeral 10 ds → scan ds ≡ parts ds
scanned ds h =
    let formed : IsWellFormed (parts ds) =
    record { whole_digits = h.1; fraction_digits = tt; exponent_digits = tt; no_point = λ _. refl; no_exponent = λ _. refl; len_is = refl } in
    ap scan (sym (append-nil ds)) ∙ scan-text_of (parts ds) formed

spelled : (ds : List ℕ) → 48 ≤ get_or ds 0 0 → IsNumeral 10 ds → digits_value 10 ds < 2 ^ 64 → number_of ds ≡ Some (unsigned (digits_value 10 ds))
unfolding number_of
spelled ds high h few =
    let whole : is_integer (parts ds) ≡ true = rw (lt-ltb _ _ h.0) in
    let value : digits_of (parts ds) ≡ digits_value 10 ds = ap (digits_value 10) (append-nil ds) in
    let read : number_from false (parts ds) ≡ Some (unsigned (digits_value 10 ds)) = rw (whole, value) (rw (lt-ltb _ _ few)) in
    rw (ne_eqb (get_or ds 0 0) 45 (λ e. omega (arith, high, e))) (ap (number_from false) (scanned ds h) ∙ read)

-- ---- at most 18 digits

own : IsNumeralModel (AllDigits 10) (digits_value 10)
own = numerals_by_value (AllDigits 10) tells_digits

short_spelled : (bs : List ℕ) → 0 < length bs → length bs ≤ 18 → AllDigits 10 bs → number_of bs ≡ Some (unsigned (digits_value 10 bs))
short_spelled bs some few digits =
    let first = digit_at bs 0 digits some in
    spelled bs first.0 (some, digits) (omega (arith, digits_value_short own bs 18 digits few))

pub few_spelled : (bs : List ℕ) (o : Option ℕ) → 0 < length bs → length bs ≤ 18 → IfSome o (λ n. AllDigits 10 bs × (n ≡ digits_value 10 bs))
    → IfSome o (λ n. number_of bs ≡ Some (unsigned n))
few_spelled bs None some few h = tt
few_spelled bs (Some n) some few h = short_spelled bs some few h.0 ∙ ap (λ k. Some (unsigned k)) (sym h.1)

-- there is room for one digit more
pub room_for_digit : (bs : List ℕ) (i n : ℕ) → i < length bs → length bs ≤ 18 → AllDigits 10 (take i bs) → n ≡ digits_value 10 (take i bs) → n < 10 ^ 17
room_for_digit bs i n lt few digits is =
    let long : length (take i bs) ≡ i = length-take-le i bs (omega arith) in
    let small = digits_value_short own (take i bs) 17 digits (omega arith) in
    omega (arith, small, is)

pub one_more_digit : (bs : List ℕ) (i n d : ℕ) → i < length bs → AllDigits 10 (take i bs) → n ≡ digits_value 10 (take i bs) → IsInRange 48 57 (get_or bs i 0)
    → d ≡ get_or bs i 0 - 48 → AllDigits 10 (take (i + 1) bs) × (n * 10 + d ≡ digits_value 10 (take (i + 1) bs))
one_more_digit bs i n d lt digits is range written =
    let weight = digit_value_digit (get_or bs i 0) range in
    let more = digits_value_more 10 bs i lt in
    (digits_more 10 bs i lt digits (omega (arith, weight, range.0, range.1)), omega (arith, weight, more, is, written))
