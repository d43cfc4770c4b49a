-- Plain numbers, and pieces of a text at commas.
use Rattle.std.proofs.Common.{◌≡◌, ◌≢◌, ℕ, zero, suc, ◌+◌, ◌^◌, ◌≤◌, ◌<◌, false, List, [], ◌∷◌, ◌++◌, All, map, length, drop, get_or, Bor, MatchOption, Option, Some, None, Result, Ok, Err, refl, sym, ap, ◌∙◌, subst, append-nil, arith}
use Rattle.std.specs.Prelude.{◌==◌, cond}
use Rattle.std.specs.Fmt.{decimal}
use Rattle.std.specs.List.{slice_split, position_or_len, before_first, after_first}
use Rattle.std.specs.Result.{result_ok}
use Rattle.std.specs.Str.Parse.{IsNumeral, digits_value, without_leading_plus, ParsesUnsigned}
use Rattle.std.proofs.lemmas.Bool.Decides.{nat_tests}
use Rattle.std.proofs.lemmas.Fmt.{decimal_is_IsNumeral, decimal-digits_value, decimal_digit, first_decimal}
use Rattle.std.proofs.lemmas.List.{length-drop}
use Rattle.std.proofs.lemmas.List.Elements.{All-append, All-cons, All-nil}
use Rattle.std.proofs.lemmas.List.Sums.{fails_before_first}
use Rattle.std.proofs.lemmas.List.Splits.{slice_split_none, slice_split_first}
use Rattle.std.proofs.lemmas.Str.Parse.{numerals_by_value, tells_digits}
use Rattle.canvas_runs.specs.CommaList.{IsNumberFromOne, is_comma, pieces}

-- ---- one number

pub not_plain : (k : ℕ) (bs : List ℕ) → get_or bs 0 0 ≤ 48 → IsNumberFromOne k → bs ≡ decimal k → ⊥
not_plain k bs low w e =
    let high : 48 < get_or (decimal k) 0 0 = first_decimal k (omega (arith, w.0)) (omega (arith, w.1)) in
    let same : get_or bs 0 0 ≡ get_or (decimal k) 0 0 = ap (λ x. get_or x 0 0) e in
    omega (arith, high, low, same)

no_plus : (bs : List ℕ) → 48 < get_or bs 0 0 → without_leading_plus bs ≡ bs
no_plus bs high =
    let other : (get_or bs 0 0 == 43) ≡ false = grind (arith, nat_tests, high) in
    ap (λ b. drop (cond b 1 0) bs) other

positive : (bs : List ℕ) (k : ℕ) → 48 < get_or bs 0 0 → bs ≡ decimal k → 1 ≤ k
positive bs zero high e =
    let zero_text : get_or bs 0 0 ≡ 48 = ap (λ x. get_or x 0 0) (e ∙ decimal_digit 0 (omega arith)) in
    absurd (omega (arith, high, zero_text))
positive bs (suc n) high e = omega arith

-- what `parse` reads: digits, of a value that 32 bits hold
abbrev IsShort : List ℕ → Type 0
IsShort bs = IsNumeral 10 (without_leading_plus bs) × (digits_value 10 (without_leading_plus bs) < 2 ^ 32)

-- a text that begins with a digit other than 0 and is read as a number is that number's
is_read : (bs : List ℕ) (k : ℕ) → 48 < get_or bs 0 0 → IsShort bs × (k ≡ digits_value 10 (without_leading_plus bs)) → IsNumberFromOne k × (bs ≡ decimal k)
is_read bs k high q =
    let same = no_plus bs high in
    let numeral : IsNumeral 10 bs = subst (IsNumeral 10) same q.0.0 in
    let few : digits_value 10 bs < 2 ^ 32 = subst (λ x. digits_value 10 x < 2 ^ 32) same q.0.1 in
    let value : k ≡ digits_value 10 bs = q.1 ∙ ap (digits_value 10) same in
    let back : decimal (digits_value 10 bs) ≡ bs =
    decimal-digits_value (numerals_by_value _ tells_digits) bs numeral.1 numeral.0 (λ z. absurd (omega (arith, z, high))) (omega (arith, few)) in
    let is_text : bs ≡ decimal k = sym back ∙ ap decimal (sym value) in
    ((positive bs k high is_text, omega (arith, few, value)), is_text)

not_read : (bs : List ℕ) → 48 < get_or bs 0 0 → (IsShort bs → ⊥) → (k : ℕ) → IsNumberFromOne k → bs ≡ decimal k → ⊥
not_read bs high q k w same =
    let numeral = decimal_is_IsNumeral k (omega (arith, w.1)) in
    let whole = no_plus bs high ∙ same in
    q (subst (IsNumeral 10) (sym whole) numeral.0, subst (λ x. digits_value 10 x < 2 ^ 32) (sym whole) (omega (arith, numeral.1, w.1)))

pub number_or_not : {E : Type 0} (bs : List ℕ) (r : Result ℕ E) (o : Option ℕ) → 48 < get_or bs 0 0 → ParsesUnsigned 32 10 bs r → o ≡ result_ok r
    → MatchOption o ((k : ℕ) → IsNumberFromOne k → bs ≡ decimal k → ⊥) (λ k. IsNumberFromOne k × (bs ≡ decimal k))
number_or_not bs (Ok n) o high p is = rw is (is_read bs n high p)
number_or_not bs (Err e) o high p is = rw is (not_read bs high p)

-- ---- pieces

last_piece : (bs : List ℕ) → position_or_len is_comma bs ≡ length bs → slice_split is_comma bs ≡ bs ∷ []
last_piece bs e = slice_split_none is_comma bs (λ k d h. fails_before_first is_comma bs k d (omega (arith, h, e)))

pub pieces_are : (bs : List ℕ) → bs ≢ [] → pieces bs ≡ slice_split is_comma bs
pieces_are [] h = absurd (h refl)
pieces_are (b ∷ bs) h = refl

-- what was split off
split_off : (bs first behind : List ℕ) → first ≡ before_first is_comma bs → behind ≡ after_first is_comma bs → position_or_len is_comma bs < length bs
    → (slice_split is_comma bs ≡ first ∷ slice_split is_comma behind) × (length behind < length bs)
split_off bs first behind e f h = (
  slice_split_first is_comma bs 0 h ∙ ap (λ x. x ∷ slice_split is_comma (after_first is_comma bs)) (sym e) ∙ ap (λ x. first ∷ slice_split is_comma x) (sym f),
  omega (arith, h, ap length f, length-drop (position_or_len is_comma bs + 1) bs),
)

pub split_or_not : (bs : List ℕ) (r : Option (Bor (List ℕ) × Bor (List ℕ)))
    → MatchOption r (position_or_len is_comma bs ≡ length bs)
    (λ x. (x.0.now ≡ before_first is_comma bs) × (x.1.now ≡ after_first is_comma bs) × (position_or_len is_comma bs < length bs))
    → MatchOption r (slice_split is_comma bs ≡ bs ∷ []) (λ x. (slice_split is_comma bs ≡ x.0.now ∷ slice_split is_comma x.1.now) × (length x.1.now < length bs))
split_or_not bs None h = last_piece bs h
split_or_not bs (Some x) h = split_off bs x.0.now x.1.now h.0 h.1 h.2

-- ---- items that are read piece by piece, each of which is good

module _ {A : Type 0} (Good : A → Type 0) (written : A → List ℕ) where
  -- pieces that are read, and one more
  one_more : (done : List A) (t : A) (all behind : List (List ℕ)) (piece : List ℕ) → all ≡ map written done ++ piece ∷ behind → piece ≡ written t
      → all ≡ map written (done ++ t ∷ []) ++ behind
  one_more done t all behind piece e is = e ∙ ap (λ p. map written done ++ p ∷ behind) is ∙ go done
    where
      go : (ts : List A) → map written ts ++ written t ∷ behind ≡ map written (ts ++ t ∷ []) ++ behind
      go [] = refl
      go (x ∷ xs) = ap (λ r. written x ∷ r) (go xs)

  all_more : (t : A) (done : List A) → All Good done → Good t → All Good (done ++ t ∷ [])
  all_more t done a w = All-append Good done (t ∷ []) a (All-cons Good t [] w (All-nil Good))

  -- a piece that is no good item
  pub none_here : (before behind : List (List ℕ)) (piece : List ℕ) (ts : List A) → ((t : A) → Good t → piece ≡ written t → ⊥) → All Good ts
      → before ++ piece ∷ behind ≡ map written ts → ⊥
  none_here [] behind piece [] bad a e = absurd cc
  none_here [] behind piece (t ∷ ts) bad a e = bad t (a 0 t (omega arith)) (ap (head_or piece) e)
    where
      head_or : List ℕ → List (List ℕ) → List ℕ
      head_or d [] = d
      head_or d (x ∷ xs) = x
  none_here (b ∷ bs) behind piece [] bad a e = absurd cc
  none_here (b ∷ bs) behind piece (t ∷ ts) bad a e = none_here bs behind piece ts bad (λ k d h. a (suc k) d (omega (arith, h))) (ap rest e)
    where
      rest : List (List ℕ) → List (List ℕ)
      rest [] = []
      rest (x ∷ xs) = xs

  pub read_more : (t : A) (done new : List A) (all : List (List ℕ)) (piece : List ℕ) (behind : List (List ℕ)) → All Good done → Good t
      → piece ≡ written t → new ≡ done ++ t ∷ [] → all ≡ map written done ++ piece ∷ behind → All Good new × (all ≡ map written new ++ behind)
  read_more t done new all piece behind a w is e so_far =
      (subst (All Good) (sym e) (all_more t done a w), one_more done t all behind piece so_far is ∙ ap (λ ts. map written ts ++ behind) (sym e))

  pub read_last : (t : A) (done new : List A) (all : List (List ℕ)) (piece : List ℕ) → All Good done → Good t → piece ≡ written t → new ≡ done ++ t ∷ []
      → all ≡ map written done ++ piece ∷ [] → All Good new × (all ≡ map written new)
  read_last t done new all piece a w is e so_far =
      let both = read_more t done new all piece [] a w is e so_far in (both.0, both.1 ∙ append-nil (map written new))
