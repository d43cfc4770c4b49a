-- Words that are written as numbers.
use Rattle.std.proofs.Common.{◌≡◌, ℕ, zero, suc, ◌<◌, Bool, true, false, List, [], ◌∷◌, length, MatchOption, Option, Result, Ok, Err, refl, ap, ◌∙◌, arith}
use Rattle.std.specs.Prelude.{◌==◌, ◌&&◌, not, if◌then◌else◌, FitsSigned, ℤ}
use Rattle.std.proofs.lemmas.Grind.{common_steps}
use Rattle.std.proofs.lemmas.Int.{ints}
use Rattle.std.proofs.lemmas.Str.Parse.{IsNumeralModel, numerals_by_value, tells_all_ascii_digits}
use Rattle.std.specs.Char.{is_ascii_digit}
use Rattle.std.specs.List.{list_all}
use Rattle.std.specs.Result.{result_ok}
use Rattle.std.specs.Str.{all_ascii_digits}
use Rattle.std.specs.Str.Parse.{IsNumeral, digits_value, without_leading_sign, signed_digits_value, ParsesSigned}
use mir.Syntax.{w64}
use Rattle.canvas_task.specs.Numbers.{in_range}
use Rattle.canvas_adapt.specs.StubTexts.{are_digits, is_number, ranged}
use Rattle.canvas_adapt.specs.declared.stubs.stub.Does.TheVariants.{Gives}
use Rattle.canvas_adapt.specs.declared.stubs.fault.StubFault.TheVariants.{BadNumber}

pub both_left : (a b : Bool) → (a && b) ≡ true → a ≡ true
both_left true b h = refl
both_left false b h = h

pub both_right : (a b : Bool) → (a && b) ≡ true → b ≡ true
both_right true b h = h
both_right false b h = absurd cc

pub model : IsNumeralModel (λ ds. all_ascii_digits ds ≡ true) (digits_value 10)
model = numerals_by_value _ tells_all_ascii_digits

pub all_digits : (ds : List ℕ) → all_ascii_digits ds ≡ list_all is_ascii_digit ds
all_digits [] = refl
all_digits (c ∷ cs) = ap (λ b. is_ascii_digit c && b) (all_digits cs)

some : (n : ℕ) → not (n == 0) ≡ true → 0 < n
some zero h = absurd cc
some (suc n) h = omega arith

numeral : (ds : List ℕ) → are_digits ds ≡ true → IsNumeral 10 ds
numeral ds h = (
  some (length ds) (both_left (not (length ds == 0)) (list_all is_ascii_digit ds) h),
  model.to ds (all_digits ds ∙ both_right (not (length ds == 0)) (list_all is_ascii_digit ds) h),
)

pub fits : (n : ℤ) → in_range n ≡ true → FitsSigned w64 n
fits n h = grind (arith, common_steps, ints)

past : (n : ℤ) → (FitsSigned w64 n → ⊥) → (b : Bool) → in_range n ≡ b
    → (if b then Ok (Gives n) else Err BadNumber) ≡ Err BadNumber
past n h true e = absurd (h (fits n e))
past n h false e = refl

-- a number that 64 bits don't hold is past what a task answers
too_long : (w : List ℕ) → is_number w ≡ true → (IsNumeral 10 (without_leading_sign w)
    × FitsSigned w64 (signed_digits_value 10 w) → ⊥)
    → ranged (signed_digits_value 10 w) ≡ Err BadNumber
too_long w h unread =
    let n = signed_digits_value 10 w in
    past n (λ f. unread (numeral (without_leading_sign w) h, f)) (in_range n) refl

-- what `parse` gives of a text that is written as a number
pub parsed : {E : Type 0} (w : List ℕ) (r : Result ℤ E) (o : Option ℤ) → is_number w ≡ true → ParsesSigned w64 10 w r
    → o ≡ result_ok r
    → MatchOption o (ranged (signed_digits_value 10 w) ≡ Err BadNumber) (λ n. n ≡ signed_digits_value 10 w)
parsed w (Ok n) o h p is = rw is p.1
parsed w (Err e) o h p is = rw is (too_long w h p)
