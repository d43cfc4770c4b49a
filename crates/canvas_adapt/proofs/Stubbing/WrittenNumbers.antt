-- Numbers as words.
use Rattle.std.proofs.Common.{◌≡◌, ℕ, zero, suc, ◌<◌, ◌≤◌, ◌^◌, Bool, true, false, List, [], ◌∷◌, length, get_or, None, Ok, refl, ap, sym, ◌∙◌, arith}
use Rattle.std.specs.Prelude.{◌==◌, ◌&&◌, not, codes, nat_eq, ℤ, pos, negsuc, neg_ℤ}
use Rattle.std.proofs.lemmas.Bool.Decides.{nat_tests}
use Rattle.std.proofs.lemmas.Fmt.{decimal_is_IsNumeral}
use Rattle.std.proofs.lemmas.Grind.{common_steps}
use Rattle.std.proofs.lemmas.Int.{ints}
use Rattle.std.proofs.lemmas.Str.Parse.{digit_at}
use Rattle.std.specs.Char.{is_ascii_digit}
use Rattle.std.specs.Fmt.{decimal, signed_decimal}
use Rattle.std.specs.Cmp.Lexicographic.{pointwise}
use Rattle.std.specs.List.{list_all}
use Rattle.std.specs.Str.{bytes_eq}
use Rattle.std.specs.Str.Parse.{IsNumeral, digits_value, without_leading_plus, without_leading_sign, signed_digits_value}
use Rattle.canvas_task.specs.Text.{Text}
use Rattle.canvas_task.specs.Builtin.{word, builtins, first_called}
use Rattle.canvas_task.specs.Numbers.{in_range}
use Rattle.canvas_task.specs.declared.builtin.Builtin.{Builtin}
use Rattle.canvas_task.proofs.BuiltinLaw.{word_begins}
use Rattle.canvas_adapt.specs.StubTexts.{are_digits, is_number, known_word, raise_word, task_or, word_reading}
use Rattle.canvas_adapt.specs.declared.stubs.stub.Does.TheVariants.{Gives}
use Rattle.canvas_adapt.proofs.Stubbing.Splits.{Lacks}
use Rattle.canvas_adapt.proofs.Stubbing.WordNumbers.{all_digits, model}

-- ---- no number is a word that is spelled out

differs : (c b : ℕ) → c < b → nat_eq c b ≡ false
differs c b h = grind (arith, nat_tests)

apart : (c b : ℕ) → b < c → nat_eq c b ≡ false
apart c b h = grind (arith, nat_tests)

-- a text whose first byte comes before that of another isn't the other
other : (w : Text) (b : ℕ) (bs : Text) → get_or w 0 0 < b → bytes_eq w (b ∷ bs) ≡ false
other [] b bs h = refl
other (c ∷ cs) b bs h = ap (λ e. e && pointwise nat_eq cs bs) (differs c b h)

after : (w v : Text) → get_or w 0 0 < 97 → 97 ≤ get_or v 0 0 → bytes_eq v w ≡ false
after w [] h k = absurd (omega arith)
after [] (b ∷ bs) h k = refl
after (c ∷ cs) (b ∷ bs) h k = ap (λ e. e && pointwise nat_eq bs cs) (apart b c (omega arith))

no_task : (w : Text) → get_or w 0 0 < 97 → (ts : List Builtin) → first_called word w ts ≡ None
no_task w h [] = refl
no_task w h (t ∷ ts) = rw (after w (word t) h (word_begins t)) (no_task w h ts)

no_exception : (w : Text) → get_or w 0 0 < 97 → raise_word w ≡ None
no_exception w h =
    let type : bytes_eq w (codes "raise:TypeError") ≡ false =
    other w 114 (codes "aise:TypeError") (omega arith) in
    let division : bytes_eq w (codes "raise:ZeroDivisionError") ≡ false =
    other w 114 (codes "aise:ZeroDivisionError") (omega arith) in
    let over : bytes_eq w (codes "raise:OverflowError") ≡ false =
    other w 114 (codes "aise:OverflowError") (omega arith) in
    let task : bytes_eq w (codes "raise:NotRegistered") ≡ false =
    other w 114 (codes "aise:NotRegistered") (omega arith) in
    rw (type, division, over, task) refl

unknown : (w : Text) → get_or w 0 0 < 97 → known_word w ≡ None
unknown w h = ap (λ o. task_or o (raise_word w)) (no_task w h builtins) ∙ no_exception w h

-- ---- digits, with a sign or none

some : (n : ℕ) → 0 < n → not (n == 0) ≡ true
some n h = grind (arith, nat_tests)

both : (a b : Bool) → a ≡ true → b ≡ true → (a && b) ≡ true
both true b h k = k
both false b h k = absurd cc

digits : (ds : Text) → IsNumeral 10 ds → are_digits ds ≡ true
digits ds h = both (not (length ds == 0)) (list_all is_ascii_digit ds) (some (length ds) h.0)
    (sym (all_digits ds) ∙ model.from ds h.1)

-- a text that is written as a number, and whose number this is
pub record Spells (w : Text) (n : ℤ) : Type 0 where
  pub low : get_or w 0 0 < 97
  pub number : is_number w ≡ true
  pub value : signed_digits_value 10 w ≡ n

no_minus : (c : ℕ) → 48 ≤ c → (c == 45) ≡ false
no_minus c h = grind (arith, nat_tests)

no_plus : (c : ℕ) → 48 ≤ c → (c == 43) ≡ false
no_plus c h = grind (arith, nat_tests)

unadded : (w : Text) → 48 ≤ get_or w 0 0 → without_leading_plus w ≡ w
unadded w h = rw (no_plus (get_or w 0 0) h) refl

unsigned : (w : Text) → 48 ≤ get_or w 0 0 → without_leading_sign w ≡ w
unsigned w h = rw (no_minus (get_or w 0 0) h) (unadded w h)

positive : (w : Text) (n : ℕ) → 48 ≤ get_or w 0 0 → digits_value 10 w ≡ n → signed_digits_value 10 w ≡ pos n
positive w n h e = rw (no_minus (get_or w 0 0) h) (ap (λ l. pos (digits_value 10 l)) (unadded w h) ∙ ap pos e)

spells_digits : (w : Text) (n : ℕ) → IsNumeral 10 w → digits_value 10 w ≡ n → Spells w (pos n)
spells_digits w n h e =
    let first = digit_at w 0 h.1 h.0 in
    let least : 48 ≤ get_or w 0 0 = omega (arith, first) in
    record {
      low = omega (arith, first);
      number = ap are_digits (unsigned w least) ∙ digits w h;
      value = positive w n least e;
    }

spells_minus : (ds : Text) (n : ℕ) → IsNumeral 10 ds → digits_value 10 ds ≡ suc n → Spells (45 ∷ ds) (negsuc n)
spells_minus ds n h e = record {
  low = omega arith;
  number = digits ds h;
  value = ap (λ m. neg_ℤ (pos m)) e;
}

small : (n : ℕ) → in_range (pos n) ≡ true → n < 2 ^ 64
small n h = grind (arith, common_steps, ints)

small_below : (n : ℕ) → in_range (negsuc n) ≡ true → suc n < 2 ^ 64
small_below n h = grind (arith, common_steps, ints)

spells : (n : ℤ) → in_range n ≡ true → Spells (signed_decimal n) n
spells (pos n) h =
    let k = decimal_is_IsNumeral n (small n h) in
    spells_digits (decimal n) n k.0 k.1
spells (negsuc n) h =
    let k = decimal_is_IsNumeral (suc n) (small_below n h) in
    spells_minus (decimal (suc n)) n k.0 k.1

-- ---- what such a word says

read_as : (w : Text) (n : ℤ) → in_range n ≡ true → Spells w n → word_reading w ≡ Ok (Gives n)
read_as w n h s = rw (unknown w s.low) (rw s.number (rw s.value (rw h refl)))

pub number_back : (n : ℤ) → in_range n ≡ true → word_reading (signed_decimal n) ≡ Ok (Gives n)
number_back n h = read_as (signed_decimal n) n h (spells n h)

-- ---- no number has an `=`

digits_free : (ds : Text) → IsNumeral 10 ds → Lacks ds
digits_free ds h = λ i l at. omega (arith, digit_at ds i h.1 l, at)

signed_free : (ds : Text) → Lacks ds → (i : ℕ) → i < length (45 ∷ ds) → get_or (45 ∷ ds) i 0 ≡ 61 → ⊥
signed_free ds h zero l at = omega (arith, at)
signed_free ds h (suc i) l at = h i (omega arith) at

pub number_free : (n : ℤ) → in_range n ≡ true → Lacks (signed_decimal n)
number_free (pos n) h = digits_free (decimal n) (decimal_is_IsNumeral n (small n h)).0
number_free (negsuc n) h = signed_free (decimal (suc n)) (digits_free (decimal (suc n))
    (decimal_is_IsNumeral (suc n) (small_below n h)).0)
