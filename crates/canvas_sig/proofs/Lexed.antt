-- The lexer's result on a text, by its first byte.
use Rattle.std.proofs.Common.{◌≡◌, ◌≢◌, ℕ, zero, suc, ◌+◌, ◌-◌, ◌<◌, ◌≤◌, Bool, true, false, cond, ◌==◌, ◌||◌, List, [], ◌∷◌, ◌++◌, length, take, drop, get_or, codes, Some, None, option_and_then, inl, inr, refl, sym, ap, ap₂, ◌∙◌, subst, arith}
use Rattle.std.proofs.lemmas.Bool.{true≢false, false≢true, or_parts, not-true, eqb-false, ltb-false, ne_eqb, eqb-true, leb-true, and_parts}
use Rattle.std.proofs.lemmas.List.{get_or_default, take_all, take-append-drop, drop_all}
use Rattle.std.proofs.lemmas.List.Folds.{length-prefix_len}
use Rattle.std.proofs.lemmas.List.Sums.{prefix_len-le-length, prefix_len_passes}
use Rattle.std.proofs.lemmas.Str.{IsCharBoundary-after_ascii}
use Rattle.std.specs.Char.{is_ascii_digit}
use Rattle.std.specs.List.{prefix_len, slice_range}
use Rattle.std.specs.Str.{IsUtf8, IsCharBoundary}
use Rattle.json.specs.Token.{Token, key, string, number, boolean, null, bad, begin_object, begin_array}
use Rattle.json.specs.Text.{content, plain}
use Rattle.json.specs.Word.{head, ends_word, after_digits, after_whole, after_fraction, after_exponent, after_number, word}
use Rattle.json.specs.Lex.{Lexeme, token, colon, Class, quote, backslash, operator, space, other, class, operator_lexeme, string_token, Mode, between, in_string, lex_byte, lex}
use Rattle.json.specs.Lex.{Place, fresh, after_value, after_comma, after_key, begins_colon, may_begin, if_allowed, place_token, punctuate}
use Rattle.json.specs.Align.{is_blank}
use Rattle.json.specs.Print.{IsNumber, escape}
use Rattle.json.specs.Run.{is_plain}
use Rattle.json.proofs.Printed.Strings.{content-escape, lex-escape, escape_byte_plain}
use Rattle.json.proofs.Printed.Numbers.{lex-number, in_word-ended}
use Rattle.canvas_sig.specs.declared.place.Place.TheVariants.{AfterValue}
use Rattle.canvas_sig.specs.steps.Plain.{Ends, IsWord, Spells}

passed : (c : Class) (x : ℕ) (xs : List ℕ) (k : Mode → List Lexeme) → is_blank c ≡ true → lex_byte between c x xs k ≡ k between
passed quote x xs k e = absurd (false≢true e)
passed backslash x xs k e = absurd (false≢true e)
passed operator x xs k e = absurd (false≢true e)
passed space x xs k e = refl
passed other x xs k e = absurd (false≢true e)

-- a space is passed over
pub past_space : (t : List ℕ) → 0 < length t → is_blank (class (head t)) ≡ true → lex between (drop 1 t) ≡ lex between t
unfolding lex
past_space [] some e = absurd (omega arith)
past_space (x ∷ xs) some e = sym (passed (class x) x xs (λ m. lex m xs) e)

pub behind_first : (t : List ℕ) → IsUtf8 t → 0 < length t → head t < 128 → IsCharBoundary t 1
behind_first t utf8 some ascii =
    let same = get_or_default t 0 0 32 some in
    let one : 0 + 1 ≡ 1 = omega arith in
    subst (IsCharBoundary t) one (IsCharBoundary-after_ascii t 0 utf8 some (omega (arith, ascii, same)))

-- a text that begins with a byte that is no space
pub is_some : (t : List ℕ) (c : ℕ) → head t ≡ c → c ≢ 32 → 0 < length t
is_some [] c e solid = absurd (solid (sym e))
is_some (x ∷ xs) c e solid = omega arith

headed : (t : List ℕ) (c : ℕ) → head t ≡ c → c ≢ 32 → t ≡ c ∷ drop 1 t
headed [] c e solid = absurd (solid (sym e))
headed (x ∷ xs) c e solid = ap (λ y. y ∷ xs) e

pub head_at : (t : List ℕ) (n c : ℕ) → n < length t → get_or t n 0 ≡ c → head (drop n t) ≡ c
head_at [] n c within e = absurd (omega arith)
head_at (x ∷ xs) zero c within e = e
head_at (x ∷ xs) (suc n) c within e = head_at xs n c (omega arith) e

pub front : (t : List ℕ) (n : ℕ) → slice_range t 0 n ≡ take n t
front t n = let same : n - 0 ≡ n = omega arith in ap (λ k. take k t) same

pub taken_fits : (n : ℕ) (t : List ℕ) → length (take n t) ≡ n → n ≤ length t
taken_fits zero t e = omega arith
taken_fits (suc n) [] e = absurd (omega (arith, e))
taken_fits (suc n) (x ∷ xs) e = omega (arith, taken_fits n xs (omega (arith, e)))

-- ---- brackets, commas and colons

pub at_mark : (c : ℕ) (t : List ℕ) → class c ≡ operator → head t ≡ c → lex between t ≡ operator_lexeme c ∷ lex between (drop 1 t)
unfolding lex
at_mark c [] k e = absurd (true≢false (ap (λ y. is_blank (class y)) e ∙ ap is_blank k))
at_mark c (x ∷ xs) k e =
    ap (λ m. lex_byte between m x xs (λ n. lex n xs)) (ap class e ∙ k) ∙ ap (λ y. operator_lexeme y ∷ lex between xs) e

pub no_colon : (t : List ℕ) → Ends AfterValue t → begins_colon (lex between t) ≡ false
unfolding lex
no_colon t (inl e) = ap (λ u. begins_colon (lex between u)) e
no_colon t (inr (inl e)) = ap begins_colon (at_mark 93 t refl e)
no_colon t (inr (inr e)) = ap begins_colon (at_mark 125 t refl e)

-- ---- texts with no escape

escape_step : (p : Bool) (x n : ℕ) (xs : List ℕ) → p ≡ is_plain x → escape (take n xs) ≡ take n xs
    → escape (take (cond p (1 + n) 0) (x ∷ xs)) ≡ take (cond p (1 + n) 0) (x ∷ xs)
escape_step false x n xs e ih = refl
escape_step true x n xs e ih =
    let next : suc n ≡ 1 + n = omega arith in
    let none = or_parts ((x == 34) || (x == 92)) _ (not-true _ (sym e)) in
    let tests = or_parts (x == 34) _ none.0 in
    subst (λ k. escape (take k (x ∷ xs)) ≡ take k (x ∷ xs)) next
    (λ i. escape_byte_plain x (eqb-false x 34 tests.0) (eqb-false x 92 tests.1) (ltb-false x 32 none.1) i ++ ih i)

escape_plain : (xs : List ℕ) → escape (take (prefix_len is_plain xs) xs) ≡ take (prefix_len is_plain xs) xs
escape_plain [] = refl
escape_plain (x ∷ xs) = escape_step (is_plain x) x (prefix_len is_plain xs) xs refl (escape_plain xs)

quoted : (xs s r : List ℕ) → xs ≡ escape s ++ 34 ∷ r → lex between (34 ∷ xs) ≡ token (string s) ∷ lex between r
unfolding lex
quoted xs s r e =
    ap (λ y. token (string_token (content plain y)) ∷ lex in_string y) e ∙ ap₂ (λ o l. token (string_token o) ∷ l) (content-escape s r) (lex-escape s r)

pub at_text : (t : List ℕ) (n : ℕ) → head t ≡ 34 → n ≡ prefix_len is_plain (drop 1 t) → head (drop n (drop 1 t)) ≡ 34
    → lex between t ≡ token (string (take n (drop 1 t))) ∷ lex between (drop 1 (drop n (drop 1 t)))
at_text t n e is closing =
    let xs = drop 1 t in
    let s = take n xs in
    let r = drop 1 (drop n xs) in
    let same : escape s ≡ s = subst (λ k. escape (take k xs) ≡ take k xs) (sym is) (escape_plain xs) in
    let whole : xs ≡ escape s ++ 34 ∷ r =
    sym (take-append-drop n xs) ∙ ap₂ (λ a b. a ++ b) (sym same) (headed (drop n xs) 34 closing (λ z. omega (arith, z))) in
    ap (lex between) (headed t 34 e (λ z. omega (arith, z))) ∙ quoted xs s r whole

-- ---- numbers of only digits

run_step : (p : Bool) (x n : ℕ) (xs : List ℕ) → p ≡ is_ascii_digit x → prefix_len is_ascii_digit (take n xs) ≡ n
    → prefix_len is_ascii_digit (take (cond p (1 + n) 0) (x ∷ xs)) ≡ cond p (1 + n) 0
run_step false x n xs e ih = refl
run_step true x n xs e ih =
    let next : suc n ≡ 1 + n = omega arith in
    subst (λ k. prefix_len is_ascii_digit (take k (x ∷ xs)) ≡ k) next
    (ap (λ b. cond b (1 + prefix_len is_ascii_digit (take n xs)) 0) (sym e) ∙ omega (arith, ih))

all_digits : (xs : List ℕ) → prefix_len is_ascii_digit (take (prefix_len is_ascii_digit xs) xs) ≡ prefix_len is_ascii_digit xs
all_digits [] = refl
all_digits (x ∷ xs) = run_step (is_ascii_digit x) x (prefix_len is_ascii_digit xs) xs refl (all_digits xs)

whole_digits : (s : List ℕ) (z : Bool) → (z ≡ true → length s ≤ 1) → 0 < length s → prefix_len is_ascii_digit s ≡ length s
    → cond z (Some (drop 1 s)) (after_digits s) ≡ Some []
whole_digits s true one some all = ap Some (drop_all 1 s (one refl))
whole_digits s false one some all =
    ap (λ n. cond (n == 0) None (Some (drop n s))) all ∙ ap (λ b. cond b None (Some (drop (length s) s))) (ne_eqb (length s) 0 (λ z. omega (arith, z, some)))
    ∙ ap Some (drop_all (length s) s (omega arith))

starts_run : (b : Bool) (n : ℕ) → 0 < cond b (1 + n) 0 → b ≡ true
starts_run true n some = refl
starts_run false n some = absurd (omega arith)

pub digit_first : (s : List ℕ) → 0 < prefix_len is_ascii_digit s → (48 ≤ head s) × (head s ≤ 57)
digit_first [] some = absurd (omega arith)
digit_first (x ∷ xs) some =
    let parts = and_parts _ _ (starts_run (is_ascii_digit x) _ some) in
    (leb-true 48 x parts.0, leb-true x 57 parts.1)

digits_number : (s : List ℕ) → 0 < length s → prefix_len is_ascii_digit s ≡ length s → (head s ≡ 48 → length s ≤ 1) → IsNumber s
unfolding after_number
digits_number s some all one =
    let first = digit_first s (omega (arith, all, some)) in
    let minus : (head s == 45) ≡ false = ne_eqb (head s) 45 (λ e. omega (arith, e, first.0)) in
    ap (λ o. option_and_then after_exponent (option_and_then after_fraction o))
    (ap (λ b. after_whole (cond b (drop 1 s) s)) minus ∙ whole_digits s (head s == 48) (λ e. one (eqb-true (head s) 48 e)) some all)

head_taken : (t : List ℕ) (n : ℕ) → 0 < n → head (take n t) ≡ head t
head_taken [] n some = ap head (take_all n [] (omega arith))
head_taken (x ∷ xs) zero some = absurd (omega arith)
head_taken (x ∷ xs) (suc n) some = refl

-- a number of any form
pub at_numeral : (t : List ℕ) (n : ℕ) → IsNumber (take n t) → ends_word (drop n t) ≡ true
    → lex between t ≡ token (number (take n t)) ∷ lex between (drop n t)
at_numeral t n formed ended = ap (lex between) (sym (take-append-drop n t)) ∙ lex-number (take n t) (drop n t) formed ended

pub at_number : (t : List ℕ) (n : ℕ) → n ≡ prefix_len is_ascii_digit t → 0 < n → (head t ≡ 48 → n ≤ 1) → ends_word (drop n t) ≡ true
    → lex between t ≡ token (number (take n t)) ∷ lex between (drop n t)
at_number t n is some one ended =
    let long : length (take n t) ≡ n = subst (λ k. length (take k t) ≡ k) (sym is) (length-prefix_len is_ascii_digit t) in
    let all : prefix_len is_ascii_digit (take n t) ≡ n = subst (λ k. prefix_len is_ascii_digit (take k t) ≡ k) (sym is) (all_digits t) in
    let number = digits_number (take n t) (omega (arith, long, some)) (all ∙ sym long)
    (λ e. let few = one (sym (head_taken t n some) ∙ e) in omega (arith, long, few)) in
    at_numeral t n number ended

pub behind_digits : (t : List ℕ) (n : ℕ) → IsUtf8 t → n ≡ prefix_len is_ascii_digit t → 0 < n → IsCharBoundary t n
behind_digits t n utf8 is some =
    let last : n - 1 < prefix_len is_ascii_digit t = omega (arith, is, some) in
    let within : n - 1 < length t = omega (arith, last, prefix_len-le-length is_ascii_digit t) in
    let digit : is_ascii_digit (get_or t (n - 1) 0) ≡ true = prefix_len_passes is_ascii_digit t (n - 1) 0 last in
    let ascii : get_or t (n - 1) 0 ≤ 57 = leb-true _ 57 (and_parts _ _ digit).1 in
    let on : n - 1 + 1 ≡ n = omega (arith, some) in
    subst (IsCharBoundary t) on (IsCharBoundary-after_ascii t (n - 1) utf8 within (omega (arith, ascii)))

-- ---- words

pub spells_null : Spells (codes "null") null
unfolding lex word
spells_null r ended = ap₂ (λ b l. token (cond b null bad) ∷ l) ended (in_word-ended r ended)

pub spells_true : Spells (codes "true") (boolean true)
unfolding lex word
spells_true r ended = ap₂ (λ b l. token (cond b (boolean true) bad) ∷ l) ended (in_word-ended r ended)

pub spells_false : Spells (codes "false") (boolean false)
unfolding lex word
spells_false r ended = ap₂ (λ b l. token (cond b (boolean false) bad) ∷ l) ended (in_word-ended r ended)

-- ---- where a value may begin

allowed : (b : Bool) (t : Token) (k : Place → List Token) (next : Place) → b ≡ true → if_allowed b t k next ≡ t ∷ k next
allowed b t k next e = ap (λ x. if_allowed x t k next) e

pub word_begins : (k : Token) (t r : List ℕ) → IsWord k → lex between t ≡ token k ∷ lex between r → (p : Place) → may_begin p ≡ true
    → punctuate p (lex between t) ≡ k ∷ punctuate after_value (lex between r)
unfolding punctuate
word_begins (number s) t r w e p may = ap (punctuate p) e ∙ allowed (may_begin p) (number s) (λ n. punctuate n (lex between r)) after_value may
word_begins (boolean b) t r w e p may = ap (punctuate p) e ∙ allowed (may_begin p) (boolean b) (λ n. punctuate n (lex between r)) after_value may
word_begins null t r w e p may = ap (punctuate p) e ∙ allowed (may_begin p) null (λ n. punctuate n (lex between r)) after_value may
word_begins k t r w e p may = absurd w

pub text_begins : (s t r : List ℕ) → lex between t ≡ token (string s) ∷ lex between r → begins_colon (lex between r) ≡ false → (p : Place) → may_begin p ≡ true
    → punctuate p (lex between t) ≡ string s ∷ punctuate after_value (lex between r)
unfolding punctuate
text_begins s t r e none p may =
    let k = λ (n : Place). punctuate n (lex between r) in
    ap (punctuate p) e ∙ ap (λ b. place_token p (string s) b k) none ∙ allowed (may_begin p) (string s) k after_value may

pub key_begins : (s t u r : List ℕ) → lex between t ≡ token (string s) ∷ lex between u → lex between u ≡ colon ∷ lex between r
    → (p : Place) → may_begin p ≡ true → punctuate p (lex between t) ≡ key s ∷ punctuate fresh (lex between r)
unfolding punctuate
key_begins s t u r e colon_next p may =
    ap (punctuate p) (e ∙ ap (λ l. token (string s) ∷ l) colon_next)
    ∙ allowed (may_begin p) (key s) (λ n. punctuate n (colon ∷ lex between r)) after_key may

pub object_begins : (t : List ℕ) → head t ≡ 123 → (p : Place) → may_begin p ≡ true
    → punctuate p (lex between t) ≡ begin_object ∷ punctuate fresh (lex between (drop 1 t))
unfolding punctuate
object_begins t e p may =
    ap (punctuate p) (at_mark 123 t refl e) ∙ allowed (may_begin p) begin_object (λ n. punctuate n (lex between (drop 1 t))) fresh may

pub array_begins : (t : List ℕ) → head t ≡ 91 → (p : Place) → may_begin p ≡ true
    → punctuate p (lex between t) ≡ begin_array ∷ punctuate fresh (lex between (drop 1 t))
unfolding punctuate
array_begins t e p may =
    ap (punctuate p) (at_mark 91 t refl e) ∙ allowed (may_begin p) begin_array (λ n. punctuate n (lex between (drop 1 t))) fresh may

pub past_comma : (t : List ℕ) → head t ≡ 44 → punctuate after_value (lex between t) ≡ punctuate after_comma (lex between (drop 1 t))
unfolding punctuate
past_comma t e = ap (punctuate after_value) (at_mark 44 t refl e)
