-- A text with escapes is found by its quotes, and read by itself as it would be read there.
use Rattle.std.proofs.Common.{◌≡◌, ◌≢◌, ℕ, suc, ◌+◌, ◌<◌, Bool, true, false, cond, ◌==◌, ◌||◌, List, [], ◌∷◌, ◌++◌, length, drop, get_or, drop-drop, Option, Some, None, option_and_then, refl, sym, ap, ◌∙◌, arith}
use Rattle.std.proofs.lemmas.Bool.{ne_eqb, eqb-false, or_parts, not-true}
use Rattle.std.proofs.lemmas.List.{drop_more}
use Rattle.std.specs.List.{prefix_len}
use Rattle.json.specs.Run.{is_plain}
use Rattle.json.specs.Token.{Token, string}
use Rattle.json.specs.Text.{content, Within, plain, after_backslash, after_u, after_high, prepend, code_unit, short_escape}
use Rattle.json.specs.Word.{head, is_operator, is_space}
use Rattle.json.specs.Lex.{Lexeme, token, operator, space, other, string_token, Mode, between, in_string, lex_byte, lex, Place, fresh, place_token, punctuate, tokens}
use Rattle.canvas_sig.specs.steps.Plain.{IsQuoted}

-- ---- the lexer inside of a text

goes_on : (o s : Bool) (x : ℕ) (r : List ℕ) (k : Mode → List Lexeme) → lex_byte in_string (cond o operator (cond s space other)) x r k ≡ k in_string
goes_on true s x r k = refl
goes_on false true x r k = refl
goes_on false false x r k = refl

inside : (x : ℕ) (r : List ℕ) → x ≢ 34 → x ≢ 92 → lex in_string (x ∷ r) ≡ lex in_string r
unfolding lex
inside x r q b = rw (ne_eqb x 34 q, ne_eqb x 92 b) (goes_on (is_operator x) (is_space x) x r (λ m. lex m r))

plain_step : (p : Bool) (x n : ℕ) (xs : List ℕ) → p ≡ is_plain x → lex in_string xs ≡ lex in_string (drop n xs)
    → lex in_string (x ∷ xs) ≡ lex in_string (drop (cond p (1 + n) 0) (x ∷ xs))
plain_step false x n xs e ih = refl
plain_step true x n xs e ih =
    let next : suc n ≡ 1 + n = omega arith in
    let none = or_parts ((x == 34) || (x == 92)) _ (not-true _ (sym e)) in
    let tests = or_parts (x == 34) _ none.0 in
    inside x xs (eqb-false x 34 tests.0) (eqb-false x 92 tests.1) ∙ ih ∙ ap (λ k. lex in_string (drop k (x ∷ xs))) next

plain_passed : (xs : List ℕ) → lex in_string xs ≡ lex in_string (drop (prefix_len is_plain xs) xs)
plain_passed [] = refl
plain_passed (x ∷ xs) = plain_step (is_plain x) x (prefix_len is_plain xs) xs refl (plain_passed xs)

escape_passed : (r : List ℕ) → lex in_string (92 ∷ r) ≡ lex in_string (drop 1 r)
unfolding lex
escape_passed [] = refl
escape_passed (y ∷ ys) = refl

closing : (r : List ℕ) → lex in_string (34 ∷ r) ≡ lex between r
unfolding lex
closing r = refl

-- where a text goes on
pub past_plain : (t : List ℕ) (i n : ℕ) → n ≡ prefix_len is_plain (drop i t) → lex in_string (drop i t) ≡ lex in_string (drop (i + n) t)
past_plain t i n is = plain_passed (drop i t) ∙ ap (λ k. lex in_string (drop k (drop i t))) (sym is) ∙ ap (lex in_string) (drop-drop n i t)

from_here : (t : List ℕ) (i c : ℕ) → i < length t → get_or t i 0 ≡ c → drop i t ≡ c ∷ drop (i + 1) t
from_here t i c lt e = drop_more t i 0 lt ∙ ap (λ x. x ∷ drop (i + 1) t) e

pub at_escape : (t : List ℕ) (i : ℕ) → i < length t → get_or t i 0 ≡ 92 → lex in_string (drop i t) ≡ lex in_string (drop 1 (drop (i + 1) t))
at_escape t i lt e = ap (lex in_string) (from_here t i 92 lt e) ∙ escape_passed (drop (i + 1) t)

pub at_closing : (t : List ℕ) (i : ℕ) → i < length t → get_or t i 0 ≡ 34 → lex in_string (drop i t) ≡ lex between (drop (i + 1) t)
at_closing t i lt e = ap (lex in_string) (from_here t i 34 lt e) ∙ closing (drop (i + 1) t)

-- ---- what a text holds is known when its closing quote was seen

abbrev Stays : {A : Type 0} → Option A → Option A → Type 0
Stays {A} o p = (a : A) → o ≡ Some a → p ≡ Some a

none_stays : {A : Type 0} (p : Option A) → Stays None p
none_stays p a e = absurd cc

same_stays : {A : Type 0} (o : Option A) → Stays o o
same_stays o a e = e

if_stays : {A : Type 0} (c : Bool) (o p q r : Option A) → Stays o p → Stays q r → Stays (cond c o q) (cond c p r)
if_stays true o p q r h i = h
if_stays false o p q r h i = i

prepend_stays : (bytes : List ℕ) (o p : Option (List ℕ)) → Stays o p → Stays (prepend bytes o) (prepend bytes p)
prepend_stays bytes None p h = none_stays (prepend bytes p)
prepend_stays bytes (Some s) p h = λ a e. ap (prepend bytes) (h s refl) ∙ e

then_stays : {A B : Type 0} (o : Option A) (f g : A → Option B) → ((a : A) → Stays (f a) (g a)) → Stays (option_and_then f o) (option_and_then g o)
then_stays None f g h = none_stays None
then_stays (Some a) f g h = h a

content_stays : (w : Within) (b r : List ℕ) → Stays (content w b) (content w (b ++ r))
unfolding content
content_stays plain [] r = none_stays (content plain r)
content_stays plain (x ∷ xs) r =
    if_stays (x == 34) _ _ _ _ (same_stays (Some []))
    (if_stays (x == 92) _ _ _ _ (content_stays after_backslash xs r)
    (if_stays _ _ _ _ _ (same_stays None) (prepend_stays (x ∷ []) (content plain xs) (content plain (xs ++ r)) (content_stays plain xs r))))
content_stays after_backslash [] r = none_stays (content after_backslash r)
content_stays after_backslash (x ∷ xs) r =
    if_stays _ _ _ _ _ (content_stays after_u xs r)
    (then_stays (short_escape x) _ _ (λ c. prepend_stays (c ∷ []) (content plain xs) (content plain (xs ++ r)) (content_stays plain xs r)))
content_stays after_u [] r = none_stays (content after_u r)
content_stays after_u (a ∷ []) r = none_stays (content after_u (a ∷ r))
content_stays after_u (a ∷ b ∷ []) r = none_stays (content after_u (a ∷ b ∷ r))
content_stays after_u (a ∷ b ∷ c ∷ []) r = none_stays (content after_u (a ∷ b ∷ c ∷ r))
content_stays after_u (a ∷ b ∷ c ∷ d ∷ xs) r =
    then_stays (code_unit a b c d) _ _
    (λ u. if_stays _ _ _ _ _ (content_stays (after_high u) xs r)
    (if_stays _ _ _ _ _ (same_stays None) (prepend_stays _ (content plain xs) (content plain (xs ++ r)) (content_stays plain xs r))))
content_stays (after_high h) [] r = none_stays (content (after_high h) r)
content_stays (after_high h) (s ∷ []) r = none_stays (content (after_high h) (s ∷ r))
content_stays (after_high h) (s ∷ u ∷ []) r = none_stays (content (after_high h) (s ∷ u ∷ r))
content_stays (after_high h) (s ∷ u ∷ a ∷ []) r = none_stays (content (after_high h) (s ∷ u ∷ a ∷ r))
content_stays (after_high h) (s ∷ u ∷ a ∷ b ∷ []) r = none_stays (content (after_high h) (s ∷ u ∷ a ∷ b ∷ r))
content_stays (after_high h) (s ∷ u ∷ a ∷ b ∷ c ∷ []) r = none_stays (content (after_high h) (s ∷ u ∷ a ∷ b ∷ c ∷ r))
content_stays (after_high h) (s ∷ u ∷ a ∷ b ∷ c ∷ d ∷ xs) r =
    if_stays _ _ _ _ _
    (then_stays (code_unit a b c d) _ _
    (λ l. if_stays _ _ _ _ _ (prepend_stays _ (content plain xs) (content plain (xs ++ r)) (content_stays plain xs r)) (same_stays None)))
    (same_stays None)

-- ---- a text read by itself

is_string : (o : Option (List ℕ)) (before_colon : Bool) (k : Place → List Token) (s : List ℕ) (ts : List Token)
    → place_token fresh (string_token o) before_colon k ≡ string s ∷ ts → o ≡ Some s
is_string None before_colon k s ts e = absurd cc
is_string (Some x) true k s ts e = absurd cc
is_string (Some x) false k s ts e = cc

read_alone : (b s : List ℕ) (ts : List Token) → tokens (34 ∷ b) ≡ string s ∷ ts → content plain b ≡ Some s
unfolding lex punctuate
read_alone b s ts e = is_string (content plain b) _ _ s ts e

opened : (x : ℕ) (b r s : List ℕ) (ts : List Token) → x ≡ 34 → lex in_string (b ++ r) ≡ lex between r → tokens (x ∷ b) ≡ string s ∷ ts
    → lex between (x ∷ (b ++ r)) ≡ token (string s) ∷ lex between r
unfolding lex
opened x b r s ts e passed read =
    let known : content plain b ≡ Some s = read_alone b s ts (ap (λ y. tokens (y ∷ b)) (sym e) ∙ read) in
    ap (λ y. lex between (y ∷ (b ++ r))) e ∙ ap (λ o. token (string_token o) ∷ lex in_string (b ++ r)) (content_stays plain b r s known)
    ∙ ap (λ ls. token (string s) ∷ ls) passed

none_read : (s : List ℕ) (ts : List Token) → tokens [] ≡ string s ∷ ts → ⊥
unfolding lex punctuate
none_read s ts e = absurd cc

pub at_quoted : (t q r s : List ℕ) (ts : List Token) → IsQuoted t q r → tokens q ≡ string s ∷ ts → lex between t ≡ token (string s) ∷ lex between r
at_quoted t [] r s ts h read = absurd (none_read s ts read)
at_quoted t (x ∷ b) r s ts h read =
    ap (lex between) h.parts
    ∙ opened x b r s ts (sym (ap head h.parts) ∙ h.opens) (sym (ap (λ u. lex in_string (drop 1 u)) h.parts) ∙ h.passed) read
