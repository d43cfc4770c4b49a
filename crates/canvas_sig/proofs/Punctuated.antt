-- The tokens of the rest of a text, by the place of reading.
use Rattle.std.proofs.Common.{◌≡◌, ◌≢◌, ℕ, ◌<◌, Bool, true, false, cond, ◌==◌, List, [], ◌∷◌, length, drop, Option, Some, None, IfSome, inl, inr, refl, sym, ap, ◌∙◌, arith}
use Rattle.std.specs.Prelude.{unwrap_or}
use Rattle.std.proofs.lemmas.Bool.{true≢false, false≢true, ne_eqb}
use Rattle.json.specs.Token.{Token, key, string, number, boolean, null, bad, begin_object, end_object, begin_array, end_array}
use Rattle.json.specs.Text.{content, plain}
use Rattle.json.specs.Word.{head, ends_word, after_number, number_before, word}
use Rattle.json.specs.Lex.{Lexeme, token, comma, colon, Class, quote, backslash, operator, space, other, class, operator_lexeme, string_token, Mode, between, lex_byte, lex}
use Rattle.json.specs.Lex.{fresh, after_value, after_comma, begins_colon, place_token, punctuate}
use Rattle.json.specs.Lex as lexer
use Rattle.json.specs.Align.{is_blank}
use Rattle.json.specs.Reader.{tokens_at, closes_at}
use Rattle.canvas_sig.specs.declared.place.Place.{Place}
use Rattle.canvas_sig.specs.declared.place.Place.TheVariants.{Fresh, AfterValue, AfterComma, Failed}
use Rattle.canvas_sig.specs.steps.Place.{as_kit}
use Rattle.canvas_sig.specs.steps.Plain.{Ends, IsTrimmed}
use Rattle.canvas_sig.proofs.Lexed.{at_mark}

-- no reader reads where something may close
pub own : (r : Option (List Token)) (p : Place) (ts : List Token) → IfSome r (λ _. p ≡ Failed) → closes_at (as_kit p) ≡ true → unwrap_or r ts ≡ ts
own None p ts handed closes = refl
own (Some us) p ts handed closes = absurd (true≢false (sym closes ∙ ap (λ q. closes_at (as_kit q)) handed))

pub array_closes : (p : Place) (t : List ℕ) → closes_at (as_kit p) ≡ true → head t ≡ 93
    → tokens_at (as_kit p) t ≡ end_array ∷ punctuate after_value (lex between (drop 1 t))
unfolding punctuate
array_closes Fresh t closes e = ap (punctuate fresh) (at_mark 93 t refl e)
array_closes AfterValue t closes e = ap (punctuate after_value) (at_mark 93 t refl e)
array_closes AfterComma t closes e = absurd (false≢true closes)
array_closes Failed t closes e = absurd (false≢true closes)

pub object_closes : (p : Place) (t : List ℕ) → closes_at (as_kit p) ≡ true → head t ≡ 125
    → tokens_at (as_kit p) t ≡ end_object ∷ punctuate after_value (lex between (drop 1 t))
unfolding punctuate
object_closes Fresh t closes e = ap (punctuate fresh) (at_mark 125 t refl e)
object_closes AfterValue t closes e = ap (punctuate after_value) (at_mark 125 t refl e)
object_closes AfterComma t closes e = absurd (false≢true closes)
object_closes Failed t closes e = absurd (false≢true closes)

-- ---- where a value or a comma was passed

pub over : (t : List ℕ) → length t ≡ 0 → punctuate after_value (lex between t) ≡ []
unfolding lex punctuate
over [] e = refl
over (x ∷ xs) e = absurd (omega (arith, e))

pub comma_last : (t : List ℕ) → Ends AfterValue t → punctuate after_comma (lex between t) ≡ bad ∷ []
unfolding lex punctuate
comma_last t (inl e) = ap (λ u. punctuate after_comma (lex between u)) e
comma_last t (inr (inl e)) = ap (punctuate after_comma) (at_mark 93 t refl e)
comma_last t (inr (inr e)) = ap (punctuate after_comma) (at_mark 125 t refl e)

pub value_as_fresh : (t : List ℕ) → Ends AfterValue t → punctuate after_value (lex between t) ≡ punctuate fresh (lex between t)
unfolding lex punctuate
value_as_fresh t (inl e) = ap (λ u. punctuate after_value (lex between u)) e ∙ sym (ap (λ u. punctuate fresh (lex between u)) e)
value_as_fresh t (inr (inl e)) = ap (punctuate after_value) (at_mark 93 t refl e) ∙ sym (ap (punctuate fresh) (at_mark 93 t refl e))
value_as_fresh t (inr (inr e)) = ap (punctuate after_value) (at_mark 125 t refl e) ∙ sym (ap (punctuate fresh) (at_mark 125 t refl e))

-- after a comma everything but a closing bracket reads as it does at the start

abbrev IsNoEnd : Token → Type 0
IsNoEnd end_object = ⊥
IsNoEnd end_array = ⊥
IsNoEnd t = Unit {0}

same_token : (w : Token) (b : Bool) (k : lexer.Place → List Token) → IsNoEnd w → place_token after_comma w b k ≡ place_token fresh w b k
same_token begin_object b k h = refl
same_token end_object b k h = absurd h
same_token begin_array b k h = refl
same_token end_array b k h = absurd h
same_token (key s) b k h = refl
same_token (string s) true k h = refl
same_token (string s) false k h = refl
same_token (number s) b k h = refl
same_token (boolean v) b k h = refl
same_token null b k h = refl
same_token bad b k h = refl

same_lexeme : (w : Token) (ls : List Lexeme) → IsNoEnd w → punctuate after_comma (token w ∷ ls) ≡ punctuate fresh (token w ∷ ls)
unfolding punctuate
same_lexeme w ls h = same_token w (begins_colon ls) (λ next. punctuate next ls) h

abbrev mark : Bool → Bool → Bool → Bool → Bool → Lexeme
mark a b c d e = cond a (token begin_object) (cond b (token end_object) (cond c (token begin_array) (cond d (token end_array) (cond e comma colon))))

same_mark : (a b c d e : Bool) (ls : List Lexeme) → b ≡ false → d ≡ false → punctuate after_comma (mark a b c d e ∷ ls) ≡ punctuate fresh (mark a b c d e ∷ ls)
unfolding punctuate
same_mark true b c d e ls no_brace no_bracket = refl
same_mark false true c d e ls no_brace no_bracket = absurd (true≢false no_brace)
same_mark false false true d e ls no_brace no_bracket = refl
same_mark false false false true e ls no_brace no_bracket = absurd (true≢false no_bracket)
same_mark false false false false true ls no_brace no_bracket = refl
same_mark false false false false false ls no_brace no_bracket = refl

either : (b : Bool) (x y : Token) → IsNoEnd x → IsNoEnd y → IsNoEnd (cond b x y)
either true x y h k = h
either false x y h k = k

text_no_end : (o : Option (List ℕ)) → IsNoEnd (string_token o)
text_no_end None = tt
text_no_end (Some s) = tt

number_no_end : (t : List ℕ) (o : Option (List ℕ)) → IsNoEnd (number_before t o)
number_no_end t None = tt
number_no_end t (Some r) = either (ends_word r) _ bad tt tt

word_no_end : (t : List ℕ) → IsNoEnd (word t)
unfolding word
word_no_end t =
    either (head t == 116) _ _ (either _ (boolean true) bad tt tt) (either (head t == 102) _ _ (either _ (boolean false) bad tt tt)
    (either (head t == 110) _ _ (either _ null bad tt tt) (number_no_end t (after_number t))))

same_byte : (c : Class) (x : ℕ) (xs : List ℕ) (k : Mode → List Lexeme) → is_blank c ≡ false → x ≢ 93 → x ≢ 125
    → punctuate after_comma (lex_byte between c x xs k) ≡ punctuate fresh (lex_byte between c x xs k)
same_byte quote x xs k solid no_bracket no_brace = same_lexeme (string_token (content plain xs)) _ (text_no_end (content plain xs))
same_byte backslash x xs k solid no_bracket no_brace = same_lexeme bad _ tt
same_byte operator x xs k solid no_bracket no_brace =
    same_mark (x == 123) (x == 125) (x == 91) (x == 93) (x == 44) (k between) (ne_eqb x 125 no_brace) (ne_eqb x 93 no_bracket)
same_byte space x xs k solid no_bracket no_brace = absurd (true≢false solid)
same_byte other x xs k solid no_bracket no_brace = same_lexeme (word (x ∷ xs)) _ (word_no_end (x ∷ xs))

solid_byte : (b : Bool) (t : List ℕ) → 0 < length t → (b ≡ true → t ≡ []) → b ≡ false
solid_byte false t some trimmed = refl
solid_byte true t some trimmed = let none = ap length (trimmed refl) in absurd (omega (arith, none, some))

pub comma_as_fresh : (t : List ℕ) → 0 < length t → IsTrimmed t → head t ≢ 93 → head t ≢ 125
    → punctuate after_comma (lex between t) ≡ punctuate fresh (lex between t)
unfolding lex
comma_as_fresh [] some trimmed no_bracket no_brace = absurd (omega arith)
comma_as_fresh (x ∷ xs) some trimmed no_bracket no_brace =
    same_byte (class x) x xs (λ m. lex m xs) (solid_byte (is_blank (class x)) (x ∷ xs) some trimmed) no_bracket no_brace
