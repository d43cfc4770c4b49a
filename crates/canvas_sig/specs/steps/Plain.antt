-- Plain tokens of a text, and the places where reading continues after one.
use Rattle.std.specs.Prelude.{◌≡◌, ◌⊎◌, ℕ, List, [], ◌∷◌, ◌++◌, drop, true}
use Rattle.json.specs.Token.{Token, end_object, end_array, key, number, boolean, null, bad}
use Rattle.json.specs.Word.{head, ends_word}
use Rattle.json.specs.Lex.{token, class, between, in_string, lex}
use Rattle.json.specs.Align.{is_blank}
use Rattle.canvas_sig.specs.declared.place.Place.{Place}
use Rattle.canvas_sig.specs.declared.place.Place.TheVariants.{AfterValue}

-- no space comes before the next token
abbrev pub IsTrimmed : List ℕ → Type 0
IsTrimmed t = is_blank (class (head t)) ≡ true → t ≡ []

-- the text after a value, and after its comma if there was one
abbrev pub Ends : Place → List ℕ → Type 0
Ends AfterValue t = (t ≡ []) ⊎ ((head t ≡ 93) ⊎ (head t ≡ 125))
Ends p t = Unit {0}

-- reading continues here
abbrev pub IsSettled : Place → List ℕ → Type 0
IsSettled p t = Ends p t × IsTrimmed t

-- a word or a number
abbrev pub IsWord : Token → Type 0
IsWord (number s) = Unit {0}
IsWord (boolean b) = Unit {0}
IsWord null = Unit {0}
IsWord t = ⊥

-- a value begins with this token
abbrev pub BeginsValue : Token → Type 0
BeginsValue end_object = ⊥
BeginsValue end_array = ⊥
BeginsValue (key s) = ⊥
BeginsValue bad = ⊥
BeginsValue t = Unit {0}

-- the name, before a byte that ends a word, is this token
abbrev pub Spells : List ℕ → Token → Type 0
Spells name k =
    (r : List ℕ) → ends_word r ≡ true → lex between (name ++ r) ≡ token k ∷ lex between r

-- a quoted text comes first, up to where the lexer has passed over it, and then the rest
pub record IsQuoted (text quoted rest : List ℕ) : Type 0 where
  pub parts : text ≡ quoted ++ rest
  pub opens : head text ≡ 34
  pub passed : lex in_string (drop 1 text) ≡ lex between rest
