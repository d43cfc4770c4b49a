-- The values given for the options of a command, from the rows that the crate `clap` makes of the
-- words.
use Rattle.std.specs.Prelude.{◌≡◌, ◌<◌, ◌^◌, ℕ, Bool, true, false, List, [], Option, None, Some, codes, unwrap_or}
use Rattle.std.specs.Str.Parse.{IsNumeral, digits_value, without_leading_plus}
use Rattle.clap.specs.Walk.{Row, all_of, first_of, one_of}
use Rattle.canvas_task.specs.Text.{Text}

module _ (given : List Row) (option : Text) where
  -- whether a flag is given
  pub record IsFlag (b : Bool) : Type 0 where
    pub absent : one_of option given ≡ None → b ≡ false
    pub set : one_of option given ≡ Some (codes "true") → b ≡ true
    pub unset : one_of option given ≡ Some (codes "false") → b ≡ false

  -- the number that is given, in 32 bits and with an optional plus before it; or none
  pub record IsNumberOf (n : Option ℕ) : Type 0 where
    pub absent : one_of option given ≡ None → n ≡ None
    pub said : (text : Text) → one_of option given ≡ Some text
        → IsNumeral 10 (without_leading_plus text)
        → digits_value 10 (without_leading_plus text) < 2 ^ 32
        → n ≡ Some (digits_value 10 (without_leading_plus text))

  -- the number that is given, or `other`
  abbrev pub IsNumber : (other n : ℕ) → Type 0
  IsNumber other n = (said : Option ℕ) × IsNumberOf said × (n ≡ unwrap_or said other)

  -- the text that is given, or the empty one
  abbrev pub text_of : Text
  text_of = unwrap_or (first_of option given) []

  -- the texts of an option that may be given several times
  abbrev pub texts_of : List Text
  texts_of = unwrap_or (all_of option given) []
