-- What is given for an option: a number as `parse` reads it, and texts.
use Rattle.std.proofs.Common.{◌≡◌, ◌∙◌, ◌<◌, ◌^◌, ℕ, List, [], Option, Some, None, Result, Ok, Err, map, option_map, ap}
use Rattle.std.specs.Prelude.{unwrap_or}
use Rattle.std.specs.Borrow.{Bor}
use Rattle.std.specs.Str.Parse.{IsNumeral, ParsesUnsigned, digits_value, without_leading_plus}
use Rattle.clap.specs.Matches.{ReadsOne}
use Rattle.canvas_task.specs.Text.{Text}

pub number_read : {E : Type 0} (gives : Text → Result ℕ E → Type 0) (text : Text) (r : Option ℕ)
    → ((x : Result ℕ E) → gives text x → ParsesUnsigned 32 10 text x) → ReadsOne gives text r
    → IsNumeral 10 (without_leading_plus text) → digits_value 10 (without_leading_plus text) < 2 ^ 32
    → r ≡ Some (digits_value 10 (without_leading_plus text))
number_read gives text (Some n) parses h numeral small = ap Some ((parses (Ok n) h).1)
number_read gives text None parses (e, h) numeral small = absurd (parses (Err e) h (numeral, small))

pub texts_or : (r : Option (Bor (List (Bor Text)))) (none : Bor (List (Bor Text))) (o : Option (List Text))
    → option_map (λ s. map (λ t. t.now) s.now) r ≡ o → none.now ≡ [] → map (λ t. t.now) (unwrap_or r none).now ≡ unwrap_or o []
texts_or None none o is empty = ap (map (λ (t : Bor Text). t.now)) empty ∙ ap (λ o. unwrap_or o []) is
texts_or (Some s) none o is empty = ap (λ o. unwrap_or o []) is
