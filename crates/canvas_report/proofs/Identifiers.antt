-- Identifiers and numbers as JSON has them, with nothing to escape.
use Rattle.std.proofs.Common.{◌≡◌, ◌∙◌, ◌<◌, ℕ, zero, suc, ℤ, pos, negsuc, Bool, true, false, List, [], ◌∷◌, ◌++◌, inl, refl, sym, ap, append_assoc, arith}
use Rattle.std.specs.Prelude.{if◌then◌else◌}
use Rattle.std.specs.Fmt.{signed_decimal}
use Rattle.std.specs.Str.{IsAscii}
use Rattle.std.proofs.lemmas.Bool.Decides.{nat_tests}
use Rattle.json.specs.Print.{escape, escape_byte}
use Rattle.json.proofs.Printed.Strings.{escape_byte_plain}
use Rattle.serde_json.proofs.OnLiterals.{serde_json_on_literals}
use Rattle.serde_json.specs.Find.{of_integer}
use Rattle.serde_json.specs.Written.{number_text}
use Rattle.uuid.specs.Text.{by_index, hex_digit, nibble, digit_place, is_hyphen_place, hyphen, lower}
use Rattle.uuid.proofs.TextLemmas.{hyphenated_ascii, nibble_small}
use Rattle.canvas_task.specs.Identifiers.{identifier, task_mark, task_text}

pub task_ascii : (k : ℕ) → IsAscii (task_text k)
task_ascii k = hyphenated_ascii lower (identifier task_mark k) (inl refl)

pub number_is : (z : ℤ) → number_text (of_integer z) ≡ signed_decimal z
number_is (pos n) = refl
number_is (negsuc n) = refl

digit_plain : (d : ℕ) → d < 16 → escape_byte (hex_digit lower d) ≡ hex_digit lower d ∷ []
digit_plain d small = escape_byte_plain (hex_digit lower d) (λ e. grind (arith, nat_tests)) (λ e. grind (arith, nat_tests)) (grind (arith, nat_tests))

place_plain : (b : Bool) (x : ℕ) → escape_byte x ≡ x ∷ [] → escape_byte (if b then hyphen else x) ≡ (if b then hyphen else x) ∷ []
unfolding serde_json_on_literals
place_plain true x own = refl
place_plain false x own = own

escape_append : (xs ys : List ℕ) → escape (xs ++ ys) ≡ escape xs ++ escape ys
escape_append [] ys = refl
escape_append (x ∷ xs) ys = ap (λ l. escape_byte x ++ l) (escape_append xs ys) ∙ sym (append_assoc (escape_byte x) (escape xs) (escape ys))

all_plain : (n : ℕ) (f : ℕ → ℕ) → ((k : ℕ) → escape_byte (f k) ≡ f k ∷ []) → escape (by_index n f) ≡ by_index n f
unfolding by_index
all_plain zero f own = refl
all_plain (suc n) f own =
    escape_append (by_index n f) (f n ∷ []) ∙ ap (λ xs. xs ++ escape (f n ∷ [])) (all_plain n f own)
    ∙ ap (λ xs. by_index n f ++ (xs ++ [])) (own n)

pub task_plain : (k : ℕ) → escape (task_text k) ≡ task_text k
task_plain k =
    let xs = identifier task_mark k in
    all_plain 36 (λ j. if is_hyphen_place j then hyphen else hex_digit lower (nibble xs (digit_place j)))
    (λ j. place_plain (is_hyphen_place j) (hex_digit lower (nibble xs (digit_place j)))
    (digit_plain (nibble xs (digit_place j)) (nibble_small xs (digit_place j))))
