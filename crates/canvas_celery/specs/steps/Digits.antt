-- The eight digits of a number at the end of an identifier.
use Rattle.std.specs.Prelude.{ℕ, ◌/◌, ◌%◌, [], ◌∷◌}
use Rattle.std.specs.List.{flat_map}
use Rattle.uuid.specs.Text.{hex_digit, lower}
use Rattle.canvas_task.specs.Text.{Text}
use Rattle.canvas_task.specs.Identifiers.{four_bytes}

abbrev pub byte_digits : ℕ → Text
byte_digits n = hex_digit lower (n / 16 % 16) ∷ hex_digit lower (n % 16) ∷ []

abbrev pub number_digits : ℕ → Text
number_digits k = flat_map byte_digits (four_bytes k)
