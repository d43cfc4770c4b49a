-- How a text is printed: printable ASCII and line feeds as they are, and any other character as in
-- JSON's strings (RFC 8259): `\u` and four hexadecimal digits, past U+FFFF two of these.
use Rattle.std.specs.Prelude.{ℕ, Bool, ◌+◌, ◌/◌, ◌%◌, ◌||◌, ◌==◌, nat_lt, ◌∷◌, [], ◌++◌}
use Rattle.std.specs.Prelude.{if◌then◌else◌, chars, flat_map}
use Rattle.std.specs.Char.{digit_char}
use Rattle.canvas_task.specs.Text.{Text}
use Rattle.canvas_check.specs.Shown.{is_printable}

-- a byte of a printed line, or the one that ends it
abbrev pub is_line_byte : ℕ → Bool
is_line_byte b = b == 10 || is_printable b

abbrev pub unit_text : ℕ → Text
unit_text u =
    92 ∷ 117 ∷ digit_char (u / 4096) ∷ digit_char (u / 256 % 16) ∷ digit_char (u / 16 % 16)
    ∷ digit_char (u % 16) ∷ []

-- a character past U+FFFF is a surrogate pair (RFC 2781)
abbrev pub escaped : ℕ → Text
escaped c =
    if nat_lt c 0x1_0000 then unit_text c
    else unit_text (0xD7C0 + c / 1024) ++ unit_text (0xDC00 + c % 1024)

abbrev pub printed_char : ℕ → Text
printed_char c = if is_line_byte c then c ∷ [] else escaped c

abbrev pub printed : Text → Text
printed text = flat_map printed_char (chars text)
