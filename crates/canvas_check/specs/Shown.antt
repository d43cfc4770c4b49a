-- A text in short form for people: in quotes, truncated after 40 characters, and escaped except for
-- printable ASCII.
use Rattle.std.specs.Prelude.{ℕ, Bool, false, ◌&&◌, ◌||◌, ◌==◌, not, nat_lt, nat_le, List, ◌∷◌, []}
use Rattle.std.specs.Prelude.{◌++◌, if◌then◌else◌, codes, chars, take, length, flat_map}
use Rattle.std.specs.List.{list_all}
use Rattle.std.specs.Fmt.{digits}
use Rattle.canvas_task.specs.Text.{Text}

-- printable ASCII
abbrev pub is_printable : ℕ → Bool
is_printable c = nat_le 32 c && nat_le c 126

-- a character of a quoted text
abbrev pub shown_char : ℕ → Text
shown_char c =
    if c == 34 then codes "\\\""
    else (if c == 92 then codes "\\\\"
    else (if is_printable c then c ∷ [] else codes "\\u{" ++ digits 16 false c ++ codes "}"))

-- at most 40 characters, and the closing quote
abbrev pub inside : List ℕ → Text
inside cs =
    if nat_lt 40 (length cs) then flat_map shown_char (take 40 cs) ++ codes "..\""
    else flat_map shown_char cs ++ codes "\""

abbrev pub quoted : Text → Text
quoted text = codes "\"" ++ inside (chars text)

-- a byte of a name that needs no quotes
abbrev pub is_plain_byte : ℕ → Bool
is_plain_byte b = nat_le 33 b && nat_le b 126 && not (b == 34 || b == 92)

-- 1 to 40 bytes
abbrev pub is_short : Text → Bool
is_short name = nat_lt 0 (length name) && nat_le (length name) 40

abbrev pub is_plain : Text → Bool
is_plain name = is_short name && list_all is_plain_byte name

-- a name: unchanged if it is plain, otherwise quoted
abbrev pub shown_name : Text → Text
shown_name name = if is_plain name then name else quoted name
