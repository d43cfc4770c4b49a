-- Stubs that raise an exception of any class: a name, `=`, `raise:` and the class. The rules are
-- this project's own.
use Rattle.std.specs.Prelude.{◌==◌, ◌||◌, ◌&&◌, ℕ, Bool, not, if◌then◌else◌, nat_eq, slice_index, ◌++◌, drop, length, Option, Some, None, option_and_then, codes}
use Rattle.std.specs.Char.{is_ascii_alphanumeric, is_ascii_digit}
use Rattle.std.specs.List.{list_all, starts_with}
use Rattle.std.specs.Option.{option_map_or}
use Rattle.std.specs.Str.{bytes_eq}
use Rattle.canvas_task.specs.Text.{Text}
use Rattle.canvas_adapt.specs.StubTexts.{split_text}

-- 95 is `_`
abbrev pub is_class_byte : ℕ → Bool
is_class_byte b = is_ascii_alphanumeric b || (b == 95)

-- a name of Python's in ASCII
abbrev pub is_class : Text → Bool
is_class text =
    not (length text == 0) && (not (is_ascii_digit (slice_index text 0))
    && list_all is_class_byte text)

-- one of the four classes that built-in tasks raise, or of those that are no failure of a task
abbrev pub is_known_class : Text → Bool
is_known_class c =
    bytes_eq c (codes "TypeError") || (bytes_eq c (codes "ZeroDivisionError")
    || (bytes_eq c (codes "OverflowError") || (bytes_eq c (codes "NotRegistered")
    || (bytes_eq c (codes "Retry") || (bytes_eq c (codes "Ignore")
    || bytes_eq c (codes "Reject"))))))

-- the part after `raise:`
abbrev pub raised_in : Text → Option Text
raised_in word =
    if starts_with nat_eq word (codes "raise:") then Some (drop 6 word) else None

abbrev pub other_class : Text → Option Text
other_class class = if is_class class && not (is_known_class class) then Some class else None

abbrev pub with_class : Text → Option Text → Option (Text × Text)
with_class name None = None
with_class name (Some class) = Some (name, class)

-- the name and the class of a text that raises an exception of a class other than the four
abbrev pub other_error : Text → Option (Text × Text)
other_error text = option_and_then
    (λ p. with_class p.0 (option_and_then other_class (raised_in p.1))) (split_text text)

-- the text itself, or with this class instead of another one
abbrev pub plain_text : (stands text : Text) → Text
plain_text stands text =
    option_map_or (λ e. e.0 ++ codes "=raise:" ++ stands) (other_error text) text
