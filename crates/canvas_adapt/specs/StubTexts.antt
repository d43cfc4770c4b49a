-- Stubs as texts, as shop.charge=5: a name, `=` and a word. The rules are this project's own.
use Rattle.std.specs.Prelude.{ℕ, ◌+◌, ◌==◌, ◌||◌, ◌&&◌, Bool, not, if◌then◌else◌, nat_eq, nat_le, slice_index, List, [], ◌∷◌, ◌++◌, length, Option, Some, None, Result, Ok, Err, codes, ℤ}
use Rattle.std.specs.Char.{is_ascii_digit}
use Rattle.std.specs.Fmt.{signed_decimal}
use Rattle.std.specs.List.{list_all, starts_with}
use Rattle.std.specs.Path.{rsplit_once}
use Rattle.std.specs.Str.{bytes_eq}
use Rattle.std.specs.Str.Parse.{without_leading_sign, signed_digits_value}
use Rattle.canvas_task.specs.Text.{Text}
use Rattle.canvas_task.specs.Builtin.{word, builtin_of_word}
use Rattle.canvas_task.specs.Name.{name_ok}
use Rattle.canvas_task.specs.Numbers.{in_range}
use Rattle.canvas_task.specs.Printed.{kind_name}
use Rattle.canvas_semantics.specs.Bounds.{most_tasks}
use Rattle.canvas_task.specs.declared.builtin.Builtin.{Builtin}
use Rattle.canvas_task.specs.declared.outcome.Kind.TheVariants.{BadCall, ZeroDivision, Overflow, NotRegistered}
use Rattle.canvas_adapt.specs.Stubs.{has_stub}
use Rattle.canvas_adapt.specs.declared.stubs.stub.Does.{Does}
use Rattle.canvas_adapt.specs.declared.stubs.stub.Does.TheVariants.{SameAs, Gives, Raises}
use Rattle.canvas_adapt.specs.declared.stubs.stub.Stub.{Stub}
use Rattle.canvas_adapt.specs.declared.stubs.fault.BadStub.{BadStub}
use Rattle.canvas_adapt.specs.declared.stubs.fault.StubFault.{StubFault}
use Rattle.canvas_adapt.specs.declared.stubs.fault.StubFault.TheVariants.{NoWord, BadName, BadKind, BadNumber, BadWord, Doubled, TooMany}

-- ---- words

-- the exception that a word names, of those that a stub may raise
abbrev pub raise_word : Text → Option Does
raise_word w =
    if bytes_eq w (codes "raise:TypeError") then Some (Raises BadCall)
    else (if bytes_eq w (codes "raise:ZeroDivisionError") then Some (Raises ZeroDivision)
    else (if bytes_eq w (codes "raise:OverflowError") then Some (Raises Overflow)
    else (if bytes_eq w (codes "raise:NotRegistered") then Some (Raises NotRegistered)
    else None)))

abbrev pub task_or : Option Builtin → Option Does → Option Does
task_or (Some task) other = Some (SameAs task)
task_or None other = other

-- the action of a word that names a built-in task or an exception
abbrev pub known_word : Text → Option Does
known_word w = task_or (builtin_of_word w) (raise_word w)

-- one digit or more
abbrev pub are_digits : Text → Bool
are_digits ds = not (length ds == 0) && list_all is_ascii_digit ds

-- a whole number: digits, optionally after a sign
abbrev pub is_number : Text → Bool
is_number w = are_digits (without_leading_sign w)

-- a number that a task may answer
abbrev pub ranged : ℤ → Result Does StubFault
ranged n = if in_range n then Ok (Gives n) else Err BadNumber

-- the refusal of a word that is neither known nor a number
abbrev pub no_word : Text → StubFault
no_word w = if starts_with nat_eq w (codes "raise:") then BadKind else BadWord

abbrev pub number_reading : Text → Result Does StubFault
number_reading w =
    if is_number w then ranged (signed_digits_value 10 w) else Err (no_word w)

abbrev pub or_number : Option Does → Text → Result Does StubFault
or_number (Some does) w = Ok does
or_number None w = number_reading w

-- the action of a word, or why it is refused
abbrev pub word_reading : Text → Result Does StubFault
word_reading w = or_number (known_word w) w

-- ---- stubs

abbrev pub with_name : Text → Result Does StubFault → Result Stub StubFault
with_name name (Ok does) = Ok (record { name = name; does = does })
with_name name (Err fault) = Err fault

-- the name and the word, before and after the last `=`, since no word contains one
abbrev pub split_text : Text → Option (Text × Text)
split_text text = rsplit_once 61 text

abbrev pub parts_reading : Option (Text × Text) → Result Stub StubFault
parts_reading None = Err NoWord
parts_reading (Some parts) =
    if name_ok parts.0 then with_name parts.0 (word_reading parts.1) else Err BadName

-- the stub of a text, or the first reason why there is none
abbrev pub stub_reading : Text → Result Stub StubFault
stub_reading text = parts_reading (split_text text)

-- ---- several texts

-- a text that gives no stub: an empty one, and one that begins with `#`
abbrev pub is_remark : Text → Bool
is_remark text = (length text == 0) || (slice_index text 0 == 35)

-- the stubs with one more at the end, or why it isn't added
abbrev pub stub_added : List Stub → Result Stub StubFault → Result (List Stub) StubFault
stub_added stubs (Ok s) =
    if has_stub s.name stubs then Err Doubled
    else (if nat_le most_tasks (length stubs) then Err TooMany else Ok (stubs ++ s ∷ []))
stub_added stubs (Err fault) = Err fault

-- the stubs with that of one more text at the end
abbrev pub added : List Stub → Text → Result (List Stub) StubFault
added stubs text = if is_remark text then Ok stubs else stub_added stubs (stub_reading text)

abbrev pub read_on : ℕ → Result (List Stub) StubFault
    → (List Stub → Result (List Stub) BadStub) → Result (List Stub) BadStub
read_on k (Ok stubs) next = next stubs
read_on k (Err fault) next = Err (record { before = k; fault = fault })

abbrev pub stubs_from : ℕ → List Stub → List Text → Result (List Stub) BadStub
stubs_from k stubs [] = Ok stubs
stubs_from k stubs (t ∷ ts) = read_on k (added stubs t) (λ more. stubs_from (k + 1) more ts)

-- the stubs of texts, in their order, or the first text that gives none, and why
abbrev pub stubs_reading : List Text → Result (List Stub) BadStub
stubs_reading texts = stubs_from 0 [] texts

-- ---- the text of a stub

abbrev pub word_text : Does → Text
word_text (SameAs task) = word task
word_text (Gives n) = signed_decimal n
word_text (Raises kind) = codes "raise:" ++ kind_name kind

abbrev pub stub_text : Stub → Text
stub_text s = s.name ++ 61 ∷ word_text s.does
