-- Identifiers of tasks and groups: UUIDs of version 8 (RFC 9562), whose last four bytes are the
-- number.
use Rattle.std.specs.Prelude.{ℕ, ◌+◌, ◌*◌, ◌^◌, ◌/◌, ◌%◌, ◌==◌, ◌&&◌, not, if◌then◌else◌, List, [], ◌∷◌, ◌++◌, Option, Some, None, take, slice_index}
use Rattle.std.specs.Option.{option_and_then}
use Rattle.std.specs.Str.{bytes_eq}
use Rattle.uuid.specs.Text.{parsed, hyphenated_text, lower}

-- the first twelve bytes; the ninth is the mark of tasks or of groups
abbrev pub pattern : ℕ → List ℕ
pattern mark = 0 ∷ 0 ∷ 0 ∷ 0 ∷ 0 ∷ 0 ∷ 128 ∷ 0 ∷ mark ∷ 0 ∷ 0 ∷ 0 ∷ []

-- the ninth byte, which begins with the two bits of the variant
abbrev pub task_mark : ℕ
task_mark = 0x80

abbrev pub group_mark : ℕ
group_mark = 0x90

-- a number as four bytes, the most significant first
abbrev pub four_bytes : ℕ → List ℕ
four_bytes n = n / 2 ^ 24 ∷ n / 2 ^ 16 % 256 ∷ n / 2 ^ 8 % 256 ∷ n % 256 ∷ []

-- the sixteen bytes of number n
abbrev pub identifier : ℕ → ℕ → List ℕ
identifier mark n = pattern mark ++ four_bytes n

-- the number at the end of sixteen bytes
abbrev pub number_at_end : List ℕ → ℕ
number_at_end id =
    slice_index id 12 * 2 ^ 24 + slice_index id 13 * 2 ^ 16 + slice_index id 14 * 2 ^ 8
    + slice_index id 15

-- the number that sixteen bytes identify; no task or group has the number 0
abbrev pub number_named : ℕ → List ℕ → Option ℕ
number_named mark id =
    if bytes_eq (take 12 id) (pattern mark)
    && not (number_at_end id == 0) then Some (number_at_end id) else None

-- the number of the task, and of the group or chord, whose identifier a text is, in any form of a
-- UUID
abbrev pub task_named : List ℕ → Option ℕ
task_named text = option_and_then (number_named task_mark) (parsed text)

abbrev pub group_named : List ℕ → Option ℕ
group_named text = option_and_then (number_named group_mark) (parsed text)

-- the text of the task k, and of the group or chord g
abbrev pub task_text : ℕ → List ℕ
task_text k = hyphenated_text lower (identifier task_mark k)

abbrev pub group_text : ℕ → List ℕ
group_text g = hyphenated_text lower (identifier group_mark g)
