-- Identifiers of one run: UUIDs of version 8 (RFC 9562), whose bits that are free beside the number
-- have the run.
use Rattle.std.specs.Prelude.{ℕ, Bool, nat_le, ◌==◌, ◌&&◌, ◌||◌, ◌++◌, length, take, drop, codes}
use Rattle.std.specs.List.{list_all}
use Rattle.canvas_task.specs.Text.{Text}
use Rattle.canvas_task.specs.Identifiers.{task_text, group_text}

-- a lower-case hexadecimal digit: 0 to 9 are 48 to 57, a to f are 97 to 102
abbrev pub is_digit : ℕ → Bool
is_digit b = (nat_le 48 b && nat_le b 57) || (nat_le 97 b && nat_le b 102)

abbrev pub all_digits : Text → Bool
all_digits text = list_all is_digit text

-- a run's number
abbrev pub is_run_number : Text → Bool
is_run_number text = (length text == 22) && all_digits text

-- count bytes of a text, from an index on
abbrev pub piece : (from count : ℕ) → Text → Text
piece from count text = take count (drop from text)

-- An identifier with a run's 22 digits instead of its zero digits: between them are the version,
-- the mark of tasks or of groups, and at the end the number. The first two parts are the run's.
-- Three of its digits follow the 8 of the third part, and three the 8 or 9 of the fourth. Four are
-- the first of the last part, whose other eight digits are the number.
abbrev pub in_run : (run id : Text) → Text
in_run run id =
    piece 0 8 run ++ codes "-" ++ piece 8 4 run ++ codes "-8" ++ piece 12 3 run
    ++ codes "-" ++ piece 19 1 id ++ piece 15 3 run ++ codes "-" ++ piece 18 4 run
    ++ piece 28 8 id

-- the task k, and the group or chord g, of a run
abbrev pub run_task : (run : Text) → ℕ → Text
run_task run k = in_run run (task_text k)

abbrev pub run_group : (run : Text) → ℕ → Text
run_group run g = in_run run (group_text g)

-- the run in an identifier
abbrev pub run_in : Text → Text
run_in text =
    piece 0 8 text ++ piece 9 4 text ++ piece 15 3 text ++ piece 20 3 text ++ piece 24 4 text
