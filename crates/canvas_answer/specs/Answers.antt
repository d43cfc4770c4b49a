-- The program's answer: the bytes for standard output and a status, and, if these are not all that
-- was asked for, why.
use Rattle.std.specs.Prelude.{◌≡◌, ◌⊎◌, ◌==◌, ◌||◌, ℕ, Bool, true, false, [], Option, None, Some}
use Rattle.std.specs.Prelude.{String, string_bytes, if◌then◌else◌}
use Rattle.std.specs.declared.alloc.Global.{Global}
use Rattle.std.specs.declared.io.ErrorKind.{ErrorKind}
use Rattle.std.specs.declared.io.ErrorKind.TheVariants.{OutOfMemory}
use Rattle.canvas_task.specs.Text.{Text}
use Rattle.canvas_answer.specs.declared.answer.Answer.{Answer}
use Rattle.canvas_answer.specs.declared.output.Output.{Output}
use Rattle.canvas_answer.specs.declared.output.Output.TheVariants.{Lines, Bytes, Letters, Start}
use Rattle.canvas_answer.specs.declared.refusal.Refusal.{Refusal}
use Rattle.canvas_answer.specs.declared.refusal.Refusal.TheVariants.{CannotWrite, Memory, Stopped}
use Rattle.canvas_answer.specs.Letters.{message_lines}
use Rattle.canvas_answer.specs.Printing.{printed}

-- the bytes of an output: those that it has, a line for each message, or the bytes of a start
abbrev pub bytes_in : Output → Text
bytes_in (Lines bytes) = bytes.items
bytes_in (Bytes bytes) = bytes.items
bytes_in (Letters letters) = message_lines letters.items
bytes_in (Start bytes) = bytes

-- these bytes are all that was asked for, and the answer has this status
pub record AnswersAll (text : Text) (status : ℕ) (a : Answer) : Type 0 where
  pub out : bytes_in a.out ≡ text
  pub unrefused : a.refusal ≡ None
  pub ends : a.status ≡ status

-- these bytes are all that there is
pub record AnswersPart (text : Text) (refusal : Refusal) (a : Answer) : Type 0 where
  pub out : bytes_in a.out ≡ text
  pub refused : a.refusal ≡ Some refusal

-- 2 if the program ended early, and 1 if it was refused
abbrev pub refusal_status : Refusal → ℕ
refusal_status Memory = 2
refusal_status Stopped = 2
refusal_status refusal = 1

-- why an output that a text is made for isn't printed: memory was refused, or it can't be written
abbrev pub output_refusal : ErrorKind → Refusal
output_refusal OutOfMemory = Memory
output_refusal kind = CannotWrite

-- Whether a status says that not all of an output was printed: 1 if it can't be written, and 2 if
-- memory was refused for a text that is made as it is printed.
abbrev pub is_cut : Output → (status : ℕ) → Bool
is_cut (Lines bytes) n = n == 1
is_cut (Bytes bytes) n = n == 1
is_cut (Letters letters) n = n == 1 || n == 2
is_cut (Start bytes) n = n == 1 || n == 2

-- the status that the program ends with: that of the refusal; else that of the answer, or one which
-- says that not all was printed
abbrev pub ends_with : Option Refusal → Output → (status n : ℕ) → Type 0
ends_with (Some refusal) out status n = n ≡ refusal_status refusal
ends_with None out status n = (n ≡ status) ⊎ (is_cut out n ≡ true)

abbrev pub IsStatus : Answer → ℕ → Type 0
IsStatus a n = ends_with a.refusal a.out a.status n

-- the bytes that reach standard output: each byte as it is if a program reads it, else the text as
-- it is printed
abbrev pub is_raw : Output → Bool
is_raw (Lines bytes) = false
is_raw (Bytes bytes) = true
is_raw (Letters letters) = false
is_raw (Start bytes) = true

abbrev pub printed_of : Output → Text
printed_of out = if is_raw out then bytes_in out else printed (bytes_in out)

abbrev pub printed_out : Answer → Text
printed_out a = printed_of a.out

-- the bytes of a text, or none if there is none
abbrev pub bytes_of : Option (String Global) → Text
bytes_of None = []
bytes_of (Some text) = string_bytes text

-- a refusal in another form, unless memory for that is refused
abbrev pub IsKept : (refusal told : Option Refusal) → Type 0
IsKept None told = told ≡ None
IsKept (Some refusal) told = (told ≡ Some refusal) ⊎ (told ≡ Some Memory)
