-- The word of an outcome: a number of 64 bits for each outcome, and 0 for a task that is pending.
use Rattle.std.specs.Prelude.{◌≡◌, ℕ, ◌≤◌, ◌<◌, ◌+◌, ◌-◌, ◌*◌, ◌/◌, ◌%◌, ◌^◌, ◌==◌, true, if◌then◌else◌, nat_le, nat_lt, pos, ◌+ℤ◌, ◌-ℤ◌, nat_abs, Option, Some, None, option_map}
use Rattle.canvas_task.specs.Numbers.{in_range}
use Rattle.canvas_task.specs.declared.outcome.Kind.{Kind}
use Rattle.canvas_task.specs.declared.outcome.Kind.TheVariants.{BadCall, ZeroDivision, Overflow, NotRegistered}
use Rattle.canvas_task.specs.declared.outcome.Why.{Why}
use Rattle.canvas_task.specs.declared.outcome.Why.TheVariants as why
use Rattle.canvas_task.specs.declared.outcome.Fault.{Fault}
use Rattle.canvas_task.specs.declared.outcome.Fault.TheVariants.{Plain, Chord}
use Rattle.canvas_task.specs.declared.outcome.Outcome.{Outcome}
use Rattle.canvas_task.specs.declared.outcome.Outcome.TheVariants.{Success, Failure}

-- an outcome that has a word: the number of a success is in range, and a failed header names a task
-- from 1 and of 32 bits
abbrev pub FitsAWord : Outcome → Type 0
FitsAWord (Success n) = in_range n ≡ true
FitsAWord (Failure (Plain kind)) = Unit {0}
FitsAWord (Failure (Chord dep w)) = (1 ≤ dep) × (dep < 2 ^ 32)

-- the code that a failure's word adds for its kind, and for why a member of a header failed
abbrev pub kind_code : Kind → ℕ
kind_code BadCall = 0
kind_code ZeroDivision = 1
kind_code Overflow = 2
kind_code NotRegistered = 3

abbrev pub why_code : Why → ℕ
why_code (why.Plain kind) = kind_code kind
why_code why.Chord = 4

-- the word of a failed header adds 16 times the number of its failed task; a failure that a task
-- raised itself adds none
abbrev pub fault_word : Fault → ℕ
fault_word (Plain kind) = 2 ^ 63 + kind_code kind
fault_word (Chord dep w) = 2 ^ 63 + 16 * dep + why_code w

-- successes from 1 in the order of their numbers, failures from 2^63; no outcome has the word 0
abbrev pub word : Outcome → ℕ
word (Success n) = nat_abs (n +ℤ pos (2 ^ 60 + 1))
word (Failure fault) = fault_word fault

-- the kind, and the cause, that a code encodes
abbrev pub kind_of_code : ℕ → Option Kind
kind_of_code n =
    if n == 0 then Some BadCall
    else (if n == 1 then Some ZeroDivision
    else (if n == 2 then Some Overflow
    else (if n == 3 then Some NotRegistered else None)))

abbrev pub why_of_code : ℕ → Option Why
why_of_code n = if n == 4 then Some why.Chord else option_map why.Plain (kind_of_code n)

-- the fault with this failed task; 0 means that there is none
abbrev pub failure_of_word : ℕ → ℕ → Option Fault
failure_of_word dep code =
    if dep == 0 then option_map Plain (kind_of_code code)
    else (if nat_lt dep (2 ^ 32) then option_map (Chord dep) (why_of_code code) else None)

-- the outcome that a word encodes
abbrev pub outcome_named : ℕ → Option Outcome
outcome_named w =
    if w == 0 then None
    else (if nat_le w (2 ^ 61 + 1) then Some (Success (pos w -ℤ pos (2 ^ 60 + 1)))
    else (if nat_lt w (2 ^ 63) then None
    else option_map Failure (failure_of_word ((w - 2 ^ 63) / 16) ((w - 2 ^ 63) % 16))))
