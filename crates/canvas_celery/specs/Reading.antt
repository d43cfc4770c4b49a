-- Commands read back from their bytes: only what `resp` writes (the Redis serialization protocol,
-- version 2: arrays of bulk strings, as clients send them).
use Rattle.std.specs.Prelude.{ℕ, zero, suc, ◌==◌, nat_eq, if◌then◌else◌, List, [], ◌∷◌, length, take, drop, Option, Some, None, option_and_then, decimal}
use Rattle.std.specs.Str.Parse.{digits_value}
use Rattle.std.specs.Cmp.Lexicographic.{pointwise}
use Rattle.canvas_task.specs.Text.{Text}

-- if the first reads, what follows from it
infixl 10 ◌>>=◌
abbrev pub ◌>>=◌ : {A B : Type 0} → Option A → (A → Option B) → Option B
o >>= f = option_and_then f o

-- the bytes up to the first carriage return, and from there on
abbrev pub before_end : Text → Text
before_end [] = []
before_end (b ∷ bs) = if b == 13 then [] else b ∷ before_end bs

abbrev pub from_end : Text → Text
from_end [] = []
from_end (b ∷ bs) = if b == 13 then b ∷ bs else from_end bs

-- the bytes after the two that end a line
abbrev pub behind_end : Text → Option Text
behind_end (a ∷ b ∷ more) = if a == 13 then (if b == 10 then Some more else None) else None
behind_end bs = None

-- a number as it is written, with no leading zero or sign
abbrev pub number_in : Text → Option ℕ
number_in ds =
    if pointwise nat_eq (decimal (digits_value 10 ds)) ds then Some (digits_value 10 ds) else None

-- a line with a number after its mark, and what follows the line
abbrev pub read_header : (mark : ℕ) → Text → Option (ℕ × Text)
read_header mark [] = None
read_header mark (b ∷ bs) =
    if b == mark
    then (number_in (before_end bs) >>= λ n. behind_end (from_end bs) >>= λ more. Some (n, more))
    else None

-- a bulk string: its length after `$`, then its bytes
abbrev pub read_word : Text → Option (Text × Text)
read_word bs =
    read_header 36 bs >>= λ h. behind_end (drop h.0 h.1) >>= λ more. Some (take h.0 h.1, more)

abbrev pub read_words : ℕ → Text → Option (List Text × Text)
read_words zero bs = Some ([], bs)
read_words (suc n) bs =
    read_word bs >>= λ w. read_words n w.1 >>= λ ws. Some (w.0 ∷ ws.0, ws.1)

-- an array: the number of its words after `*`, then the words
abbrev pub read_command : Text → Option (List Text × Text)
read_command bs = read_header 42 bs >>= λ h. read_words h.0 h.1

-- commands up to the end; each has at least one byte
abbrev pub read_within : (most : ℕ) → Text → Option (List (List Text))
read_within n [] = Some []
read_within zero (b ∷ bs) = None
read_within (suc n) (b ∷ bs) =
    read_command (b ∷ bs) >>= λ c. read_within n c.1 >>= λ cs. Some (c.0 ∷ cs)

abbrev pub read : Text → Option (List (List Text))
read bs = read_within (length bs) bs
