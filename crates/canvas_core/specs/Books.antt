-- Properties of each book that a worker may have, and the empty book.
use Rattle.std.specs.Prelude.{◌≡◌, ◌<◌, ℕ, false, Some, None, IsSome}
use Rattle.canvas_runs.specs.Book.{Book}

-- the empty book
abbrev pub no_book : Book
no_book =
    record {
      knows = λ k. false;
      size = λ g. None;
      is_member = λ g k. false;
      member = λ g i. None;
    }

-- a chord has a member of each place below its size
abbrev pub HasMembers : Book → Type 0
HasMembers book =
    (g n i : ℕ) → book.size g ≡ Some n → i < n → IsSome (book.member g i)

-- no member ends with a task of number 0
abbrev pub IsFromOne : Book → Type 0
IsFromOne book = (g : ℕ) → book.is_member g 0 ≡ false
