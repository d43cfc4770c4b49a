-- A text that is no identifier names nothing; the text of a number names it.
use Rattle.std.proofs.Common.{◌≡◌, ℕ, ◌<◌, ◌^◌, ◌%◌, List, Option, Some, None, All, not, ◌==◌, if◌then◌else◌, refl, sym, ap, ◌∙◌, arith, inl}
use Rattle.std.specs.Option.{option_and_then}
use Rattle.std.proofs.lemmas.Bool.Decides.{nat_tests}
use Rattle.std.proofs.lemmas.List.Elements.{All-from_recursion}
use Rattle.uuid.proofs.RoundTrips.{parses_hyphenated}
use Rattle.uuid.specs.Text.{parsed, hyphenated_text, lower}
use Rattle.canvas_task.specs.Identifiers.{number_named, number_at_end, identifier, task_mark, group_mark, task_text, group_text, task_named, group_named}

pub unnamed : (mark : ℕ) (o : Option (List ℕ)) → ((u : List ℕ) → o ≡ Some u → ⊥) → None ≡ option_and_then (number_named mark) o
unnamed mark None h = refl
unnamed mark (Some u) h = absurd (h u refl)

-- four bytes give the number back
pub number_back : (mark n : ℕ) → n < 2 ^ 32 → number_at_end (identifier mark n) ≡ n
number_back mark n h = omega arith

small_bytes : (mark n : ℕ) → mark < 256 → n < 2 ^ 32 → All (λ b. b < 256) (identifier mark n)
small_bytes mark n m h =
    let byte : (k : ℕ) → k % 256 < 256 = λ k. omega arith in
    All-from_recursion (λ b. b < 256) (identifier mark n) (
      omega arith,
      (
        omega arith,
        (
          omega arith,
          (
            omega arith,
            (
              omega arith,
              (
                omega arith,
                (
                  omega arith,
                  (
                    omega arith,
                    (
                      m,
                      (
                        omega arith,
                        (
                          omega arith,
                          (
                            omega arith,
                            (omega arith, (omega arith, (omega arith, (omega arith, tt)))),
                          ),
                        ),
                      ),
                    ),
                  ),
                ),
              ),
            ),
          ),
        ),
      ),
    )

some_number : (k n : ℕ) → k ≡ n → 0 < n → (if not (k == 0) then Some k else None) ≡ Some n
some_number k n e h = grind (arith, nat_tests)

-- the text of an identifier is read as its sixteen bytes
read_back : (mark n : ℕ) (X : List ℕ → Option ℕ) → mark < 256 → n < 2 ^ 32
    → option_and_then X (parsed (hyphenated_text lower (identifier mark n))) ≡ X (identifier mark n)
read_back mark n X m h =
    ap (option_and_then X) (sym (parses_hyphenated lower (identifier mark n) (inl refl) refl (small_bytes mark n m h)))

pub task_back : (n : ℕ) → 0 < n → n < 2 ^ 32 → task_named (task_text n) ≡ Some n
task_back n some h =
    read_back task_mark n (number_named task_mark) (omega arith) h ∙ some_number (number_at_end (identifier task_mark n)) n (number_back task_mark n h) some

pub group_back : (n : ℕ) → 0 < n → n < 2 ^ 32 → group_named (group_text n) ≡ Some n
group_back n some h =
    read_back group_mark n (number_named group_mark) (omega arith) h ∙ some_number (number_at_end (identifier group_mark n)) n (number_back group_mark n h) some

-- the text of a task names no group, and the text of a group no task
pub task_is_no_group : (n : ℕ) → n < 2 ^ 32 → group_named (task_text n) ≡ None
task_is_no_group n h = read_back task_mark n (number_named group_mark) (omega arith) h

pub group_is_no_task : (n : ℕ) → n < 2 ^ 32 → task_named (group_text n) ≡ None
group_is_no_task n h = read_back group_mark n (number_named task_mark) (omega arith) h
