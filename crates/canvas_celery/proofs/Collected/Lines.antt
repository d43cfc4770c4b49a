-- Lines of a text.
use Rattle.std.proofs.Common.{◌≡◌, ◌==◌, ℕ, suc, ◌+◌, ◌-◌, ◌<◌, ◌≤◌, Bool, true, false, cond, List, [], ◌∷◌, length, refl, arith, length-drop}
use Rattle.std.specs.List.{onto_first, position_or_len, before_first, after_first}
use Rattle.canvas_task.specs.Text.{Text}
use Rattle.canvas_celery.specs.Pieces.{lines_in}

-- whether a byte is a line feed
abbrev ends : ℕ → Bool
ends b = b == 10

longer : (b : ℕ) (lines : List Text) → length (onto_first b lines) ≤ suc (length lines)
longer b [] = omega arith
longer b (l ∷ ls) = omega arith

before-yes : (p : ℕ → Bool) (b : ℕ) (bs : Text) → p b ≡ true → before_first p (b ∷ bs) ≡ []
before-yes p b bs e = rw e refl

before-no : (p : ℕ → Bool) (b : ℕ) (bs : Text) → p b ≡ false → before_first p (b ∷ bs) ≡ b ∷ before_first p bs
before-no p b bs e =
    let more : 1 + position_or_len p bs ≡ suc (position_or_len p bs) = omega arith in
    rw e (rw more refl)

after-yes : (p : ℕ → Bool) (b : ℕ) (bs : Text) → p b ≡ true → after_first p (b ∷ bs) ≡ bs
after-yes p b bs e = rw e refl

after-no : (p : ℕ → Bool) (b : ℕ) (bs : Text) → p b ≡ false → after_first p (b ∷ bs) ≡ after_first p bs
after-no p b bs e =
    let more : 1 + position_or_len p bs + 1 ≡ suc (position_or_len p bs + 1) = omega arith in
    rw e (rw more refl)

-- the first line ends before the first line feed
abbrev IsFirst : Text → Type 0
IsFirst text = lines_in text ≡ before_first ends text ∷ lines_in (after_first ends text)

at_end : (b : ℕ) (bs : Text) → ends b ≡ true → IsFirst (b ∷ bs)
at_end b bs e = rw (before-yes ends b bs e, after-yes ends b bs e) (rw e refl)

at_last : (b : ℕ) → ends b ≡ false → IsFirst (b ∷ [])
at_last b e = rw (before-no ends b [] e, after-no ends b [] e) (rw e refl)

further : (b : ℕ) (bs : Text) → ends b ≡ false → IsFirst bs → IsFirst (b ∷ bs)
further b bs e first = rw (before-no ends b bs e, after-no ends b bs e) (rw e (rw first refl))

pub first_line : (b : ℕ) (bs : Text) → IsFirst (b ∷ bs)
first_line b [] = elim (ends b) as (λ e. ends b ≡ e → IsFirst (b ∷ [])) [ true ↦ at_end b [] | false ↦ at_last b ] refl
first_line b (c ∷ cs) =
    elim (ends b) as (λ e. ends b ≡ e → IsFirst (b ∷ c ∷ cs)) [ true ↦ at_end b (c ∷ cs) | false ↦ (λ e. further b (c ∷ cs) e (first_line c cs)) ] refl

pub some_line : (text : Text) → 0 < length text → IsFirst text
some_line [] h = absurd (omega arith)
some_line (b ∷ bs) h = first_line b bs

pub few_lines : (text : Text) → length (lines_in text) ≤ length text
few_lines [] = omega arith
few_lines (b ∷ bs) =
    elim (ends b) as (λ e. length (cond e ([] ∷ lines_in bs) (onto_first b (lines_in bs))) ≤ length (b ∷ bs)) [
      | true ↦ (let shorter = few_lines bs in omega arith)
      | false ↦ (let shorter = few_lines bs in let one = longer b (lines_in bs) in omega arith)
    ]

pub shorter_after : (text : Text) → 0 < length text → length (after_first ends text) < length text
shorter_after text h =
    let less : length (after_first ends text) ≡ length text - (position_or_len ends text + 1) = length-drop (position_or_len ends text + 1) text in
    omega arith
