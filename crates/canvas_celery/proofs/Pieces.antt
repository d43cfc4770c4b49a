-- Identifiers and keys in pieces.
use Rattle.std.proofs.Common.{◌≡◌, ◌∙◌, true, ◌&&◌, Bool, false, ℕ, zero, suc, ◌+◌, ◌<◌, ◌≤◌, List, [], ◌∷◌, ◌++◌, length, take, drop, slice_index_or, refl, sym, ap, arith, codes}
use Rattle.std.proofs.Math.Seq.{drop-cons, take-length}
use Rattle.std.specs.Prelude.{Result, Ok, Err, OnOk}
use Rattle.canvas_task.specs.Text.{Text}
use Rattle.std.specs.Str.{IsAscii}
use Rattle.std.proofs.lemmas.Str.{IsAscii-drop, IsAscii-take, IsAscii-append}
use Rattle.std.proofs.lemmas.Bool.Decides.{nat_tests}
use Rattle.canvas_celery.specs.Run.{is_digit, all_digits, piece, in_run}
use Rattle.canvas_celery.specs.Keys.{key_line, result_keys}

-- count elements, from an index on
abbrev pub seen : (from count : ℕ) → List ℕ → List ℕ
seen from zero xs = []
seen from (suc n) xs = slice_index_or xs from 0 ∷ seen (suc from) n xs

pub piece_seen : (from count : ℕ) (xs : List ℕ) → from + count ≤ length xs → piece from count xs ≡ seen from count xs
piece_seen from zero xs h = refl
piece_seen from (suc n) xs h =
    let inside : from < length xs = omega (arith, h) in
    let rest : suc from + n ≤ length xs = omega (arith, h) in
    ap (λ ys. take (suc n) ys) (drop-cons xs from 0 inside) ∙ ap (λ ys. slice_index_or xs from 0 ∷ ys) (piece_seen (suc from) n xs rest)

pub whole_seen : (r : List ℕ) → length r ≡ 22 → seen 0 22 r ≡ r
whole_seen r h = sym (piece_seen 0 22 r (omega (arith, h))) ∙ (ap (λ n. take n r) (sym h) ∙ take-length r)

pub in_run_seen : (r id : List ℕ) → length r ≡ 22 → length id ≡ 36
    → in_run r id ≡ seen 0 8 r ++ codes "-" ++ seen 8 4 r ++ codes "-8" ++ seen 12 3 r ++ codes "-" ++ seen 19 1 id ++ seen 15 3 r ++ codes "-" ++ seen 18 4 r ++ seen 28 8 id
in_run_seen r id h k =
    rw (
      piece_seen 0 8 r (omega (arith, h)),
      piece_seen 8 4 r (omega (arith, h)),
      piece_seen 12 3 r (omega (arith, h)),
      piece_seen 19 1 id (omega (arith, k)),
      piece_seen 15 3 r (omega (arith, h)),
      piece_seen 18 4 r (omega (arith, h)),
      piece_seen 28 8 id (omega (arith, k)),
    ) refl

pub one_more : (run prefix : Text) (i : ℕ) → result_keys run prefix i ++ key_line run prefix (i + 1) ≡ result_keys run prefix (i + 1)
one_more run prefix i =
    let e : i + 1 ≡ suc i = omega arith in
    rw e refl

-- what was written, in another form
pub ok_as : {E A : Type 0} (r : Result (Unit {0}) E) (new a b : List A) → a ≡ b → OnOk r (new ≡ a) → OnOk r (new ≡ b)
ok_as (Ok x) new a b e h = h ∙ e
ok_as (Err x) new a b e h = tt

-- ---- digits and identifiers are ASCII

and-first : (a b : Bool) → (a && b) ≡ true → a ≡ true
and-first true b h = refl
and-first false b h = absurd cc

and-second : (a b : Bool) → (a && b) ≡ true → b ≡ true
and-second true b h = h
and-second false b h = absurd cc

digit_small : (b : ℕ) → is_digit b ≡ true → b < 128
digit_small b h = grind (arith, nat_tests)

pub digits_ascii : (run : Text) → all_digits run ≡ true → IsAscii run
digits_ascii [] h i = omega arith
digits_ascii (b ∷ run) h zero = digit_small b (and-first (is_digit b) (all_digits run) h)
digits_ascii (b ∷ run) h (suc i) = digits_ascii run (and-second (is_digit b) (all_digits run) h) i

pub piece_ascii : (from count : ℕ) (text : Text) → IsAscii text → IsAscii (piece from count text)
piece_ascii from count text h = IsAscii-take (drop from text) count (IsAscii-drop text from h)

dash : IsAscii (codes "-")
dash zero = omega arith
dash (suc i) = omega arith

eight : IsAscii (codes "-8")
eight zero = omega arith
eight (suc zero) = omega arith
eight (suc (suc i)) = omega arith

pub in_run_ascii : (run id : Text) → IsAscii run → IsAscii id → IsAscii (in_run run id)
in_run_ascii run id r i =
    let p8 = piece_ascii 0 8 run r in
    let a1 = IsAscii-append _ _ p8 dash in
    let a2 = IsAscii-append _ _ a1 (piece_ascii 8 4 run r) in
    let a3 = IsAscii-append _ _ a2 eight in
    let a4 = IsAscii-append _ _ a3 (piece_ascii 12 3 run r) in
    let a5 = IsAscii-append _ _ a4 dash in
    let a6 = IsAscii-append _ _ a5 (piece_ascii 19 1 id i) in
    let a7 = IsAscii-append _ _ a6 (piece_ascii 15 3 run r) in
    let a8 = IsAscii-append _ _ a7 dash in
    let a9 = IsAscii-append _ _ a8 (piece_ascii 18 4 run r) in
    IsAscii-append _ _ a9 (piece_ascii 28 8 id i)
