-- Rows of any kind that stay, or are filled.
use Rattle.std.proofs.Common.{◌≡◌, ◌≢◌, ◌∙◌, ◌<◌, ◌≤◌, ℕ, ℤ, List, length, get_or, set, Some, None, inl, inr, refl, sym, ap, subst, ⊎_elim, arith}
use Rattle.std.proofs.Math.ListN.{get_or-map}
use Rattle.std.proofs.lemmas.Bool.{cases_eq}
use Rattle.std.proofs.lemmas.List.{get_or-set_other, get_or_default, get_or_past, set_past, map-set, length-map}
use Rattle.std.proofs.lemmas.Grind.{get_or-set_at}
use Rattle.canvas_task.specs.declared.outcome.Outcome.TheVariants.{Success, Failure}
use Rattle.canvas_report.specs.declared.row.Row.{Row}
use Rattle.canvas_report.specs.declared.row.Row.TheVariants as row
use Rattle.canvas_celery.specs.Completing.{put, put_by, same_failure, chord_failure}
use Rattle.canvas_celery.specs.FilledRows.{pending, IsFailed, IsFilling, IsFilled, AreFilled}
use Rattle.canvas_celery.specs.Looks.{Look, known, value, raised, blamed, look, looks}

pub filled_refl : (rows : List Row) → AreFilled rows rows
filled_refl rows k = inl refl

still : (old between new : Row) → IsFilled old between → new ≡ between → IsFilled old new
still old between new first e = let P : Row → Type 0 = λ row. IsFilled old row in subst P (sym e) first

then_filled : (old between new : Row) → IsFilled old between → between ≡ pending → IsFailed new → IsFilled old new
then_filled old between new (inl same) empty failed = inr (sym same ∙ empty, failed)
then_filled old between new (inr filled) empty failed = absurd (subst IsFailed empty filled.1)

row_trans : (old between new : Row) → IsFilled old between → IsFilled between new → IsFilled old new
row_trans old between new first (inl same) = still old between new first same
row_trans old between new first (inr filled) = then_filled old between new first filled.0 filled.1

pub filled_trans : (a b c : List Row) → AreFilled a b → AreFilled b c → AreFilled a c
filled_trans a b c first second k = row_trans (get_or a k pending) (get_or b k pending) (get_or c k pending) (first k) (second k)

filled_by : (old new row : Row) → old ≡ pending → new ≡ row → IsFilling row → IsFilled old new
filled_by old new row empty is (inl same) = inl (is ∙ (same ∙ sym empty))
filled_by old new row empty is (inr failed) = inr (empty, subst IsFailed (sym is) failed)

pub set_filled : (rows : List Row) (i : ℕ) (row : Row) → i < length rows → get_or rows i pending ≡ pending → IsFilling row → AreFilled rows (set rows i row)
set_filled rows i row within empty filling k =
    ⊎_elim
    (λ e.
    let at : get_or (set rows i row) k pending ≡ row = get_or-set_at rows i k row pending e within in
    let here : get_or rows k pending ≡ pending = ap (λ j. get_or rows j pending) e ∙ empty in
    filled_by (get_or rows k pending) (get_or (set rows i row) k pending) row here at filling)
    (λ n. inl (get_or-set_other rows i k row pending n))
    (cases_eq k i)

pub ruleset filled = (filled_trans, filled_refl, set_filled)

-- ---- a row at its place

pub open_at : (rows : List Row) (i : ℕ) (row : Row) → i < length rows → row ≡ get_or rows i row → row ≡ pending → get_or rows i pending ≡ pending
open_at rows i row within is empty = get_or_default rows i pending row within ∙ (sym is ∙ empty)

shut : (ls : List Look) (i : ℕ) (x y : Look) → y ≢ known None → put_by y ls i x ≡ ls
shut ls i x (known None) other = absurd (other refl)
shut ls i x (known (Some o)) other = refl
shut ls i x (value json) other = refl
shut ls i x (raised name) other = refl
shut ls i x (blamed dep name) other = refl

seen_at : (rows : List Row) (i : ℕ) → get_or (looks rows) i (known None) ≡ look (get_or rows i pending)
seen_at rows i = get_or-map look rows i pending

pub shut_at : (rows : List Row) (i : ℕ) (row : Row) → i < length rows → row ≡ get_or rows i row → look row ≢ look pending
    → (x : Look) → put (looks rows) i x ≡ looks rows
shut_at rows i row within is other x =
    let here : get_or (looks rows) i (known None) ≡ look row = seen_at rows i ∙ ap look (get_or_default rows i pending row within ∙ sym is) in
    shut (looks rows) i x (get_or (looks rows) i (known None)) (λ e. other (sym here ∙ e))

pub past_at : (rows : List Row) (i : ℕ) → length rows ≤ i → (x : Look) → put (looks rows) i x ≡ looks rows
past_at rows i past x =
    let long : length (looks rows) ≡ length rows = length-map rows look in
    let here : get_or (looks rows) i (known None) ≡ known None = get_or_past (looks rows) i (known None) (omega (arith, long)) in
    ap (λ y. put_by y (looks rows) i x) here ∙ set_past (looks rows) i x (omega (arith, long))

pub put_open : (rows : List Row) (i : ℕ) (row : Row) → get_or rows i pending ≡ pending → looks (set rows i row) ≡ put (looks rows) i (look row)
put_open rows i row empty =
    let here : get_or (looks rows) i (known None) ≡ known None = seen_at rows i ∙ ap look empty in
    map-set look rows i row ∙ sym (ap (λ y. put_by y (looks rows) i (look row)) here)

-- ---- what fills a row

no_success : (x : Look) (n : ℤ) → known (Some (Success n)) ≡ same_failure x → ⊥
no_success (known None) n e = absurd cc
no_success (known (Some (Success m))) n e = absurd cc
no_success (known (Some (Failure f))) n e = absurd cc
no_success (value json) n e = absurd cc
no_success (raised name) n e = absurd cc
no_success (blamed dep name) n e = absurd cc

no_value : (x : Look) (t : List ℕ) → value t ≡ same_failure x → ⊥
no_value (known None) t e = absurd cc
no_value (known (Some (Success m))) t e = absurd cc
no_value (known (Some (Failure f))) t e = absurd cc
no_value (value json) t e = absurd cc
no_value (raised name) t e = absurd cc
no_value (blamed dep name) t e = absurd cc

pub same_filling : (x : Look) (made : Row) → look made ≡ same_failure x → IsFilling made
same_filling x (row.Known None) e = inl refl
same_filling x (row.Known (Some (Success n))) e = absurd (no_success x n e)
same_filling x (row.Known (Some (Failure f))) e = inr tt
same_filling x (row.Value json) e = absurd (no_value x _ e)
same_filling x (row.Raised name) e = inr tt
same_filling x (row.Blamed dep name) e = inr tt

no_chord_success : (k : ℕ) (x : Look) (n : ℤ) → known (Some (Success n)) ≡ chord_failure k x → ⊥
no_chord_success k (known None) n e = absurd cc
no_chord_success k (known (Some (Success m))) n e = absurd cc
no_chord_success k (known (Some (Failure f))) n e = absurd cc
no_chord_success k (value json) n e = absurd cc
no_chord_success k (raised name) n e = absurd cc
no_chord_success k (blamed dep name) n e = absurd cc

no_chord_value : (k : ℕ) (x : Look) (t : List ℕ) → value t ≡ chord_failure k x → ⊥
no_chord_value k (known None) t e = absurd cc
no_chord_value k (known (Some (Success m))) t e = absurd cc
no_chord_value k (known (Some (Failure f))) t e = absurd cc
no_chord_value k (value json) t e = absurd cc
no_chord_value k (raised name) t e = absurd cc
no_chord_value k (blamed dep name) t e = absurd cc

pub chord_filling : (k : ℕ) (x : Look) (made : Row) → look made ≡ chord_failure k x → IsFilling made
chord_filling k x (row.Known None) e = inl refl
chord_filling k x (row.Known (Some (Success n))) e = absurd (no_chord_success k x n e)
chord_filling k x (row.Known (Some (Failure f))) e = inr tt
chord_filling k x (row.Value json) e = absurd (no_chord_value k x _ e)
chord_filling k x (row.Raised name) e = inr tt
chord_filling k x (row.Blamed dep name) e = inr tt
