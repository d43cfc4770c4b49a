-- The lines of the rows, one task after the other.
use Rattle.std.proofs.Common.{◌≡◌, ◌≤◌, ℕ, zero, suc, ◌+◌, ◌-◌, ◌==◌, if◌then◌else◌, false, List, [], ◌∷◌, ◌++◌, length, drop, map, None, refl, sym, ap, ◌∙◌, append_assoc, append-nil, arith}
use Rattle.std.proofs.lemmas.Bool.Decides.{nat_tests}
use Rattle.std.proofs.lemmas.List.{drop_all}
use Rattle.std.specs.Prelude.{slice_get, unwrap_or}
use Rattle.canvas_task.specs.Text.{Text}
use Rattle.canvas_report.specs.declared.row.Row.{Row}
use Rattle.canvas_report.specs.declared.row.Row.TheVariants as row
use Rattle.canvas_semantics.specs.Evaluation.{State, state_of}
use Rattle.canvas_semantics.specs.States.{rows_from}
use Rattle.canvas_semantics.specs.Line.{name_at}
use Rattle.canvas_semantics.specs.Report.{counted_from}
use Rattle.canvas_semantics.proofs.RowLookups.{flat, of_task}
use Rattle.canvas_report.specs.declared.shown.Status.{Status}
use Rattle.canvas_report.specs.declared.shown.Status.TheVariants.{Pending, Success, Failure}
use Rattle.canvas_report.specs.JsonRows.{worse}
use Rattle.canvas_report.specs.StoredRows.{row_of}
use Rattle.canvas_report.specs.steps.ReportRows.{line_if}
use Rattle.canvas_report.specs.Listing.{lines}

-- ---- a status

pub worse_assoc : (a b c : Status) → worse (worse a b) c ≡ worse a (worse b c)
worse_assoc Failure b c = refl
worse_assoc Success b c = refl
worse_assoc Pending Failure c = refl
worse_assoc Pending Success c = refl
worse_assoc Pending Pending Failure = refl
worse_assoc Pending Pending Success = refl
worse_assoc Pending Pending Pending = refl

pub worse_success : (a : Status) → worse a Success ≡ a
worse_success Failure = refl
worse_success Success = refl
worse_success Pending = refl

-- ---- lines

-- the line of the task at place i, and of those after it
further : (f : ℕ × Text → Text) (ns : List Text) (i k : ℕ) → line_if f (k + i) (slice_get ns i) ++ lines f (counted_from (k + suc i) (drop (suc i) ns))
    ≡ lines f (counted_from (k + i) (drop i ns))
further f [] zero k = refl
further f [] (suc i) k = refl
further f (n ∷ ns) zero k = ap (λ m. f (k + 0, n) ++ lines f (counted_from m ns)) (omega arith)
further f (n ∷ ns) (suc i) k =
    let next : k + suc i ≡ suc k + i = omega arith in
    let after : k + suc (suc i) ≡ suc k + suc i = omega arith in
    ap (λ m. line_if f m (slice_get ns i) ++ lines f (counted_from (k + suc (suc i)) (drop (suc i) ns))) next
    ∙ ap (λ m. line_if f (suc k + i) (slice_get ns i) ++ lines f (counted_from m (drop (suc i) ns))) after
    ∙ further f ns i (suc k)
    ∙ ap (λ m. lines f (counted_from m (drop i ns))) (sym next)

-- one more line is written
pub one_more : (f : ℕ × Text → Text) (ns : List Text) (i : ℕ) (before after all : Text) → after ≡ before ++ line_if f (i + 1) (name_at ns (i + 1))
    → before ++ lines f (counted_from (1 + i) (drop i ns)) ≡ all → after ++ lines f (counted_from (1 + (i + 1)) (drop (i + 1) ns)) ≡ all
one_more f ns i before after all e so_far =
    let up : i + 1 ≡ suc i = omega arith in
    let on : suc i ≡ 1 + i = omega arith in
    let written : after ≡ before ++ line_if f (1 + i) (slice_get ns i) =
    e ∙ ap (λ m. before ++ line_if f m (name_at ns m)) up ∙ ap (λ m. before ++ line_if f m (slice_get ns i)) on in
    ap (λ m. after ++ lines f (counted_from (1 + m) (drop m ns))) up
    ∙ ap (λ x. x ++ lines f (counted_from (1 + suc i) (drop (suc i) ns))) written
    ∙ append_assoc before (line_if f (1 + i) (slice_get ns i)) (lines f (counted_from (1 + suc i) (drop (suc i) ns)))
    ∙ ap (λ x. before ++ x) (further f ns i 1)
    ∙ so_far

-- at the end nothing is left to write
pub all_written : (f : ℕ × Text → Text) (ns : List Text) (n : ℕ) (before all : Text) → length ns ≡ n
    → before ++ lines f (counted_from (1 + n) (drop n ns)) ≡ all
    → before ≡ all
all_written f ns n before all long so_far =
    let none : drop n ns ≡ [] = drop_all n ns (omega (arith, long)) in
    sym (append-nil before) ∙ ap (λ xs. before ++ lines f (counted_from (1 + n) xs)) (sym none) ∙ so_far

-- ---- a row, by the number of its task

pub row_found : (rows : List Row) (k n : ℕ) → n ≡ k → 1 ≤ n → unwrap_or (slice_get rows (n - 1)) (row.Known None) ≡ row_of rows k
row_found rows zero n same some = absurd (omega (arith, same, some))
row_found rows (suc k) n same some =
    let place : n - 1 ≡ k = omega (arith, same, some) in
    ap (λ i. unwrap_or (slice_get rows i) (row.Known None)) place

none_below : (ss : List State) (m : ℕ) → state_of 0 (rows_from (suc m) ss) ≡ None
none_below [] m = refl
none_below (s ∷ ss) m =
    let other : (suc m == 0) ≡ false = grind (arith, nat_tests) in
    ap (λ b. if b then s else state_of 0 (rows_from (suc (suc m)) ss)) other ∙ none_below ss (suc m)

known : (ss : List State) (k : ℕ) → unwrap_or (slice_get (map (λ s. row.Known s) ss) k) (row.Known None) ≡ row.Known (flat (slice_get ss k))
known [] zero = refl
known [] (suc k) = refl
known (s ∷ ss) zero = refl
known (s ∷ ss) (suc k) = known ss k

-- of a run
pub row_state : (ss : List State) (k : ℕ) → row_of (map (λ s. row.Known s) ss) k ≡ row.Known (state_of k (rows_from 1 ss))
row_state ss zero = ap (λ s. row.Known s) (sym (none_below ss 0))
row_state ss (suc k) =
    let place : k ≡ suc k - 1 = omega arith in
    known ss k ∙ ap (λ s. row.Known s) (of_task ss (suc k) (suc k) (slice_get ss k) (slice_get ss k) refl (omega arith) (ap (λ i. slice_get ss i) place) refl)
