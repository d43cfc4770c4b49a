-- Rows that are said, one after the other.
use Rattle.std.proofs.Common.{◌≡◌, ℕ, suc, ◌+◌, ◌<◌, arith, List, [], ◌∷◌, ◌++◌, length, length-append, append-nil, append_assoc, refl, sym, ap, ◌∙◌, subst}
use Rattle.canvas_task.specs.Text.{Text}
use Rattle.canvas_report.specs.declared.row.Row.{Row}
use Rattle.canvas_celery.specs.Pieces.{lines_in}
use Rattle.canvas_celery.specs.declared.results.collecting.CollectFault.{CollectFault}
use Rattle.canvas_celery.specs.declared.results.collecting.CollectFault.TheVariants as fault
use Rattle.canvas_celery.specs.AsStored.{Says, AllSaid}
use Rattle.canvas_celery.specs.Refused.{IsCollectFault}
use Rattle.canvas_celery.specs.steps.Rows.{Gains, IsRead, RowFault}

pub longer : {A : Type 0} (xs : List A) (x : A) (n : ℕ) → length xs ≡ n → length (xs ++ x ∷ []) ≡ n + 1
longer xs x n e = length-append xs (x ∷ []) ∙ ap (λ k. k + 1) e

-- where all lines were read none is left
pub none_left : (before left : List Text) (n : ℕ) → length before ≡ n → length (before ++ left) ≡ n → left ≡ []
none_left before [] n as_many whole = refl
none_left before (l ∷ ls) n as_many whole = absurd (omega (arith, length-append before (l ∷ ls)))

pub some_left : (lines before : List Text) (rest : Text) (n count : ℕ) → lines ≡ before ++ lines_in rest → length before ≡ n → length lines ≡ count
    → n < count → 0 < length rest
some_left lines before [] n count whole as_many all less = absurd (omega (arith, ap (λ ls. length ls) whole, length-append before []))
some_left lines before (b ∷ bs) n count whole as_many all less = omega arith

-- the lines before are all of them
pub whole_text : (lines before : List Text) (rest : Text) (n : ℕ) → lines ≡ before ++ lines_in rest → length before ≡ n → length lines ≡ n → lines ≡ before
whole_text lines before rest n whole as_many all =
    let none : lines_in rest ≡ [] = none_left before (lines_in rest) n as_many (ap (λ ls. length ls) (sym whole) ∙ all) in
    whole ∙ (ap (λ ls. before ++ ls) none ∙ append-nil before)

said_more : (run : Text) (count k j : ℕ) (lines : List Text) (rows : List Row) (line : Text) (row : Row)
    → j ≡ k + length rows → AllSaid run count k lines rows → Says run count j line row → AllSaid run count k (lines ++ line ∷ []) (rows ++ row ∷ [])
said_more run count k j [] [] line row e all shows =
    let here : j ≡ k = omega (arith, e) in
    let P : ℕ → Type 0 = λ i. Says run count i line row in
    (subst P here shows, tt)
said_more run count k j [] (r ∷ rs) line row e all shows = absurd all
said_more run count k j (l ∷ ls) [] line row e all shows = absurd all
said_more run count k j (l ∷ ls) (r ∷ rs) line row e all shows =
    let next : j ≡ suc k + length rs = omega (arith, e) in
    (all.0, said_more run count (suc k) j ls rs line row next all.1 shows)

pub read_more : (run : Text) (count : ℕ) (text rest line after : Text) (n : ℕ) (old new : List Row)
    → lines_in rest ≡ line ∷ lines_in after → IsRead run count text rest n old
    → Gains run count (n + 1) line old new → IsRead run count text after (n + 1) new
read_more run count text rest line after n old new next (before, whole, as_many, rows, all) (row, one, shows) =
    let moved : lines_in text ≡ (before ++ line ∷ []) ++ lines_in after =
    whole ∙ (ap (λ ls. before ++ ls) next ∙ sym (append_assoc before (line ∷ []) (lines_in after))) in
    let here : n + 1 ≡ 1 + length old = omega (arith, rows) in
    let P : List Row → Type 0 = λ rs. AllSaid run count 1 (before ++ line ∷ []) rs in (
      before ++ line ∷ [],
      moved,
      longer before line n as_many,
      ap (λ rs. length rs) one ∙ longer old row n rows,
      subst P (sym one) (said_more run count 1 (n + 1) before old line row here all shows),
    )

pub read_none : (run : Text) (count : ℕ) (text : Text) (rows : List Row) → rows ≡ [] → IsRead run count text text 0 rows
read_none run count text rows e =
    let P : List Row → Type 0 = λ rs. AllSaid run count 1 [] rs in
    ([], refl, refl, ap (λ rs. length rs) e, subst P (sym e) tt)

pub read_all : (run : Text) (count : ℕ) (text rest : Text) (n : ℕ) (rows : List Row)
    → IsRead run count text rest n rows → length (lines_in text) ≡ n → AllSaid run count 1 (lines_in text) rows
read_all run count text rest n rows (before, whole, as_many, _, all) long =
    let P : List Text → Type 0 = λ ls. AllSaid run count 1 ls rows in
    subst P (sym (whole_text (lines_in text) before rest n whole as_many long)) all

pub refused_next : (run : Text) (count : ℕ) (text rest line after : Text) (n : ℕ) (rows : List Row) (e : CollectFault)
    → lines_in rest ≡ line ∷ lines_in after → IsRead run count text rest n rows → length (lines_in text) ≡ count
    → RowFault run count (n + 1) line e → IsCollectFault run count (lines_in text) e
refused_next run count text rest line after n rows fault.BadCount next read long refused = absurd refused
refused_next run count text rest line after n rows fault.Memory next read long refused = tt
refused_next run count text rest line after n rows (fault.Stored task stored) next (before, whole, as_many, _, all) long refused =
    (long, (before, rows, line, lines_in after, whole ∙ ap (λ ls. before ++ ls) next, refused.0 ∙ ap (λ k. k + 1) (sym as_many), all, refused.1))
