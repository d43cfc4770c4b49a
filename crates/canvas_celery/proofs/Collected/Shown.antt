-- Rows of outcomes of the engine's own tasks, which completing leaves such.
use Rattle.std.proofs.Common.{◌≡◌, ◌∙◌, ◌-◌, ◌≤◌, ℕ, List, [], ◌∷◌, map, length, get_or, Some, None, refl, sym, ap, ⊎_elim, arith}
use Rattle.std.specs.Prelude.{slice_set}
use Rattle.std.proofs.Math.ListN.{get_or-map}
use Rattle.std.proofs.lemmas.Bool.{cases_lt}
use Rattle.std.proofs.lemmas.List.{set_past, set-get_or, map-set, length-map}
use Rattle.canvas_task.specs.declared.outcome.Fault.{Fault}
use Rattle.canvas_task.specs.declared.outcome.Outcome.{Outcome}
use Rattle.canvas_task.specs.declared.outcome.Outcome.TheVariants.{Success, Failure}
use Rattle.canvas_semantics.specs.Evaluation.{State}
use Rattle.canvas_semantics.specs.Line.{Line, stop, step, group_end, chord_end, Lines, no_lines, and_line, no_of}
use Rattle.canvas_report.specs.declared.row.Row.{Row}
use Rattle.canvas_report.specs.declared.row.Row.TheVariants as row
use Rattle.canvas_celery.specs.Completed.{Keeps, state_at}
use Rattle.canvas_celery.specs.Completing.{after, same_failure, chord_failure, put_by, put, reached, into_body, completed, all_completed}
use Rattle.canvas_celery.specs.Looks.{Look, known, looks, look_at}
use Rattle.canvas_celery.specs.declared.results.completing.Flow.{Flow}
use Rattle.canvas_celery.specs.declared.results.completing.Flow.TheVariants.{Value, Skip, Raise, Pending}
use Rattle.canvas_celery.proofs.Collected.Flows.{shown}
use Rattle.canvas_celery.proofs.Collected.KeptRows.{kept_refl, kept_trans, set_kept}

pub shown_at : (rows : List State) (k : ℕ) → look_at (shown rows) k ≡ known (state_at rows k)
shown_at rows k = get_or-map (λ s. known s) rows (k - 1) None

pub shown_one : (a b : List State) → shown a ≡ shown b → a ≡ b
shown_one [] [] e = refl
shown_one [] (y ∷ ys) e = absurd cc
shown_one (x ∷ xs) [] e = absurd cc
shown_one (x ∷ xs) (y ∷ ys) e =
    let one : x ≡ y = cc in
    let more : shown xs ≡ shown ys = cc in
    ap (λ z. z ∷ xs) one ∙ ap (λ zs. y ∷ zs) (shown_one xs ys more)

pub looks_shown : (rows : List State) → looks (map (λ s. row.Known s) rows) ≡ shown rows
looks_shown [] = refl
looks_shown (s ∷ rows) = ap (λ ls. known s ∷ ls) (looks_shown rows)

pub rows_shown : (rows : List Row) (ss : List State) → looks rows ≡ shown ss → rows ≡ map (λ s. row.Known s) ss
rows_shown [] [] e = refl
rows_shown [] (s ∷ ss) e = absurd cc
rows_shown (r ∷ rows) [] e = absurd cc
rows_shown (row.Known t ∷ rows) (s ∷ ss) e =
    let one : t ≡ s = cc in
    let more : looks rows ≡ shown ss = cc in
    ap (λ u. row.Known u ∷ rows) one ∙ ap (λ rs. row.Known s ∷ rs) (rows_shown rows ss more)
rows_shown (row.Value json ∷ rows) (s ∷ ss) e = absurd cc
rows_shown (row.Raised name ∷ rows) (s ∷ ss) e = absurd cc
rows_shown (row.Blamed dep name ∷ rows) (s ∷ ss) e = absurd cc

-- what these show is what others do, of which the old ones are kept
pub record Kept (ls : List Look) (old : List State) : Type 0 where
  pub now : List State
  pub is : ls ≡ shown now
  pub keeps : Keeps old now

pub long_shown : (rows : List State) (i : ℕ) → length rows ≤ i → length (shown rows) ≤ i
long_shown rows i past = let long : length (shown rows) ≡ length rows = length-map rows (λ s. known s) in omega (arith, long)

here_shown : (old : List State) (i : ℕ) (st : State) → get_or old i None ≡ st → get_or (shown old) i (known None) ≡ known st
here_shown old i st at = get_or-map (λ s. known s) old i None ∙ ap (λ s. known s) at

pub put_full : (old : List State) (i : ℕ) (x : Look) (o : Outcome) → get_or old i None ≡ Some o → put (shown old) i x ≡ shown old
put_full old i x o at = ap (λ y. put_by y (shown old) i x) (here_shown old i (Some o) at)

pub put_empty : (old : List State) (i : ℕ) (st : State) → get_or old i None ≡ None → put (shown old) i (known st) ≡ shown (slice_set old i st)
put_empty old i st at = ap (λ y. put_by y (shown old) i (known st)) (here_shown old i None at) ∙ sym (map-set (λ s. known s) old i st)

put_none : (old : List State) (i : ℕ) (st : State) → get_or old i None ≡ st → put (shown old) i (known None) ≡ shown old
put_none old i (Some o) at = put_full old i (known None) o at
put_none old i None at =
    put_empty old i None at ∙ ap shown (ap (λ s. slice_set old i s) (sym at) ∙ set-get_or old i None)

pub put_past : (old : List State) (i : ℕ) (st : State) → length old ≤ i → get_or old i None ≡ None → put (shown old) i (known st) ≡ shown old
put_past old i st past at = put_empty old i st at ∙ ap shown (set_past old i st past)

put_failure : (old : List State) (i : ℕ) (f : Fault) (st : State) → get_or old i None ≡ st → Kept (put (shown old) i (known (Some (Failure f)))) old
put_failure old i f (Some o) at = record { now = old; is = put_full old i _ o at; keeps = kept_refl old }
put_failure old i f None at =
    ⊎_elim
    (λ lt. record { now = slice_set old i (Some (Failure f)); is = put_empty old i (Some (Failure f)) at; keeps = set_kept old i f lt at })
    (λ ge. record { now = old; is = put_past old i (Some (Failure f)) ge at; keeps = kept_refl old }) (cases_lt i (length old))

moved : (a b : List Look) (old : List State) → a ≡ b → Kept b old → Kept a old
moved a b old e q = record { now = q.now; is = e ∙ q.is; keeps = q.keeps }

same_kept : (old : List State) (i : ℕ) (st : State) → Kept (put (shown old) i (same_failure (known st))) old
same_kept old i None = record { now = old; is = put_none old i (get_or old i None) refl; keeps = kept_refl old }
same_kept old i (Some (Success n)) = record { now = old; is = put_none old i (get_or old i None) refl; keeps = kept_refl old }
same_kept old i (Some (Failure f)) = put_failure old i f (get_or old i None) refl

chord_kept : (old : List State) (i d : ℕ) (st : State) → Kept (put (shown old) i (chord_failure d (known st))) old
chord_kept old i d None = record { now = old; is = put_none old i (get_or old i None) refl; keeps = kept_refl old }
chord_kept old i d (Some (Success n)) = record { now = old; is = put_none old i (get_or old i None) refl; keeps = kept_refl old }
chord_kept old i d (Some (Failure f)) = put_failure old i _ (get_or old i None) refl

reached_kept : (flow : Flow) (k : ℕ) (old : List State) → Kept (reached flow k (shown old)) old
reached_kept Value k old = record { now = old; is = refl; keeps = kept_refl old }
reached_kept (Skip d) k old =
    moved _ _ old (ap (λ x. put (shown old) (k - 1) (same_failure x)) (shown_at old d)) (same_kept old (k - 1) (state_at old d))
reached_kept (Raise d) k old =
    moved _ _ old (ap (λ x. put (shown old) (k - 1) (chord_failure d x)) (shown_at old d)) (chord_kept old (k - 1) d (state_at old d))
reached_kept Pending k old = record { now = old; is = refl; keeps = kept_refl old }

then_kept : (f : List Look → List Look) (ls : List Look) (old : List State) (q : Kept ls old) → Kept (f (shown q.now)) q.now → Kept (f ls) old
then_kept f ls old q r = record { now = r.now; is = ap f q.is ∙ r.is; keeps = kept_trans old q.now r.now q.keeps r.keeps }

module _ (table : ℕ → List ℕ) where
  mutual
    pub line_kept : (l : Line) (flow : Flow) (old : List State) → Kept (completed table l flow (shown old)) old
    line_kept stop flow old = record { now = old; is = refl; keeps = kept_refl old }
    line_kept (step u rest) flow old =
        let k = no_of u in
        let q = reached_kept flow k old in
        then_kept (λ ls. completed table rest (after flow k (look_at ls k)) ls) (reached flow k (shown old)) old q
        (line_kept rest (after flow k (look_at (shown q.now) k)) q.now)
    line_kept (group_end g ms) flow old = lines_kept ms flow old
    line_kept (chord_end g ms body) flow old =
        let q = lines_kept ms flow old in
        then_kept (λ ls. completed table body (into_body flow (table g) ls) ls) (all_completed table ms flow (shown old)) old q
        (line_kept body (into_body flow (table g) (shown q.now)) q.now)

    lines_kept : (ms : Lines) (flow : Flow) (old : List State) → Kept (all_completed table ms flow (shown old)) old
    lines_kept no_lines flow old = record { now = old; is = refl; keeps = kept_refl old }
    lines_kept (and_line m ms) flow old =
        let q = line_kept m flow old in
        then_kept (λ ls. all_completed table ms flow ls) (completed table m flow (shown old)) old q (lines_kept ms flow q.now)
