-- Rows that show the states of a run and the classes of its exceptions.
use Rattle.std.proofs.Common.{◌≡◌, ◌∙◌, ◌<◌, ◌≤◌, ◌+◌, ◌-◌, ℕ, zero, suc, Bool, true, false, List, [], ◌∷◌, ◌++◌, length, Option, Some, None, String, Global, string_bytes, refl, sym, ap, subst, arith}
use Rattle.std.specs.Prelude.{nat_lt, option_map, slice_get, unwrap_or}
use Rattle.std.specs.Borrow.{Bor}
use Rattle.std.proofs.lemmas.List.{length_push}
use Rattle.canvas_task.specs.Text.{Text}
use Rattle.canvas_task.specs.declared.outcome.Fault.TheVariants.{Plain, Chord}
use Rattle.canvas_task.specs.declared.outcome.Kind.TheVariants.{BadCall, ZeroDivision, Overflow, NotRegistered}
use Rattle.canvas_task.specs.declared.outcome.Outcome.TheVariants.{Success, Failure}
use Rattle.canvas_task.specs.declared.outcome.Why.TheVariants as why
use Rattle.canvas_semantics.specs.Evaluation.{State, state_of}
use Rattle.canvas_semantics.specs.Line.{Line, name_of}
use Rattle.canvas_semantics.specs.Report.{report_of}
use Rattle.canvas_semantics.specs.States.{rows_from}
use Rattle.canvas_semantics.specs.Tree.{Tree}
use Rattle.canvas_semantics.proofs.RowLookups.{flat, of_task}
use Rattle.canvas_report.specs.Fates.{Fates}
use Rattle.canvas_report.specs.JsonRows.{Shown, shown, raised_wire, blamed_wire, json_lines, report_wire}
use Rattle.canvas_report.specs.StoredRows.{row_of, Shows, AllShow}
use Rattle.canvas_report.specs.Wording.{stored_said}
use Rattle.canvas_report.specs.declared.row.Row.{Row}
use Rattle.canvas_report.specs.declared.row.Row.TheVariants.{Known, Value, Raised, Blamed}
use Rattle.canvas_report.proofs.ReportLines.{run_said}
use Rattle.canvas_report.proofs.RowLines.{row_state}
use Rattle.canvas_adapt.specs.declared.stubs.stub.Stub.{Stub}
use Rattle.canvas_answer.specs.Raised.{class_if_named, class_of, own_class, IsRaised, IsBlamed, IsShown, AreShown}
use Rattle.canvas_answer.specs.Told.{IsJsonOf, known_states}
use Rattle.canvas_answer.proofs.Classes.{in_before, at_end, past_end, below, not_below, none_if_none}

-- ---- states by place

state_at : (ss : List State) (i : ℕ) → flat (slice_get ss i) ≡ state_of (suc i) (rows_from 1 ss)
state_at ss i =
    let place : i ≡ suc i - 1 = omega arith in
    of_task ss (suc i) (suc i) (slice_get ss i) (slice_get ss i) refl (omega arith) (ap (λ k. slice_get ss k) place) refl

state_first : (ss : List State) → state_of 0 (rows_from 1 ss) ≡ None
state_first ss =
    let known : Known None ≡ Known (state_of 0 (rows_from 1 ss)) = row_state ss 0 in
    let same : None ≡ state_of 0 (rows_from 1 ss) = cc in
    sym same

-- ---- the classes decide

pub shown_same : (f g : ℕ → Option Text) → ((k : ℕ) → f k ≡ g k) → (k : ℕ) (s : State) (r : Row) → IsShown f k s r → IsShown g k s r
shown_same f g same k None r h = h
shown_same f g same k (Some (Success n)) r h = h
shown_same f g same k (Some (Failure (Plain BadCall))) r h = h
shown_same f g same k (Some (Failure (Plain ZeroDivision))) r h = h
shown_same f g same k (Some (Failure (Plain Overflow))) r h = h
shown_same f g same k (Some (Failure (Plain NotRegistered))) r h = subst (λ c. IsRaised c (Some (Failure (Plain NotRegistered))) r) (same k) h
shown_same f g same k (Some (Failure (Chord dep why.Chord))) r h = h
shown_same f g same k (Some (Failure (Chord dep (why.Plain BadCall)))) r h = h
shown_same f g same k (Some (Failure (Chord dep (why.Plain ZeroDivision)))) r h = h
shown_same f g same k (Some (Failure (Chord dep (why.Plain Overflow)))) r h = h
shown_same f g same k (Some (Failure (Chord dep (why.Plain NotRegistered)))) r h =
    subst (λ c. IsBlamed dep c (Some (Failure (Chord dep (why.Plain NotRegistered)))) r) (same dep) h

pub all_same : (f g : ℕ → Option Text) → ((k : ℕ) → f k ≡ g k) → (ss : List State) (rows : List Row) → AreShown f ss rows → AreShown g ss rows
all_same f g same ss rows h = λ k. shown_same f g same k (state_of k (rows_from 1 ss)) (row_of rows k) (h k)

-- where there is none, a row shows the state itself
known_one : (f : ℕ → Option Text) → ((k : ℕ) → f k ≡ None) → (k : ℕ) (s : State) → IsShown f k s (Known s)
known_one f none k None = refl
known_one f none k (Some (Success n)) = refl
known_one f none k (Some (Failure (Plain BadCall))) = refl
known_one f none k (Some (Failure (Plain ZeroDivision))) = refl
known_one f none k (Some (Failure (Plain Overflow))) = refl
known_one f none k (Some (Failure (Plain NotRegistered))) =
    subst (λ c. IsRaised c (Some (Failure (Plain NotRegistered))) (Known (Some (Failure (Plain NotRegistered))))) (sym (none k)) refl
known_one f none k (Some (Failure (Chord dep why.Chord))) = refl
known_one f none k (Some (Failure (Chord dep (why.Plain BadCall)))) = refl
known_one f none k (Some (Failure (Chord dep (why.Plain ZeroDivision)))) = refl
known_one f none k (Some (Failure (Chord dep (why.Plain Overflow)))) = refl
known_one f none k (Some (Failure (Chord dep (why.Plain NotRegistered)))) =
    subst (λ c. IsBlamed dep c (Some (Failure (Chord dep (why.Plain NotRegistered)))) (Known (Some (Failure (Chord dep (why.Plain NotRegistered))))))
    (sym (none dep)) refl

pub known_shown : (f : ℕ → Option Text) → ((k : ℕ) → f k ≡ None) → (ss : List State) → AreShown f ss (known_states ss)
known_shown f none ss = λ k.
    subst (λ r. IsShown f k (state_of k (rows_from 1 ss)) r) (sym (row_state ss k)) (known_one f none k (state_of k (rows_from 1 ss)))

-- no stub raises another class
no_own : (stubs : List Stub) (name : Option Text) → class_if_named stubs [] name ≡ None
no_own stubs None = refl
no_own stubs (Some name) = refl

pub plain_shown : (stubs : List Stub) (fates : Fates) (l : Line) (ss : List State)
    → AreShown (class_of fates (own_class stubs [] l)) ss (known_states ss)
plain_shown stubs fates l ss =
    known_shown (class_of fates (own_class stubs [] l)) (none_if_none fates (own_class stubs [] l) (λ k. no_own stubs (name_of l k))) ss

-- a class that is there
pub raised_some : (o : Option (Bor (List ℕ))) (x : Bor (List ℕ)) (s : State) (name : String Global) → o ≡ Some x → string_bytes name ≡ x.now
    → IsRaised (option_map (λ c. c.now) o) s (Raised name)
raised_some o x s name is same = subst (λ p. IsRaised (option_map (λ c. c.now) p) s (Raised name)) (sym is) (name, refl, same)

pub blamed_some : (dep : ℕ) (o : Option (Bor (List ℕ))) (x : Bor (List ℕ)) (s : State) (name : String Global) → o ≡ Some x → string_bytes name ≡ x.now
    → IsBlamed dep (option_map (λ c. c.now) o) s (Blamed dep name)
blamed_some dep o x s name is same = subst (λ p. IsBlamed dep (option_map (λ c. c.now) p) s (Blamed dep name)) (sym is) (name, refl, same)

-- ---- rows, as a loop puts them one after another

module _ (f : ℕ → Option Text) (ss : List State) where
  abbrev pub AreSoFar : List Row → ℕ → Type 0
  AreSoFar rows i = (length rows ≡ i) × ((k : ℕ) → k ≤ i → IsShown f k (state_of k (rows_from 1 ss)) (row_of rows k))

  pub none_yet : AreSoFar [] 0
  none_yet = (refl, first)
    where
      first : (k : ℕ) → k ≤ 0 → IsShown f k (state_of k (rows_from 1 ss)) (row_of [] k)
      first zero h = subst (λ s. IsShown f 0 s (Known None)) (sym (state_first ss)) refl
      first (suc k) h = absurd (omega (arith, h))

  kept_row : (rows : List Row) (r : Row) (k : ℕ) → k ≤ length rows → row_of (rows ++ r ∷ []) k ≡ row_of rows k
  kept_row rows r zero h = refl
  kept_row rows r (suc k) h = ap (λ o. unwrap_or o (Known None)) (in_before rows (r ∷ []) k (omega (arith, h)))

  pub one_more : (rows : List Row) (r : Row) (i : ℕ) (s : State) → AreSoFar rows i → slice_get ss i ≡ Some s → IsShown f (suc i) s r
      → AreSoFar (rows ++ r ∷ []) (i + 1)
  one_more rows r i s so_far at shows = (length_push rows r ∙ ap (λ n. n + 1) so_far.0, each)
    where
      here : IsShown f (suc i) (state_of (suc i) (rows_from 1 ss)) (row_of (rows ++ r ∷ []) (suc i))
      here =
          let state : s ≡ state_of (suc i) (rows_from 1 ss) = sym (ap flat at) ∙ state_at ss i in
          let row : r ≡ row_of (rows ++ r ∷ []) (suc i) =
          sym (ap (λ o. unwrap_or o (Known None)) (ap (slice_get (rows ++ r ∷ [])) (sym so_far.0) ∙ at_end rows r)) in
          subst (λ x. IsShown f (suc i) (state_of (suc i) (rows_from 1 ss)) x) row (subst (λ x. IsShown f (suc i) x r) state shows)

      by_test : (b : Bool) (k : ℕ) → nat_lt i k ≡ b → k ≤ i + 1 → IsShown f k (state_of k (rows_from 1 ss)) (row_of (rows ++ r ∷ []) k)
      by_test true k test h =
          let last : suc i ≡ k = omega (arith, below i k test, h) in
          subst (λ n. IsShown f n (state_of n (rows_from 1 ss)) (row_of (rows ++ r ∷ []) n)) last here
      by_test false k test h =
          let early : k ≤ i = not_below i k test in
          subst (IsShown f k (state_of k (rows_from 1 ss))) (sym (kept_row rows r k (omega (arith, early, so_far.0)))) (so_far.1 k early)

      each : (k : ℕ) → k ≤ i + 1 → IsShown f k (state_of k (rows_from 1 ss)) (row_of (rows ++ r ∷ []) k)
      each k h = by_test (nat_lt i k) k refl h

  pub all_shown : (rows : List Row) (i : ℕ) → AreSoFar rows i → length ss ≤ i → AreShown f ss rows
  all_shown rows i so_far long = λ k. by_test (nat_lt i k) k refl
    where
      past : (n : ℕ) → i < n → IsShown f n (state_of n (rows_from 1 ss)) (row_of rows n)
      past zero h = absurd (omega (arith, h))
      past (suc n) h =
          let state : None ≡ state_of (suc n) (rows_from 1 ss) = sym (ap flat (past_end ss n (omega (arith, h, long)))) ∙ state_at ss n in
          let row : Known None ≡ row_of rows (suc n) = sym (ap (λ o. unwrap_or o (Known None)) (past_end rows n (omega (arith, h, so_far.0)))) in
          subst (λ x. IsShown f (suc n) (state_of (suc n) (rows_from 1 ss)) x) row (subst (λ x. IsShown f (suc n) x (Known None)) state refl)

      by_test : (b : Bool) (n : ℕ) → nat_lt i n ≡ b → IsShown f n (state_of n (rows_from 1 ss)) (row_of rows n)
      by_test true n test = past n (below i n test)
      by_test false n test = so_far.1 n (not_below i n test)

-- ---- rows as JSON

abbrev failed : State
failed = Some (Failure (Plain NotRegistered))

-- a value is none of these
abbrev seen_row : Row → Shown
seen_row (Known s) = shown s
seen_row (Value json) = shown None
seen_row (Raised name) = record { status = (shown failed).status; result = raised_wire (string_bytes name) }
seen_row (Blamed dep name) = record { status = (shown failed).status; result = blamed_wire dep (string_bytes name) }

raised_shows : (c : Option Text) (s : State) (r : Row) → IsRaised c s r → Shows r (seen_row r)
raised_shows None s r h = subst (λ x. Shows x (seen_row x)) (sym h) refl
raised_shows (Some class) s r h = subst (λ x. Shows x (seen_row x)) (sym h.1) refl

blamed_shows : (dep : ℕ) (c : Option Text) (s : State) (r : Row) → IsBlamed dep c s r → Shows r (seen_row r)
blamed_shows dep None s r h = subst (λ x. Shows x (seen_row x)) (sym h) refl
blamed_shows dep (Some class) s r h = subst (λ x. Shows x (seen_row x)) (sym h.1) refl

known_shows : (s : State) (r : Row) → r ≡ Known s → Shows r (seen_row r)
known_shows s r h = subst (λ x. Shows x (seen_row x)) (sym h) refl

one_shows : (f : ℕ → Option Text) (k : ℕ) (s : State) (r : Row) → IsShown f k s r → Shows r (seen_row r)
one_shows f k None r h = known_shows None r h
one_shows f k (Some (Success n)) r h = known_shows (Some (Success n)) r h
one_shows f k (Some (Failure (Plain BadCall))) r h = known_shows _ r h
one_shows f k (Some (Failure (Plain ZeroDivision))) r h = known_shows _ r h
one_shows f k (Some (Failure (Plain Overflow))) r h = known_shows _ r h
one_shows f k (Some (Failure (Plain NotRegistered))) r h = raised_shows (f k) _ r h
one_shows f k (Some (Failure (Chord dep why.Chord))) r h = known_shows _ r h
one_shows f k (Some (Failure (Chord dep (why.Plain BadCall)))) r h = known_shows _ r h
one_shows f k (Some (Failure (Chord dep (why.Plain ZeroDivision)))) r h = known_shows _ r h
one_shows f k (Some (Failure (Chord dep (why.Plain Overflow)))) r h = known_shows _ r h
one_shows f k (Some (Failure (Chord dep (why.Plain NotRegistered)))) r h = blamed_shows dep (f dep) _ r h

pub seen_at : List Row → ℕ → Shown
seen_at rows k = seen_row (row_of rows k)

pub all_show : (f : ℕ → Option Text) (ss : List State) (rows : List Row) → AreShown f ss rows → AllShow rows (seen_at rows)
unfolding seen_at
all_show f ss rows h = λ k. one_shows f k (state_of k (rows_from 1 ss)) (row_of rows k) (h k)

pub known_json : (fates : Fates) (blamed : List (ℕ × Option (String Global))) (again : Option ℕ) (c : Tree) (ss : List State) (text : Text)
    → text ≡ json_lines (report_wire fates blamed again c (rows_from 1 ss)) → IsJsonOf fates blamed again (known_states ss) c text
known_json fates blamed again c ss text h = (
  (λ k. shown (state_of k (rows_from 1 ss))),
  (λ k. subst (λ r. Shows r (shown (state_of k (rows_from 1 ss)))) (sym (row_state ss k)) refl),
  h,
)

-- ---- rows as a text

pub known_said : (c : Tree) (ss : List State) (text : Text) → text ≡ report_of c (rows_from 1 ss) → text ≡ stored_said (known_states ss) c
known_said c ss text h = h ∙ sym (run_said ss c)
