-- What the plain backend holds after a call.
use Rattle.std.proofs.Common.{◌≡◌, ◌==◌, ◌+◌, ◌-◌, ◌^◌, ◌<◌, ◌≤◌, get_or, IsTrue, length, length-set, count_by, replicate, slice_index, slice_set, get_or-set_same, get_or-set_other, ℕ, zero, suc, Bool, true, false, cond, List, set, slice_get, Option, Some, None, refl, sym, ap, ◌∙◌, subst, arith, eq-eqb, ne_eqb}
use mathlib.Core.Logic.{dite}
use native.Mathlib.Decide.{ℕ_discrete}
use Rattle.canvas_task.specs.declared.outcome.Outcome.{Outcome}
use Rattle.canvas_backend.specs.declared.row.Row.{Row}
use Rattle.canvas_history.specs.declared.stored.Stored.TheVariants.{First, Again}
use Rattle.canvas_history.specs.Roster.{Roster, members, is_member, IsRoster}
use Rattle.canvas_backend.proofs.Counts.{count_here, count_elsewhere, zero_at, none_counted}
use Rattle.canvas_history.proofs.TableLaws.{room, stands}
use Rattle.canvas_backend.proofs.WordSteps.{group_below}
use Rattle.std.proofs.lemmas.List.{length-replicate, get_or_read, set-get_or}
use Rattle.std.proofs.lemmas.Option.{slice_get_read, get_or_from_slice_get}
use Rattle.canvas_history.specs.Table.{store, part, read, found, no_results, was, count, count_of, first_or, kept_or, next_of}
use Rattle.canvas_backend.specs.Plain.{PlainView, row_of, outcome_or, returned_or, held, IsPlainCall}
use Rattle.canvas_backend.specs.steps.Counts.{AreCounts}
use Rattle.canvas_backend.proofs.Places.{placed_here, placed_else}

abbrev pub plain_view : Roster → List Row → PlainView
plain_view plan xs = record { plan = plan; rows = xs }

module _ (xs : List Row) (i : ℕ) (x y : Row) (there : slice_get xs i ≡ Some x) where
  -- what a task has, where one row is changed
  outcome_set : (o : Option Outcome) → y.outcome ≡ o → (t : ℕ) → outcome_or (row_of (set xs i y) t) ≡ cond (t == suc i) o (outcome_or (row_of xs t))
  outcome_set o is zero = sym (ap (λ b. cond b o None) (ne_eqb 0 (suc i) (λ e. absurd (cc))))
  outcome_set o is (suc k) =
      dite (ℕ_discrete k i)
      (λ e. ap (λ z. outcome_or (slice_get (set xs i y) z)) e
      ∙ (ap outcome_or (placed_here xs i x y there) ∙ (is ∙ sym (ap (λ b. cond b o (outcome_or (slice_get xs k))) (eq-eqb (suc k) (suc i) (ap suc e))))))
      (λ ne. ap outcome_or (placed_else xs i k y ne)
      ∙ sym (ap (λ b. cond b o (outcome_or (slice_get xs k))) (ne_eqb (suc k) (suc i) (λ e. ne (omega (arith, e))))))

  returned_set : (f : Bool) → y.returned ≡ f → (t : ℕ) → returned_or (row_of (set xs i y) t) ≡ cond (t == suc i) f (returned_or (row_of xs t))
  returned_set f is zero = sym (ap (λ b. cond b f false) (ne_eqb 0 (suc i) (λ e. absurd (cc))))
  returned_set f is (suc k) =
      dite (ℕ_discrete k i)
      (λ e. ap (λ z. returned_or (slice_get (set xs i y) z)) e
      ∙ (ap returned_or (placed_here xs i x y there) ∙ (is ∙ sym (ap (λ b. cond b f (returned_or (slice_get xs k))) (eq-eqb (suc k) (suc i) (ap suc e))))))
      (λ ne. ap returned_or (placed_else xs i k y ne)
      ∙ sym (ap (λ b. cond b f (returned_or (slice_get xs k))) (ne_eqb (suc k) (suc i) (λ e. ne (omega (arith, e))))))

-- a test that changes nothing where it holds
same_if : {A : Type 0} (t i : ℕ) (f : ℕ → A) (a : A) → f (suc i) ≡ a → cond (t == suc i) a (f t) ≡ f t
same_if t i f a is =
    dite (ℕ_discrete t (suc i)) (λ e. ap (λ b. cond b a (f t)) (eq-eqb t (suc i) e) ∙ (sym is ∙ ap f (sym e)))
    (λ ne. ap (λ b. cond b a (f t)) (ne_eqb t (suc i) ne))

same_then : {A : Type 0} (t i : ℕ) (f : ℕ → A) (g : A → A) → cond (t == suc i) (g (f (suc i))) (f t) ≡ cond (t == suc i) (g (f t)) (f t)
same_then t i f g =
    dite (ℕ_discrete t (suc i)) (λ e. ap (λ (n : ℕ). cond (t == suc i) (g (f n)) (f t)) (sym e))
    (λ ne. ap (λ b. cond b (g (f (suc i))) (f t)) (ne_eqb t (suc i) ne) ∙ sym (ap (λ b. cond b (g (f t)) (f t)) (ne_eqb t (suc i) ne)))

-- a task of the plan has a row
pub row_read : (old : PlainView) (plan : Roster) (xs : List Row) (t i : ℕ) (x : Row) → plain_view plan xs ≡ old → length xs ≡ plan.tasks → t ≡ suc i
    → t ≤ old.plan.tasks → x ≡ get_or xs i x → slice_get xs i ≡ Some x
row_read old plan xs t i x is many at known seen =
    let same : plan.tasks ≡ old.plan.tasks = ap (λ (s : PlainView). s.plan.tasks) is in slice_get_read xs _ i x refl (omega (arith, at, known, many, same)) seen

-- so what it is read by is inside
pub row_inside : (old : PlainView) (plan : Roster) (xs : List Row) (t n : ℕ) → plain_view plan xs ≡ old → length xs ≡ plan.tasks → n ≡ t → 1 ≤ n
    → t ≤ old.plan.tasks → n - 1 < length xs
row_inside old plan xs t n is many same least known =
    let tasks : plan.tasks ≡ old.plan.tasks = ap (λ (s : PlainView). s.plan.tasks) is in omega (arith, same, least, known, many, tasks)

pub read_there : (old : PlainView) (plan : Roster) (xs : List Row) (t i : ℕ) (x : Row) → plain_view plan xs ≡ old → t ≡ suc i → slice_get xs i ≡ Some x
    → IsPlainCall old old (read t) (found x.outcome)
read_there old plan xs t i x is at there =
    record {
      reply = ap (λ (o : Option Row). found (outcome_or o)) (sym there) ∙ (λ j. found (outcome_or (row_of (is j).rows (sym at j))));
      after = refl;
      plan = refl;
    }

pub stored_first : (old : PlainView) (plan : Roster) (xs : List Row) (t i : ℕ) (o : Outcome) (x y : Row) → plain_view plan xs ≡ old → t ≡ suc i
    → slice_get xs i ≡ Some x → x.outcome ≡ None → y ≡ record { outcome = Some o; returned = x.returned }
    → IsPlainCall old (plain_view plan (set xs i y)) (store t o) (was First)
stored_first old plan xs t i o x y is at there free new =
    subst (λ (z : PlainView × ℕ). IsPlainCall z.0 (plain_view plan (set xs i y)) (store z.1 o) (was First)) (λ j. (is j, sym at j))
    (record {
      reply = ap (λ (z : Option Outcome). was (first_or z)) (sym none);
      after = λ j. record { outcomes = λ k. outcomes k j; returned = λ k. returned k j };
      plan = refl;
    })
  where
    none : outcome_or (slice_get xs i) ≡ None
    none = ap outcome_or there ∙ free

    outcomes : (k : ℕ) → outcome_or (row_of (set xs i y) k) ≡ cond (k == suc i) (kept_or (outcome_or (row_of xs k)) o) (outcome_or (row_of xs k))
    outcomes k = outcome_set xs i x y there (Some o) (ap (λ (s : Row). s.outcome) new) k
        ∙ (ap (λ (z : Option Outcome). cond (k == suc i) (kept_or z o) (outcome_or (row_of xs k))) (sym none)
        ∙ same_then k i (λ n. outcome_or (row_of xs n)) (λ z. kept_or z o))

    returned : (k : ℕ) → returned_or (row_of (set xs i y) k) ≡ returned_or (row_of xs k)
    returned k = returned_set xs i x y there x.returned (ap (λ (s : Row). s.returned) new) k
        ∙ same_if k i (λ n. returned_or (row_of xs n)) x.returned (ap returned_or there)

-- a task that has an outcome, whose row is written again as it was
pub stored_again : (old : PlainView) (plan : Roster) (xs : List Row) (t i : ℕ) (o p : Outcome) (x : Row) → plain_view plan xs ≡ old → t ≡ suc i
    → slice_get xs i ≡ Some x → x.outcome ≡ Some p
    → IsPlainCall old (plain_view plan (set xs i x)) (store t o) (was Again)
stored_again old plan xs t i o p x is at there has =
    let same : set xs i x ≡ xs = ap (set xs i) (sym (get_or_from_slice_get xs i x x there)) ∙ set-get_or xs i x in
    subst (λ (z : PlainView × ℕ × List Row). IsPlainCall z.0 (plain_view plan z.2) (store z.1 o) (was Again)) (λ j. (is j, sym at j, sym same j))
    (record {
      reply = ap (λ (z : Option Outcome). was (first_or z)) (sym some_there);
      after = λ j. record { outcomes = λ k. outcomes k j; returned = λ k. returned_or (row_of xs k) };
      plan = refl;
    })
  where
    some_there : outcome_or (slice_get xs i) ≡ Some p
    some_there = ap outcome_or there ∙ has

    outcomes : (k : ℕ) → outcome_or (row_of xs k) ≡ cond (k == suc i) (kept_or (outcome_or (row_of xs k)) o) (outcome_or (row_of xs k))
    outcomes k = sym (same_if k i (λ n. outcome_or (row_of xs n)) (kept_or (outcome_or (row_of xs (suc i))) o)
        (some_there ∙ sym (ap (λ z. kept_or z o) some_there)))
        ∙ same_then k i (λ n. outcome_or (row_of xs n)) (λ z. kept_or z o)

pub returned_part : (old : PlainView) (plan : Roster) (xs : List Row) (g t i n : ℕ) (x y : Row) → plain_view plan xs ≡ old → t ≡ suc i → slice_get xs i ≡ Some x
    → y ≡ record { outcome = x.outcome; returned = true } → n ≡ count_of old.plan (held old) g
    → IsPlainCall old (plain_view plan (set xs i y)) (part g t) (count n)
returned_part old plan xs g t i n x y is at there new counted =
    subst (λ (z : ℕ). IsPlainCall old (plain_view plan (set xs i y)) (part g z) (count n)) (sym at)
    (record {
      reply = ap count counted;
      after = (λ j. record { outcomes = λ k. outcomes k j; returned = λ k. returned k j }) ∙ ap (λ (s : PlainView). next_of (held s) (part g (suc i))) is;
      plan = ap (λ (s : PlainView). s.plan) is;
    })
  where
    outcomes : (k : ℕ) → outcome_or (row_of (set xs i y) k) ≡ outcome_or (row_of xs k)
    outcomes k = outcome_set xs i x y there x.outcome (ap (λ (s : Row). s.outcome) new) k
        ∙ same_if k i (λ n. outcome_or (row_of xs n)) x.outcome (ap outcome_or there)

    returned : (k : ℕ) → returned_or (row_of (set xs i y) k) ≡ cond (k == suc i) true (returned_or (row_of xs k))
    returned k = returned_set xs i x y there true (ap (λ (s : Row). s.returned) new) k

-- where nothing is returned the counts stay
pub counts_stay : (plan : Roster) (xs ys : List Row) (counts : List ℕ) → ((t : ℕ) → returned_or (row_of ys t) ≡ returned_or (row_of xs t))
    → AreCounts (plain_view plan xs) counts → AreCounts (plain_view plan ys) counts
counts_stay plan xs ys counts same h = record {
  many = h.many;
  are = λ g lt. h.are g lt ∙ (λ j. count_by (λ t. sym (same t) j) (members plan (suc g)));
}

pub stored_counts : (plan : Roster) (xs : List Row) (counts : List ℕ) (i : ℕ) (x y : Row) → slice_get xs i ≡ Some x → y.returned ≡ x.returned
    → AreCounts (plain_view plan xs) counts → AreCounts (plain_view plan (set xs i y)) counts
stored_counts plan xs counts i x y there same h =
    counts_stay plan xs (set xs i y) counts (λ t. returned_set xs i x y there x.returned same t
    ∙ same_if t i (λ n. returned_or (row_of xs n)) x.returned (ap returned_or there)) h

-- where a member is returned its own chord's count is one more
pub part_counts : (plan : Roster) (xs : List Row) (counts : List ℕ) (g i n : ℕ) (x y : Row) → IsRoster plan → IsTrue (is_member plan (suc g) (suc i))
    → slice_get xs i ≡ Some x → x.returned ≡ false → y.returned ≡ true
    → AreCounts (plain_view plan xs) counts → n ≡ slice_index counts g + 1 → AreCounts (plain_view plan (set xs i y)) (slice_set counts g n)
part_counts plan xs counts g i n x y ok member there free done h more = record {
  many = length-set counts g n ∙ h.many;
  are = λ k lt. dite (ℕ_discrete k g)
      (λ e. subst (λ (z : ℕ). slice_index (slice_set counts g n) z ≡ count_by new (members plan (suc z))) (sym e)
      (let lt' : g < length counts = omega (arith, e, lt, h.many) in
      let old : slice_index counts g ≡ count_by was (members plan (suc g)) = h.are g (omega (arith, e, lt)) in
      get_or-set_same counts g n 0 lt'
      ∙ (more ∙ (ap (λ (z : ℕ). z + 1) old ∙ (sym (count_here plan ok was (suc g) (suc i) member not_yet) ∙ changed (members plan (suc g)))))))
      (λ ne. get_or-set_other counts g k n 0 ne
      ∙ (h.are k lt ∙ (sym (count_elsewhere plan ok was (suc g) (suc i) member not_yet (suc k) (λ e. ne (omega (arith, e))))
      ∙ changed (members plan (suc k)))));
}
  where
    was : ℕ → Bool
    was t = returned_or (row_of xs t)

    new : ℕ → Bool
    new t = returned_or (row_of (set xs i y) t)

    not_yet : was (suc i) ≡ false
    not_yet = ap returned_or there ∙ free

    changed : (ms : List ℕ) → count_by (λ t. cond (t == suc i) true (was t)) ms ≡ count_by new ms
    changed ms = λ j. count_by (λ t. sym (returned_set xs i x y there true done t) j) ms

-- before the first call
abbrev empty : Row
empty = record { outcome = None; returned = false }

no_slot : (n t : ℕ) → (outcome_or (row_of (replicate n empty) t) ≡ None) × (returned_or (row_of (replicate n empty) t) ≡ false)
no_slot n zero = (refl, refl)
no_slot zero (suc k) = (refl, refl)
no_slot (suc n) (suc zero) = (refl, refl)
no_slot (suc n) (suc (suc k)) = no_slot n (suc k)

pub none_held : (plan : Roster) (n : ℕ) → held (plain_view plan (replicate n empty)) ≡ no_results
none_held plan n = λ j. record { outcomes = λ t. (no_slot n t).0 j; returned = λ t. (no_slot n t).1 j }

pub counts_none : (plan : Roster) (n k : ℕ) → k ≡ length plan.groups → AreCounts (plain_view plan (replicate n empty)) (replicate k 0)
counts_none plan n k many = record {
  many = length-replicate k 0 ∙ many;
  are = λ g lt. zero_at k g ∙ (sym (none_counted (members plan (suc g))) ∙ (λ j. count_by (λ t. sym (no_slot n t).1 j) (members plan (suc g))));
}

-- a member's place, and what is counted there
pub part_place : (plan : Roster) (xs : List Row) (counts : List ℕ) (g i n : ℕ) → IsRoster plan → IsTrue (is_member plan (suc g) (suc i))
    → returned_or (slice_get xs i) ≡ false → AreCounts (plain_view plan xs) counts → n ≡ get_or counts g n
    → (n ≡ slice_index counts g) × (n ≡ count_of plan (held (plain_view plan xs)) (suc g)) × (n < 2 ^ 32)
part_place plan xs counts g i n ok member free h is =
    let below = group_below plan (suc g) (suc i) member in
    let low : g < length plan.groups = omega (arith, below) in
    let here : n ≡ slice_index counts g = get_or_read counts _ _ (omega (arith, h.many, low)) is 0 in
    let same : n ≡ count_of plan (held (plain_view plan xs)) (suc g) = here ∙ h.are g low in
    let most = room plan (λ t. returned_or (row_of xs t)) (suc i) (members plan (suc g)) free in
    let few = ok.few_members (suc g) in
    let tasks = ok.few_tasks in
    (here, same, omega arith)

-- a part's places are there
pub places_inside : (old : PlainView) (plan : Roster) (xs : List Row) (counts : List ℕ) (g t a b : ℕ) → plain_view plan xs ≡ old → IsRoster plan
    → AreCounts (plain_view plan xs) counts → length xs ≡ plan.tasks → IsTrue (is_member old.plan g t) → a ≡ g → 1 ≤ a → b ≡ t → 1 ≤ b
    → (a - 1 < length counts) × (b - 1 < length xs)
places_inside old plan xs counts g t a b is ok h many member of_group some of_task least =
    let to : g ≡ suc (a - 1) = omega (arith, of_group, some) in
    let at : t ≡ suc (b - 1) = omega (arith, of_task, least) in
    let here : IsTrue (is_member plan (suc (a - 1)) (suc (b - 1))) =
    subst (λ (z : PlainView × ℕ × ℕ). IsTrue (is_member z.0.plan z.1 z.2)) (λ j. (sym is j, to j, at j)) member in
    let below = group_below plan (suc (a - 1)) (suc (b - 1)) here in
    let s = stands plan (suc (b - 1)) (suc (a - 1)) here in
    let known = ok.known (suc (a - 1)) (suc (b - 1)) (omega arith) in
    (omega (arith, h.many, below), omega (arith, known, many))

-- a part, by what the rows and counts were
module _ (old : PlainView) (plan : Roster) (xs : List Row) (counts : List ℕ) (g t k i n : ℕ) (is : plain_view plan xs ≡ old) (ok : IsRoster plan)
    (h : AreCounts (plain_view plan xs) counts) (to : g ≡ suc k) (at : t ≡ suc i)
    (member : IsTrue (is_member old.plan g t)) (free : (held old).returned t ≡ false) (read : n ≡ get_or counts k n) where
  here : IsTrue (is_member plan (suc k) (suc i))
  here = subst (λ (z : PlainView × ℕ × ℕ). IsTrue (is_member z.0.plan z.1 z.2)) (λ j. (sym is j, to j, at j)) member

  idle : returned_or (slice_get xs i) ≡ false
  idle = subst (λ (z : PlainView × ℕ). (held z.0).returned z.1 ≡ false) (λ j. (sym is j, at j)) free

  pub part_fits : n < 2 ^ 32
  part_fits = (part_place plan xs counts k i n ok here idle h read).2

  pub part_done : (x : Row) → length xs ≡ plan.tasks → x ≡ get_or xs i x
      → let ys = set xs i (record { outcome = x.outcome; returned = true }) in AreCounts (plain_view plan ys) (slice_set counts k (n + 1))
      × IsPlainCall old (plain_view plan ys) (part g t) (count n)
  part_done x many seen =
      let p = part_place plan xs counts k i n ok here idle h read in
      let s = stands plan (suc i) (suc k) here in
      let known = ok.known (suc k) (suc i) (omega arith) in
      let there : slice_get xs i ≡ Some x = slice_get_read xs _ i x refl (omega (arith, known, many)) seen in
      let number : n ≡ count_of old.plan (held old) g = p.1 ∙ (λ j. count_of (is j).plan (held (is j)) (sym to j)) in (
        part_counts plan xs counts k i (n + 1) x _ ok here there (sym (ap returned_or there) ∙ idle) refl h (ap (λ (z : ℕ). z + 1) p.0),
        returned_part old plan xs g t i n x _ is at there refl number,
      )
