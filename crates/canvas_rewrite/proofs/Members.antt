-- A task is the last of one member of one group or chord at most.
use Rattle.std.proofs.Common.{◌≡◌, ◌≢◌, ◌<◌, ◌^◌, ◌≤◌, ◌==◌, ◌∙◌, ℕ, zero, suc, ◌+◌, Bool, false, true≢false, if◌then◌else◌, List, [], ◌∷◌, ◌++◌, length, count_by, slice_get, get_or, length-append, All, refl, sym, ap, subst, inl, inr, arith, eq-eqb, ne_eqb, zero-add, add-zero}
use Rattle.std.proofs.lemmas.Bool.{or_parts, cases_eq}
use Rattle.std.proofs.lemmas.List.Elements.{All-nil, All-cons}
use Rattle.std.proofs.lemmas.List.Sums.{sum_by-append, sum_by-cons}
use Rattle.canvas_semantics.specs.Tree.{Task, task, IsFull, count_task, ends_in_group, last_in_group}
use Rattle.canvas_semantics.specs.Bounds.{some_nests_group, some_ends_in_group}
use Rattle.canvas_semantics.specs.Line.{Line, stop, step, group_end, chord_end, Lines, no_lines, and_line, elements_of, members_of, tree_of, count_line, count_lines, line_groups, lines_groups, number_line, number_lines, ends_of, all_ends_of, GroupEntry, group_entries, all_group_entries, entry_at, entry_members, members, in_group}
use Rattle.canvas_rewrite.specs.Planned.{IsPlan, Apart, times}
use Rattle.canvas_semantics.proofs.Numbered.{count_elements}

-- ---- members that end in a task

abbrev mutual
  pub Alone : Line → Type 0
  Alone stop = Unit {0}
  Alone (step t l) = Alone l
  Alone (group_end g ms) = AllAlone ms
  Alone (chord_end g ms b) = AllAlone ms × Alone b

  pub AllAlone : Lines → Type 0
  AllAlone no_lines = Unit {0}
  AllAlone (and_line m ms) = (in_group m ≡ false) × Alone m × AllAlone ms

same_group : (l : Line) → in_group l ≡ last_in_group (elements_of l)
same_group stop = refl
same_group (step t stop) = refl
same_group (step t (step u l)) = same_group (step u l)
same_group (step t (group_end g ms)) = refl
same_group (step t (chord_end g ms b)) = same_group b
same_group (group_end g ms) = refl
same_group (chord_end g ms b) = same_group b

pub in_group_tree : (l : Line) → in_group l ≡ ends_in_group (tree_of l)
in_group_tree l = same_group l

mutual
  alone : (l : Line) → some_nests_group (elements_of l) ≡ false → Alone l
  alone stop h = tt
  alone (step t l) h = alone l h
  alone (group_end g ms) h = let p = or_parts _ _ h in let q = or_parts _ _ p.0 in all_alone ms q.0 q.1
  alone (chord_end g ms b) h =
      let p = or_parts _ _ h in let q = or_parts _ _ p.0 in let r = or_parts _ _ q.0 in (all_alone ms r.0 r.1, alone b q.1)

  all_alone : (ms : Lines) → some_ends_in_group (members_of ms) ≡ false → some_nests_group (members_of ms) ≡ false → AllAlone ms
  all_alone no_lines h n = tt
  all_alone (and_line m ms) h n =
      let p = or_parts _ _ h in let q = or_parts _ _ n in (same_group m ∙ p.0, alone m q.0, all_alone ms p.1 q.1)

-- ---- how many times a number occurs in lists

abbrev times_in : ℕ → List ℕ → ℕ
times_in k xs = count_by (λ x. x == k) xs

times_both : (k : ℕ) (xs ys : List ℕ) → times_in k (xs ++ ys) ≡ times_in k xs + times_in k ys
times_both k xs ys = sum_by-append (λ x. if x == k then 1 else 0) xs ys

times_first : (k x : ℕ) (xs : List ℕ) → times_in k (x ∷ xs) ≡ (if x == k then 1 else 0) + times_in k xs
times_first k x xs = sum_by-cons (λ y. if y == k then 1 else 0) x xs

abbrev in_entries : ℕ → List GroupEntry → ℕ
in_entries k [] = 0
in_entries k (t ∷ ts) = times_in k t.members + in_entries k ts

entries_both : (k : ℕ) (ts us : List GroupEntry) → in_entries k (ts ++ us) ≡ in_entries k ts + in_entries k us
entries_both k [] us = omega arith
entries_both k (t ∷ ts) us = omega (arith, entries_both k ts us)

-- n times, and only if k lies from low up to high
record Once (k low high n : ℕ) : Type 0 where
  once : n ≤ 1
  above : 0 < n → low ≤ k
  below : 0 < n → k < high

never : (k low high : ℕ) → Once k low high 0
never k low high = record { once = omega arith; above = λ h. omega arith; below = λ h. omega arith }

wider : (k low high low' high' n : ℕ) → Once k low high n → low' ≤ low → high ≤ high' → Once k low' high' n
wider k low high low' high' n o l h = let a = o.above in let b = o.below in
    record { once = o.once; above = λ p. omega (arith, a p); below = λ p. omega (arith, b p) }

both : (k low middle high a b n : ℕ) → Once k low middle a → Once k middle high b → n ≡ a + b → low ≤ middle → middle ≤ high → Once k low high n
both k low middle high zero b n p q e l h =
    wider k middle high low high n (subst (λ m. Once k middle high m) (let same : b ≡ n = omega arith in same) q) l (omega arith)
both k low middle high (suc a) b n p q e l h =
    let small = p.once in
    let up = p.below (omega arith) in
    let down = p.above (omega arith) in
    let r : b ≡ 0 = elim (cases_eq b 0) [ inl z ↦ z | inr some ↦ let there = q.above (omega arith) in absurd (omega arith) ] in
    record { once = omega arith; above = λ z. omega arith; below = λ z. omega arith }

just : (k low high : ℕ) → low < high → Once k low high (times_in k (low ∷ []))
just k low high h = elim (cases_eq low k) [
  | inl e ↦ let n : times_in k (low ∷ []) ≡ 1 = times_first k low [] ∙ rw (eq-eqb low k e) refl in
      subst (λ m. Once k low high m) (sym n) (record { once = omega arith; above = λ z. omega arith; below = λ z. omega arith })
  | inr ne ↦ let n : times_in k (low ∷ []) ≡ 0 = times_first k low [] ∙ rw (ne_eqb low k ne) refl in subst (λ m. Once k low high m) (sym n) (never k low high)
]

-- ---- a numbered line

abbrev unless : Bool → ℕ → ℕ
unless b n = if b then 0 else n

no_widened : (k low g : ℕ) (t : Task) (l : Line) (n : ℕ) → Once k (low + count_task t) ((low + count_task t) + count_line l) n
    → Once k low (low + count_line (step t l)) n
no_widened k low g t l n o = wider k _ _ low _ n o (omega arith) (omega arith)

none_more : (k low high n : ℕ) → Once k low high n → Once k low high (0 + n)
none_more k low high n o = subst (λ m. Once k low high m) (sym (zero-add n)) o

more_none : (k low high n : ℕ) → Once k low high n → Once k low high (n + 0)
more_none k low high n o = subst (λ m. Once k low high m) (sym (add-zero n)) o

mutual
  apart : (k low g : ℕ) (l : Line) → Alone l
      → Once k low (low + count_line l) (in_entries k (group_entries (number_line low g l)) + unless (in_group l) (times_in k (ends_of (number_line low g l))))
  apart k low g stop a = never k low (low + 0)
  apart k low g (step (task _ call ls es) stop) a =
      none_more k _ _ _ (wider k low (low + 1) low _ _ (just k low (low + 1) (omega arith)) (omega arith) (omega arith))
  apart k low g (step t (step u l)) a = no_widened k low g t (step u l) _ (apart k (low + count_task t) g (step u l) a)
  apart k low g (step t (group_end h ms)) a = no_widened k low g t (group_end h ms) _ (apart k (low + count_task t) g (group_end h ms) a)
  apart k low g (step t (chord_end h ms b)) a = no_widened k low g t (chord_end h ms b) _ (apart k (low + count_task t) g (chord_end h ms b) a)
  apart k low g (group_end _ ms) a = more_none k _ _ _ (all_apart k low (g + 1) ms a)
  apart k low g (chord_end _ ms b) a =
      let mine = number_lines low (g + 1) ms in
      let body = number_line (low + count_lines ms) (g + 1 + lines_groups ms) b in
      let far = apart k (low + count_lines ms) (g + 1 + lines_groups ms) b a.1 in
      both k low (low + count_lines ms) _ _ _ _ (all_apart k low (g + 1) ms a.0)
      (wider k _ _ (low + count_lines ms) (low + (count_lines ms + count_line b)) _ far (omega arith) (omega arith))
      (omega (arith, entries_both k (all_group_entries mine) (group_entries body))) (omega arith) (omega arith)

  all_apart : (k low g : ℕ) (ms : Lines) → AllAlone ms
      → Once k low (low + count_lines ms) (times_in k (all_ends_of (number_lines low g ms)) + in_entries k (all_group_entries (number_lines low g ms)))
  all_apart k low g no_lines a = never k low (low + 0)
  all_apart k low g (and_line m ms) a =
      let mine = number_line low g m in
      let rest = number_lines (low + count_line m) (g + line_groups m) ms in
      let own : unless (in_group m) (times_in k (ends_of mine)) ≡ times_in k (ends_of mine) = rw a.0 refl in
      let far = all_apart k (low + count_line m) (g + line_groups m) ms a.2 in
      both k low (low + count_line m) _ _ _ _ (apart k low g m a.1)
      (wider k _ _ (low + count_line m) (low + (count_line m + count_lines ms)) _ far (omega arith) (omega arith))
      (omega (arith, own, times_both k (ends_of mine) (all_ends_of rest), entries_both k (group_entries mine) (all_group_entries rest))) (omega arith)
      (omega arith)

-- ---- one group or chord among all

abbrev slot : ℕ → List GroupEntry → ℕ → ℕ
slot k ts i = times_in k (entry_members (slice_get ts i))

one_slot : (k : ℕ) (ts : List GroupEntry) (i : ℕ) → slot k ts i ≤ in_entries k ts
one_slot k [] i = omega arith
one_slot k (t ∷ ts) zero = omega arith
one_slot k (t ∷ ts) (suc i) = omega (arith, one_slot k ts i)

two_slots : (k : ℕ) (ts : List GroupEntry) (i j : ℕ) → i ≢ j → slot k ts i + slot k ts j ≤ in_entries k ts
two_slots k [] i j ne = omega arith
two_slots k (t ∷ ts) zero zero ne = absurd (ne refl)
two_slots k (t ∷ ts) zero (suc j) ne = omega (arith, one_slot k ts j)
two_slots k (t ∷ ts) (suc i) zero ne = omega (arith, one_slot k ts i)
two_slots k (t ∷ ts) (suc i) (suc j) ne = omega (arith, two_slots k ts i j (λ e. ne (ap suc e)))

module _ (l : Line) (every : (k : ℕ) → in_entries k (group_entries l) ≤ 1) where
  only : (g h k : ℕ) → 0 < times l k g → 0 < times l k h → h ≡ g
  only zero h k p q = absurd (omega arith)
  only (suc i) zero k p q = absurd (omega arith)
  only (suc i) (suc j) k p q = elim (cases_eq j i) [
    | inl e ↦ ap suc e
    | inr ne ↦ absurd (omega (arith, two_slots k (group_entries l) j i ne, every k))
  ]

  once_of : (g k : ℕ) → 0 < times l k g → times l k g ≡ 1
  once_of zero k p = absurd (omega arith)
  once_of (suc i) k p = omega (arith, one_slot k (group_entries l) i, every k)

  are_apart : Apart l
  are_apart g k p = (once_of g k p, λ h q. only g h k p q)

-- ---- every plan

total : (k n m : ℕ) (b : Bool) → n + unless b m ≤ 1 → n ≤ 1
total k n m b h = omega arith

module _ (l : Line) (plan : IsPlan l) where
  pub its_alone : Alone l
  its_alone = alone l plan.runnable.members_end

  its_once : (k : ℕ) → Once k 1 (1 + count_line l) (in_entries k (group_entries l) + unless (in_group l) (times_in k (ends_of l)))
  its_once k =
      subst (λ n. Once k 1 (1 + count_line l) (in_entries k (group_entries n) + unless (in_group l) (times_in k (ends_of n)))) plan.numbered
      (apart k 1 1 l its_alone)

  pub plan_apart : Apart l
  plan_apart = are_apart l (λ k. let o = (its_once k).once in omega (arith, o))

  pub member_known : (g k : ℕ) → 0 < times l k g → (1 ≤ k) × (k ≤ count_line l)
  member_known zero k p = absurd (omega arith)
  member_known (suc i) k p =
      let some : 0 < in_entries k (group_entries l) + unless (in_group l) (times_in k (ends_of l)) = omega (arith, one_slot k (group_entries l) i) in
      let o = its_once k in
      (o.above some, let b = o.below some in omega arith)

stands : (xs : List ℕ) (i d : ℕ) → i < length xs → 0 < times_in (get_or xs i d) xs
stands [] i d h = absurd (omega arith)
stands (x ∷ xs) zero d h = let f : times_in x (x ∷ xs) ≡ 1 + times_in x xs = times_first x x xs ∙ rw (eq-eqb x x refl) refl in omega (arith, f)
stands (x ∷ xs) (suc i) d h = omega (arith, times_first (get_or xs i d) x xs, stands xs i d (omega arith))

pub all_known : (l : Line) (plan : IsPlan l) (g : ℕ) → All (λ k. k ≤ count_line l) (members l g)
all_known l plan g i d h = (member_known l plan g (get_or (members l g) i d) (stands (members l g) i d h)).1

-- ---- how many members there are

mutual
  few_ends : (l : Line) → length (ends_of l) ≤ count_line l
  few_ends stop = omega arith
  few_ends (step (task k call ls es) stop) = omega arith
  few_ends (step t (step u l)) = omega (arith, few_ends (step u l))
  few_ends (step t (group_end g ms)) = omega (arith, few_ends_all ms)
  few_ends (step t (chord_end g ms b)) = omega (arith, few_ends b)
  few_ends (group_end g ms) = few_ends_all ms
  few_ends (chord_end g ms b) = omega (arith, few_ends b)

  few_ends_all : (ms : Lines) → length (all_ends_of ms) ≤ count_lines ms
  few_ends_all no_lines = omega arith
  few_ends_all (and_line m ms) = omega (arith, length-append (ends_of m) (all_ends_of ms), few_ends m, few_ends_all ms)

abbrev Short : ℕ → List GroupEntry → Type 0
Short n [] = Unit {0}
Short n (t ∷ ts) = (length t.members ≤ n) × Short n ts

short_both : (n : ℕ) (ts us : List GroupEntry) → Short n ts → Short n us → Short n (ts ++ us)
short_both n [] us p q = q
short_both n (t ∷ ts) us p q = (p.0, short_both n ts us p.1 q)

short_wider : (n m : ℕ) (ts : List GroupEntry) → n ≤ m → Short n ts → Short m ts
short_wider n m [] h p = tt
short_wider n m (t ∷ ts) h p = (let q = p.0 in omega arith, short_wider n m ts h p.1)

mutual
  short : (l : Line) → Short (count_line l) (group_entries l)
  short stop = tt
  short (step t l) = short_wider (count_line l) _ (group_entries l) (omega arith) (short l)
  short (group_end g ms) = (few_ends_all ms, short_all ms)
  short (chord_end g ms b) = (
    let f = few_ends_all ms in omega arith,
    short_both _ (all_group_entries ms) (group_entries b) (short_wider _ _ (all_group_entries ms) (omega arith) (short_all ms))
        (short_wider _ _ (group_entries b) (omega arith) (short b)),
  )

  short_all : (ms : Lines) → Short (count_lines ms) (all_group_entries ms)
  short_all no_lines = tt
  short_all (and_line m ms) =
      short_both _ (group_entries m) (all_group_entries ms) (short_wider _ _ (group_entries m) (omega arith) (short m))
      (short_wider _ _ (all_group_entries ms) (omega arith) (short_all ms))

short_at : (n : ℕ) (ts : List GroupEntry) (g : ℕ) → Short n ts → length (entry_members (entry_at ts g)) ≤ n
short_at n [] zero p = omega arith
short_at n [] (suc g) p = omega arith
short_at n (t ∷ ts) zero p = omega arith
short_at n (t ∷ ts) (suc zero) p = p.0
short_at n (t ∷ ts) (suc (suc g)) p = short_at n ts (suc g) p.1

pub few_members : (l : Line) (g : ℕ) → length (members l g) ≤ count_line l
few_members l g = short_at _ (group_entries l) g (short l)

-- ---- a line that ends in a task

pub one_end : (l : Line) → in_group l ≡ false → IsFull (tree_of l) → (k : ℕ) × (ends_of l ≡ k ∷ [])
one_end stop h f = absurd f
one_end (step (task k call ls es) stop) h f = (k, refl)
one_end (step t (step u l)) h f = one_end (step u l) h f.1
one_end (step t (group_end g ms)) h f = absurd (true≢false h)
one_end (step t (chord_end g ms b)) h f = one_end b h f.1.0.1
one_end (group_end g ms) h f = absurd (true≢false h)
one_end (chord_end g ms b) h f = one_end b h f.0.1

-- each group and chord has fewer members than 32 bits can count
pub entries_few : (l : Line) → IsPlan l → All (λ t. length t.members < 2 ^ 32) (group_entries l)
entries_few l plan = few (group_entries l) (short l)
  where
    few : (ts : List GroupEntry) → Short (count_line l) ts → All (λ t. length t.members < 2 ^ 32) ts
    few [] s = All-nil (λ t. length t.members < 2 ^ 32)
    few (t ∷ ts) s = All-cons (λ t. length t.members < 2 ^ 32) t ts (let h = s.0 in omega (arith, plan.runnable.few_tasks, count_elements l)) (few ts s.1)
