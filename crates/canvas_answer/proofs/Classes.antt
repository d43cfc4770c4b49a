-- The classes of a run's tasks, as a loop puts them one after another.
use Rattle.std.proofs.Common.{◌≡◌, ◌∙◌, ◌<◌, ◌≤◌, ◌+◌, ℕ, zero, suc, Bool, true, false, if◌then◌else◌, List, [], ◌∷◌, ◌++◌, map, length, get_or, Option, Some, None, refl, sym, ap, subst, arith, add-one}
use Rattle.std.specs.Prelude.{nat_lt, slice_get, option_map}
use Rattle.std.specs.Borrow.{Bor}
use Rattle.std.proofs.lemmas.Bool.Decides.{nat_tests}
use Rattle.std.proofs.lemmas.List.{length_push}
use Rattle.canvas_task.specs.Text.{Text}
use Rattle.canvas_semantics.specs.States.{numbers_from}
use Rattle.canvas_report.specs.Fates.{Fates, fate_at}
use Rattle.canvas_report.specs.declared.fate.Fate.{Fate}
use Rattle.canvas_report.specs.declared.fate.Fate.TheVariants.{Ran, Skipped, Idle}
use Rattle.canvas_answer.specs.Raised.{class_by, class_within, class_of}
use Rattle.canvas_answer.specs.steps.Classes.{seen_class, class_at}

-- ---- lists that grow

module _ {X : Type 0} where
  pub in_before : (xs ys : List X) (k : ℕ) → k < length xs → slice_get (xs ++ ys) k ≡ slice_get xs k
  in_before [] ys k h = absurd (omega (arith, h))
  in_before (x ∷ xs) ys zero h = refl
  in_before (x ∷ xs) ys (suc k) h = in_before xs ys k (omega (arith, h))

  pub at_end : (xs : List X) (y : X) → slice_get (xs ++ y ∷ []) (length xs) ≡ Some y
  at_end [] y = refl
  at_end (x ∷ xs) y = at_end xs y

  pub past_end : (xs : List X) (k : ℕ) → length xs ≤ k → slice_get xs k ≡ None
  past_end [] k h = refl
  past_end (x ∷ xs) zero h = absurd (omega (arith, h))
  past_end (x ∷ xs) (suc k) h = past_end xs k (omega (arith, h))

  pub got_some : (xs : List X) (i : ℕ) (x : X) → i < length xs → x ≡ get_or xs i x → slice_get xs i ≡ Some x
  got_some [] i x h is = absurd (omega (arith, h))
  got_some (y ∷ ys) zero x h is = ap Some (sym is)
  got_some (y ∷ ys) (suc i) x h is = got_some ys i x (omega (arith, h)) is

abbrev Class : Type 0
Class = Option (Bor (List ℕ))

kept_class : (cs : List Class) (c : Class) (j : ℕ) → j ≤ length cs → class_at (cs ++ c ∷ []) j ≡ class_at cs j
kept_class cs c zero h = refl
kept_class cs c (suc k) h = ap seen_class (in_before cs (c ∷ []) k (omega (arith, h)))

new_class : (cs : List Class) (c : Class) → class_at (cs ++ c ∷ []) (suc (length cs)) ≡ option_map (λ x. x.now) c
new_class cs c = ap seen_class (at_end cs c)

no_class : (cs : List Class) (j : ℕ) → length cs < j → class_at cs j ≡ None
no_class cs zero h = absurd (omega (arith, h))
no_class cs (suc k) h = ap seen_class (past_end cs k (omega (arith, h)))

-- ---- what a task is due to comes before it

same_if : (b : Bool) (x y : Option Text) → (b ≡ true → x ≡ y) → (if b then x else None) ≡ (if b then y else None)
same_if true x y h = h refl
same_if false x y h = refl

pub below : (d k : ℕ) → nat_lt d k ≡ true → d < k
below d k h = grind (arith, nat_tests, h)

pub not_below : (i j : ℕ) → nat_lt i j ≡ false → j ≤ i
not_below i j h = grind (arith, nat_tests, h)

-- the classes of the tasks before it decide
by_before : (k : ℕ) (own : Option Text) (f g : ℕ → Option Text) (fate : Option Fate) → ((d : ℕ) → d < k → f d ≡ g d)
    → class_by k own f fate ≡ class_by k own g fate
by_before k own f g None h = refl
by_before k own f g (Some Ran) h = refl
by_before k own f g (Some Idle) h = refl
by_before k own f g (Some (Skipped d)) h = same_if (nat_lt d k) (f d) (g d) (λ is. h d (below d k is))

module _ (fates : Fates) (own : ℕ → Option Text) where
  enough : (n m k : ℕ) → k < n → k < m → class_within fates own n k ≡ class_within fates own m k
  enough zero m k h g = absurd (omega (arith, h))
  enough (suc n) zero k h g = absurd (omega (arith, g))
  enough (suc n) (suc m) k h g =
      by_before k (own k) (class_within fates own n) (class_within fates own m) (fate_at fates k)
      (λ d lt. enough n m d (omega (arith, lt, h)) (omega (arith, lt, g)))

  pub class_step : (k : ℕ) → class_of fates own k ≡ class_by k (own k) (class_of fates own) (fate_at fates k)
  class_step k =
      by_before k (own k) (class_within fates own k) (class_of fates own) (fate_at fates k) (λ d lt. enough k (suc d) d lt (omega arith))

  none_past : (k : ℕ) → fate_at fates k ≡ None → class_of fates own k ≡ None
  none_past k none = class_step k ∙ ap (class_by k (own k) (class_of fates own)) none

  -- ---- the loop over the fates

  abbrev pub AreSoFar : List Class → ℕ → Type 0
  AreSoFar cs i = (length cs ≡ i) × ((j : ℕ) → j ≤ i → class_at cs j ≡ class_of fates own j)

  pub none_yet : AreSoFar [] 0
  none_yet = (refl, first)
    where
      first : (j : ℕ) → j ≤ 0 → class_at [] j ≡ class_of fates own j
      first zero h = sym (none_past 0 refl)
      first (suc j) h = absurd (omega (arith, h))

  pub one_more : (cs : List Class) (c : Class) (i t : ℕ) (f : Fate) → AreSoFar cs i → slice_get fates i ≡ Some (t, f) → t ≡ i + 1
      → option_map (λ x. x.now) c ≡ class_by t (own t) (λ d. class_at cs d) (Some f) → AreSoFar (cs ++ c ∷ []) (i + 1)
  one_more cs c i t f so_far at is own_is = (length_push cs c ∙ ap (λ n. n + 1) so_far.0, each)
    where
      here : class_at (cs ++ c ∷ []) (suc i) ≡ class_of fates own (suc i)
      here =
          let same : t ≡ suc i = is ∙ add-one i in
          let fate : fate_at fates (suc i) ≡ Some f = ap (option_map (λ x. x.1)) at in
          ap (λ n. class_at (cs ++ c ∷ []) (suc n)) (sym so_far.0) ∙ new_class cs c ∙ own_is
          ∙ ap (λ n. class_by n (own n) (λ d. class_at cs d) (Some f)) same
          ∙ by_before (suc i) (own (suc i)) (λ d. class_at cs d) (class_of fates own) (Some f) (λ d lt. so_far.1 d (omega (arith, lt)))
          ∙ ap (class_by (suc i) (own (suc i)) (class_of fates own)) (sym fate)
          ∙ sym (class_step (suc i))

      by_test : (b : Bool) (j : ℕ) → nat_lt i j ≡ b → j ≤ i + 1 → class_at (cs ++ c ∷ []) j ≡ class_of fates own j
      by_test true j test h =
          let last : suc i ≡ j = omega (arith, below i j test, h) in
          subst (λ n. class_at (cs ++ c ∷ []) n ≡ class_of fates own n) last here
      by_test false j test h =
          let early : j ≤ i = not_below i j test in
          kept_class cs c j (omega (arith, early, so_far.0)) ∙ so_far.1 j early

      each : (j : ℕ) → j ≤ i + 1 → class_at (cs ++ c ∷ []) j ≡ class_of fates own j
      each j h = by_test (nat_lt i j) j refl h

  pub all_found : (cs : List Class) (i : ℕ) → AreSoFar cs i → length fates ≤ i → (k : ℕ) → class_at cs k ≡ class_of fates own k
  all_found cs i so_far long k = by_test (nat_lt i k) k refl
    where
      past : (n : ℕ) → i < n → class_at cs n ≡ class_of fates own n
      past zero h = absurd (omega (arith, h))
      past (suc n) h =
          no_class cs (suc n) (omega (arith, h, so_far.0))
          ∙ sym (none_past (suc n) (ap (option_map (λ x. x.1)) (past_end fates n (omega (arith, h, long)))))

      by_test : (b : Bool) (n : ℕ) → nat_lt i n ≡ b → class_at cs n ≡ class_of fates own n
      by_test true n test = past n (below i n test)
      by_test false n test = so_far.1 n (not_below i n test)

-- the number of each fate's task
pub number_at : (fs : Fates) (k n i t : ℕ) (f : Fate) → map (λ x. x.0) fs ≡ numbers_from k n → slice_get fs i ≡ Some (t, f) → t ≡ k + i
number_at [] k n i t f are is = absurd cc
number_at (x ∷ fs) k zero i t f are is = absurd cc
number_at (x ∷ fs) k (suc n) zero t f are is =
    let first : x.0 ≡ k = cc in
    let same : x ≡ (t, f) = cc in
    sym (ap (λ y. y.0) same) ∙ first ∙ omega arith
number_at (x ∷ fs) k (suc n) (suc i) t f are is =
    let rest : map (λ y. y.0) fs ≡ numbers_from (suc k) n = cc in
    number_at fs (suc k) n i t f rest is ∙ omega arith

-- ---- no classes

pub none_if_none : (fates : Fates) (own : ℕ → Option Text) → ((k : ℕ) → own k ≡ None) → (k : ℕ) → class_of fates own k ≡ None
none_if_none fates own none k = within (suc k) k
  where
    cut : (b : Bool) (x : Option Text) → x ≡ None → (if b then x else None) ≡ None
    cut true x h = h
    cut false x h = refl

    by_fate : (n k : ℕ) (f : Option Fate) → ((d : ℕ) → class_within fates own n d ≡ None) → class_by k (own k) (class_within fates own n) f ≡ None
    by_fate n k None h = refl
    by_fate n k (Some Ran) h = none k
    by_fate n k (Some Idle) h = refl
    by_fate n k (Some (Skipped d)) h = cut (nat_lt d k) (class_within fates own n d) (h d)

    within : (n k : ℕ) → class_within fates own n k ≡ None
    within zero k = refl
    within (suc n) k = by_fate n k (fate_at fates k) (λ d. within n d)
