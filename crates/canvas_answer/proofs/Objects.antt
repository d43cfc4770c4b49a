-- Lines without their line feeds, and lists that have an item for each task.
use Rattle.std.proofs.Common.{◌≡◌, ◌≢◌, ◌∙◌, ◌<◌, ◌+◌, ◌==◌, ℕ, zero, suc, Bool, true, false, if◌then◌else◌, List, [], ◌∷◌, ◌++◌, length, drop, get_or, map, option_map, Option, Some, None, refl, sym, ap, append_assoc, append-nil, arith}
use Rattle.std.proofs.lemmas.Bool.{eqb-true}
use Rattle.std.proofs.lemmas.List.{drop_all}
use Rattle.std.proofs.lemmas.List.Elements.{filter_map-append}
use Rattle.std.specs.Prelude.{slice_get, option_to_list, unwrap_or}
use Rattle.std.specs.List.{filter_map}
use Rattle.canvas_task.specs.Text.{Text}
use Rattle.canvas_semantics.specs.Line.{name_at}
use Rattle.canvas_semantics.specs.Report.{counted_from}
use Rattle.canvas_answer.specs.Cases.{without_end}
use Rattle.canvas_answer.proofs.Reading.{one_kept}

-- ---- a line without its line feed

pub ended : (xs : Text) → without_end (xs ++ 10 ∷ []) ≡ xs
ended [] = refl
ended (x ∷ []) = refl
ended (x ∷ y ∷ xs) = ap (λ l. x ∷ l) (ended (y ∷ xs))

one_left : (x : ℕ) (b : Bool) → (x == 10) ≡ b → ((front : Text) → x ∷ [] ≢ front ++ 10 ∷ []) → (if b then [] else x ∷ []) ≡ x ∷ []
one_left x true is none = absurd (none [] (ap (λ n. n ∷ []) (eqb-true x 10 is)))
one_left x false is none = refl

pub unended : (xs : Text) → ((front : Text) → xs ≢ front ++ 10 ∷ []) → without_end xs ≡ xs
unended [] none = refl
unended (x ∷ []) none = one_left x (x == 10) refl none
unended (x ∷ y ∷ xs) none = ap (λ l. x ∷ l) (unended (y ∷ xs) (λ front e. none (x ∷ front) (ap (λ l. x ∷ l) e)))

-- ---- an item for each task

split : (ns : List Text) (i k : ℕ) → i < length ns
    → (n : Text) × (slice_get ns i ≡ Some n) × (counted_from (k + i) (drop i ns) ≡ (k + i, n) ∷ counted_from (k + suc i) (drop (suc i) ns))
split [] i k lt = absurd (omega (arith, lt))
split (n ∷ ns) zero k lt =
    let on : k + 0 + 1 ≡ k + 1 = omega arith in
    (n, refl, ap (λ m. (k + 0, n) ∷ counted_from m ns) on)
split (n ∷ ns) (suc i) k lt =
    let (m, at, e) = split ns i (suc k) (omega (arith, lt)) in
    let next : k + suc i ≡ suc k + i = omega arith in
    let after : suc k + suc i ≡ k + suc (suc i) = omega arith in (
      m,
      at,
      ap (λ j. counted_from j (drop i ns)) next ∙ e ∙ ap (λ j. (j, m) ∷ counted_from (suc k + suc i) (drop (suc i) ns)) (sym next)
          ∙ ap (λ j. (k + suc i, m) ∷ counted_from j (drop (suc i) ns)) after,
    )

-- of a list that is made item by item
module _ (made : List (ℕ × Text) → List Text) (item : ℕ × Text → List Text) where
  pub one_more : ((t : ℕ × Text) (ts : List (ℕ × Text)) → made (t ∷ ts) ≡ item t ++ made ts) → (ns : List Text) (i : ℕ) (before after all : List Text)
      → i < length ns → ((n : Text) → name_at ns (i + 1) ≡ Some n → after ≡ before ++ item (i + 1, n))
      → before ++ made (counted_from (1 + i) (drop i ns)) ≡ all → after ++ made (counted_from (1 + (i + 1)) (drop (i + 1) ns)) ≡ all
  one_more law ns i before after all lt is so_far =
      let up : i + 1 ≡ suc i = omega arith in
      let on : i + 1 ≡ 1 + i = omega arith in
      let (n, at, e) = split ns i 1 lt in
      let named : name_at ns (i + 1) ≡ Some n = ap (name_at ns) up ∙ at in
      let added : after ≡ before ++ item (1 + i, n) = is n named ∙ ap (λ k. before ++ item (k, n)) on in
      ap (λ m. after ++ made (counted_from (1 + m) (drop m ns))) up
      ∙ ap (λ x. x ++ made (counted_from (1 + suc i) (drop (suc i) ns))) added
      ∙ append_assoc before (item (1 + i, n)) (made (counted_from (1 + suc i) (drop (suc i) ns)))
      ∙ ap (λ x. before ++ x) (sym (law (1 + i, n) (counted_from (1 + suc i) (drop (suc i) ns))))
      ∙ ap (λ l. before ++ made l) (sym e)
      ∙ so_far

  pub all_made : made [] ≡ [] → (ns : List Text) (n : ℕ) (before all : List Text) → length ns ≡ n
      → before ++ made (counted_from (1 + n) (drop n ns)) ≡ all → before ≡ all
  all_made empty ns n before all long so_far =
      let none : drop n ns ≡ [] = drop_all n ns (omega (arith, long)) in
      sym (append-nil before) ∙ ap (λ xs. before ++ xs) (sym empty) ∙ ap (λ xs. before ++ made (counted_from (1 + n) xs)) (sym none) ∙ so_far

pub mapped : (g : ℕ × Text → Text) (t : ℕ × Text) (ts : List (ℕ × Text)) → map g (t ∷ ts) ≡ (g t ∷ []) ++ map g ts
mapped g t ts = refl

pub kept : (h : ℕ × Text → Option Text) (t : ℕ × Text) (ts : List (ℕ × Text)) → filter_map h (t ∷ ts) ≡ option_to_list (h t) ++ filter_map h ts
kept h t ts = filter_map-append h (t ∷ []) ts ∙ ap (λ zs. zs ++ filter_map h ts) (one_kept h t)

-- the item of the task at a place
found_from : (g : ℕ × Text → Text) (ns : List Text) (i k : ℕ) (n : Text) → slice_get ns i ≡ Some n
    → slice_get (map g (counted_from k ns)) i ≡ Some (g (k + i, n))
found_from g [] zero k n at = let bad : None ≡ Some n = at in absurd cc
found_from g [] (suc i) k n at = let bad : None ≡ Some n = at in absurd cc
found_from g (m ∷ ns) zero k n at =
    let same : k ≡ k + 0 = omega arith in
    ap (λ x. option_map g x) (ap (λ o. option_map (λ y. (k, y)) o) at) ∙ ap (λ j. Some (g (j, n))) same
found_from g (m ∷ ns) (suc i) k n at =
    let next : k + 1 + i ≡ k + suc i = omega arith in
    found_from g ns i (k + 1) n at ∙ ap (λ j. Some (g (j, n))) next

pub found_at : (g : ℕ × Text → Text) (ns : List Text) (i : ℕ) (n : Text) → name_at ns (i + 1) ≡ Some n
    → slice_get (map g (counted_from 1 ns)) i ≡ Some (g (i + 1, n))
found_at g ns i n named =
    let up : suc i ≡ i + 1 = omega arith in
    let on : 1 + i ≡ i + 1 = omega arith in
    found_from g ns i 1 n (ap (name_at ns) up ∙ named) ∙ ap (λ k. Some (g (k, n))) on

-- ---- an item that there may not be

pub item_or : {X : Type 0} (xs : List X) (k : ℕ) (d : X) → unwrap_or (slice_get xs k) d ≡ get_or xs k d
item_or [] zero d = refl
item_or [] (suc k) d = refl
item_or (x ∷ xs) zero d = refl
item_or (x ∷ xs) (suc k) d = item_or xs k d
