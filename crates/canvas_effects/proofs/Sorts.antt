-- A stable sort by numbers puts a list in their order.
use Rattle.std.proofs.Common.{◌≡◌, ℕ, zero, suc, ◌<◌, ◌≤◌, Bool, true, false, cond, List, [], ◌∷◌, length, get_or, filter, nat_cmp, is_lt, is_le, refl, sym, ap, ◌∙◌, arith, inl, inr, suc-le-suc, zero-le}
use Rattle.std.specs.Prelude.{nat_lt, ◌+◌, Some}
use Rattle.std.specs.Ordering.{is_some_and}
use Rattle.std.specs.List.{AllAdjacentBelow}
use Rattle.std.proofs.lemmas.List.Sorted.{IsNonDecreasingBy-from_all_adjacent}
use Rattle.std.proofs.lemmas.Bool.{cond-true, cond-false, cases_Bool, ltb-true, ltb-false}
use Rattle.std.proofs.lemmas.Bool.Decides.{nat_tests}
use Rattle.std.specs.List.Sorted.{ties, IsNonDecreasingBy, IsStableByKey}
use Rattle.canvas_effects.specs.Ordered.{put, in_order}

ties_at : (m n : ℕ) → (ties (λ x y. is_lt (nat_cmp x y)) m n ≡ true → m ≡ n) × (m ≡ n → ties (λ x y. is_lt (nat_cmp x y)) m n ≡ true)
ties_at m n = (λ h. grind (arith, nat_tests), λ h. grind (arith, nat_tests))

at_most : (m n : ℕ) → true ≡ is_some_and is_le (Some (nat_cmp m n)) → m ≤ n
at_most m n h = grind (arith, nat_tests)

module _ {A : Type 0} (key : A → ℕ) where
  abbrev same : A → A → Bool
  same = ties (λ x y. is_lt (nat_cmp (key x) (key y)))

  same-true : (x y : A) → same x y ≡ true → key x ≡ key y
  same-true x y = (ties_at (key x) (key y)).0

  same_from : (x y : A) → key x ≡ key y → same x y ≡ true
  same_from x y = (ties_at (key x) (key y)).1

  filter-kept : (p : A → Bool) (y : A) (ys : List A) → p y ≡ true → filter p (y ∷ ys) ≡ y ∷ filter p ys
  filter-kept p y ys h = cond-true _ _ _ h

  filter-dropped : (p : A → Bool) (y : A) (ys : List A) → p y ≡ false → filter p (y ∷ ys) ≡ filter p ys
  filter-dropped p y ys h = cond-false _ _ _ h

  put-past : (x y : A) (ys : List A) → nat_lt (key y) (key x) ≡ true → put key x (y ∷ ys) ≡ y ∷ put key x ys
  put-past x y ys h = cond-true _ _ _ h

  put-stays : (x y : A) (ys : List A) → nat_lt (key y) (key x) ≡ false → put key x (y ∷ ys) ≡ x ∷ y ∷ ys
  put-stays x y ys h = cond-false _ _ _ h

  filter-put : (x c : A) (ds : List A) → filter (same x) (put key c ds) ≡ filter (same x) (c ∷ ds)
  filter-put x c [] = refl
  filter-put x c (d ∷ ds) =
      let p = same x in
      elim (cases_Bool (nat_lt (key d) (key c))) [
        | inr stays ↦ ap (filter p) (put-stays c d ds stays)
        | inl past ↦
            let below : key d < key c = ltb-true (key d) (key c) past in
            ap (filter p) (put-past c d ds past)
            ∙ elim (cases_Bool (p d)) [
              | inr without ↦
                  filter-dropped p d (put key c ds) without ∙ filter-put x c ds
                  ∙ ap (λ l. cond (p c) (c ∷ l) l) (sym (filter-dropped p d ds without))
              | inl with ↦
                  elim (cases_Bool (p c)) [
                    | inl both ↦ absurd (omega (arith, below, same-true x c both, same-true x d with))
                    | inr only ↦
                        filter-kept p d (put key c ds) with ∙ ap (λ l. d ∷ l) (filter-put x c ds ∙ filter-dropped p c ds only)
                        ∙ sym (filter-dropped p c (d ∷ ds) only ∙ filter-kept p d ds with)
                  ]
            ]
      ]

  filter-in_order : (x : A) (cs : List A) → filter (same x) (in_order key cs) ≡ filter (same x) cs
  filter-in_order x [] = refl
  filter-in_order x (c ∷ cs) = filter-put x c (in_order key cs) ∙ ap (λ l. cond (same x c) (c ∷ l) l) (filter-in_order x cs)

  abbrev AreAtLeast : ℕ → List A → Type 0
  AreAtLeast n [] = Unit {0}
  AreAtLeast n (y ∷ ys) = (n ≤ key y) × AreAtLeast n ys

  abbrev Rises : List A → Type 0
  Rises [] = Unit {0}
  Rises (y ∷ ys) = AreAtLeast (key y) ys × Rises ys

  AreAtLeast-le : (n m : ℕ) (ys : List A) → n ≤ m → AreAtLeast m ys → AreAtLeast n ys
  AreAtLeast-le n m [] le h = tt
  AreAtLeast-le n m (y ∷ ys) le h = let first = h.0 in (omega arith, AreAtLeast-le n m ys le h.1)

  AreAtLeast-at : (n : ℕ) (ys : List A) → ((j : ℕ) (d : A) → j < length ys → n ≤ key (get_or ys j d)) → AreAtLeast n ys
  AreAtLeast-at n [] h = tt
  AreAtLeast-at n (y ∷ ys) h = (h zero y (suc-le-suc zero-le), AreAtLeast-at n ys (λ j d lt. h (suc j) d (suc-le-suc lt)))

  Rises-from_sort : (ys : List A) → IsNonDecreasingBy key ys → Rises ys
  Rises-from_sort [] h = tt
  Rises-from_sort (y ∷ ys) h = (
    AreAtLeast-at (key y) ys (λ j d lt. h zero (suc j) d zero-le (suc-le-suc lt)),
    Rises-from_sort ys (λ i j d le lt. h (suc i) (suc j) d (suc-le-suc le) (suc-le-suc lt)),
  )

  AreAtLeast-put : (n : ℕ) (x : A) (ys : List A) → n ≤ key x → AreAtLeast n ys → AreAtLeast n (put key x ys)
  AreAtLeast-put n x [] le h = (le, tt)
  AreAtLeast-put n x (y ∷ ys) le h =
      elim (cases_Bool (nat_lt (key y) (key x))) [
        | inr stays ↦ rw (put-stays x y ys stays) (le, h)
        | inl past ↦ rw (put-past x y ys past) (h.0, AreAtLeast-put n x ys le h.1)
      ]

  Rises-put : (x : A) (ys : List A) → Rises ys → Rises (put key x ys)
  Rises-put x [] h = (tt, tt)
  Rises-put x (y ∷ ys) h =
      elim (cases_Bool (nat_lt (key y) (key x))) [
        | inr stays ↦
            let le : key x ≤ key y = ltb-false (key y) (key x) stays in
            rw (put-stays x y ys stays) ((le, AreAtLeast-le (key x) (key y) ys le h.0), h)
        | inl past ↦
            let below : key y < key x = ltb-true (key y) (key x) past in
            rw (put-past x y ys past) (AreAtLeast-put (key y) x ys (omega (arith, below)) h.0, Rises-put x ys h.1)
      ]

  Rises-in_order : (xs : List A) → Rises (in_order key xs)
  Rises-in_order [] = tt
  Rises-in_order (x ∷ xs) = Rises-put x (in_order key xs) (Rises-in_order xs)

  AreAtLeast-found : (n : ℕ) (x : A) (ys : List A) (w : A) (ws : List A) → AreAtLeast n ys → filter (same x) ys ≡ w ∷ ws → n ≤ key x
  AreAtLeast-found n x [] w ws h e = cc
  AreAtLeast-found n x (y ∷ ys) w ws h e =
      elim (cases_Bool (same x y)) [
        | inl with ↦ omega (arith, h.0, same-true x y with)
        | inr without ↦ AreAtLeast-found n x ys w ws h.1 (sym (filter-dropped (same x) y ys without) ∙ e)
      ]

  same_lists : (ys zs : List A) → Rises ys → Rises zs → ((x : A) → filter (same x) ys ≡ filter (same x) zs) → ys ≡ zs
  same_lists [] [] left right eq = refl
  same_lists [] (z ∷ zs) left right eq =
      let clash = eq z ∙ filter-kept (same z) z zs (same_from z z refl) in cc
  same_lists (y ∷ ys) [] left right eq =
      let clash = sym (eq y) ∙ filter-kept (same y) y ys (same_from y y refl) in cc
  same_lists (y ∷ ys) (z ∷ zs) left right eq =
      let at_y = filter-kept (same y) y ys (same_from y y refl) in
      let at_z = filter-kept (same z) z zs (same_from z z refl) in
      let up = AreAtLeast-found (key z) y (z ∷ zs) y _ (omega arith, right.0) (sym (eq y) ∙ at_y) in
      let down = AreAtLeast-found (key y) z (y ∷ ys) z _ (omega arith, left.0) (eq z ∙ at_z) in
      let heads = sym at_y ∙ eq y ∙ filter-kept (same y) z zs (same_from y z (omega arith)) in
      let head : y ≡ z = cc in
      let tails : (x : A) → filter (same x) ys ≡ filter (same x) zs =
      λ x. elim (cases_Bool (same x y)) [
        | inl with ↦
            let both = sym (filter-kept (same x) y ys with) ∙ eq x ∙ filter-kept (same x) z zs (ap (same x) (sym head) ∙ with) in cc
        | inr without ↦
            sym (filter-dropped (same x) y ys without) ∙ eq x ∙ filter-dropped (same x) z zs (ap (same x) (sym head) ∙ without)
      ] in
      ap (λ w. w ∷ ys) head ∙ ap (λ l. z ∷ l) (same_lists ys zs left.1 right.1 tails)

  pub ordered_by_sort : (xs ys : List A) → IsNonDecreasingBy key ys → IsStableByKey key nat_cmp xs ys → ys ≡ in_order key xs
  ordered_by_sort xs ys sorted stable =
      same_lists ys (in_order key xs) (Rises-from_sort ys sorted) (Rises-in_order xs) (λ x. stable x ∙ sym (filter-in_order x xs))

  -- a list that is already in the order of its numbers is unchanged
  pub in_order_stays : (xs : List A) → AllAdjacentBelow (λ x y. true ≡ is_some_and is_le (Some (nat_cmp (key x) (key y)))) xs (length xs) → in_order key xs ≡ xs
  in_order_stays xs h =
      sym (ordered_by_sort xs xs (IsNonDecreasingBy-from_all_adjacent key xs (λ k d lt. at_most (key (get_or xs k d)) (key (get_or xs (k + 1) d)) (h k d lt)))
      (λ x. refl))
