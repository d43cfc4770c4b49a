-- Sums of weights over a list and over the callers of a list.
use Rattle.std.proofs.Common.{◌≡◌, ℕ, zero, suc, ◌+◌, ◌≤◌, Bool, true, false, cond, eqb, List, [], ◌∷◌, ◌++◌, refl, sym, ap, subst, ◌∙◌, inl, inr, ◌⊎◌, arith}
use Rattle.std.proofs.lemmas.Bool.{eqb-true, eq-eqb, ne_eqb, eqb-false}
use Rattle.canvas_history.specs.Lists.{In, Each, total, by, seconds}

pub total-append : {X : Type 0} (w : X → ℕ) (xs ys : List X) → total w (xs ++ ys) ≡ total w xs + total w ys
total-append w [] ys = omega arith
total-append w (x ∷ xs) ys = let e = total-append w xs ys in omega arith

-- the weight of an element is at most the sum
pub in_total : {A : Type 0} (w : A → ℕ) (xs : List A) (x : A) → In x xs → w x ≤ total w xs
in_total w [] x i = elim i [ ]
in_total w (y ∷ xs) x (inl e) = let h = ap w e in omega arith
in_total w (y ∷ xs) x (inr i) = let h = in_total w xs x i in omega arith

-- the sum over the numbers up to n
abbrev pub sum_to : ℕ → (ℕ → ℕ) → ℕ
sum_to zero f = f 0
sum_to (suc n) f = sum_to n f + f (suc n)

pub sum_to-le : (n : ℕ) (f g : ℕ → ℕ) → ((p : ℕ) → f p ≤ g p) → sum_to n f ≤ sum_to n g
sum_to-le zero f g l = l 0
sum_to-le (suc n) f g l = let e = sum_to-le n f g l in let h = l (suc n) in omega arith

pub sum_to-same : (n : ℕ) (f g : ℕ → ℕ) → ((p : ℕ) → p ≤ n → f p ≡ g p) → sum_to n f ≡ sum_to n g
sum_to-same zero f g l = l 0 (omega arith)
sum_to-same (suc n) f g l = let e = sum_to-same n f g (λ p b. l p (omega arith)) in let h = l (suc n) (omega arith) in omega arith

-- a at q and f elsewhere too
abbrev bumped : ℕ → ℕ → (ℕ → ℕ) → ℕ → ℕ
bumped q a f p = cond (eqb q p) (a + f p) (f p)

bumped_at : (q a : ℕ) (f : ℕ → ℕ) → bumped q a f q ≡ a + f q
bumped_at q a f = subst (λ b. cond b (a + f q) (f q) ≡ a + f q) (sym (eq-eqb q q refl)) refl

bumped_off : (q a p : ℕ) (f : ℕ → ℕ) → (q ≡ p → ⊥) → bumped q a f p ≡ f p
bumped_off q a p f d = subst (λ b. cond b (a + f p) (f p) ≡ f p) (sym (ne_eqb q p d)) refl

sum_to-bumped : (n q a : ℕ) (f : ℕ → ℕ) → q ≤ n → sum_to n (bumped q a f) ≡ a + sum_to n f
sum_to-bumped zero q a f l = subst (λ r. bumped r a f 0 ≡ a + f 0) (zero_of q l) (bumped_at 0 a f)
  where
    zero_of : (q : ℕ) → q ≤ 0 → 0 ≡ q
    zero_of q l = omega arith
sum_to-bumped (suc n) q a f l = go (eqb q (suc n)) refl (sum_to-bumped n q a f)
  where
    go : (b : Bool) → eqb q (suc n) ≡ b → (q ≤ n → sum_to n (bumped q a f) ≡ a + sum_to n f) → sum_to (suc n) (bumped q a f) ≡ a + sum_to (suc n) f
    go true e r =
        let same : q ≡ suc n = eqb-true _ _ e in
        let here : bumped q a f (suc n) ≡ a + f (suc n) = subst (λ u. bumped q a f u ≡ a + f u) same (bumped_at q a f) in
        let below : sum_to n (bumped q a f) ≡ sum_to n f = sum_to-same n (bumped q a f) f (λ p b. bumped_off q a p f (λ d. omega arith)) in
        omega (arith, here, below)
    go false e r =
        let other : bumped q a f (suc n) ≡ f (suc n) = bumped_off q a (suc n) f (eqb-false _ _ e) in
        let below : sum_to n (bumped q a f) ≡ a + sum_to n f = r (at_most (eqb-false _ _ e)) in
        omega (arith, other, below)
      where
        at_most : (q ≡ suc n → ⊥) → q ≤ n
        at_most d = omega arith

pub sum_to-zero : (n : ℕ) → sum_to n (λ p. 0) ≡ 0
sum_to-zero zero = refl
sum_to-zero (suc n) = let e = sum_to-zero n in omega arith

-- a list's sum is the sum of the callers' sums
pub total_by : {X : Type 0} (w : X → ℕ) (n : ℕ) (es : List (ℕ × X)) → Each (λ e. e.0 ≤ n) es → total w (seconds es) ≡ sum_to n (λ p. total w (by p es))
total_by w n [] k = sym (sum_to-zero n)
total_by {X} w n (e ∷ es) k =
    ap (λ r. w e.1 + r) (total_by w n es k.1)
    ∙ (sym (sum_to-bumped n e.0 (w e.1) (λ p. total w (by p es)) k.0)
    ∙ sum_to-same n _ _ (λ p b. cases p (eqb e.0 p)))
  where
    cases : (p : ℕ) (b : Bool) → cond b (w e.1 + total w (by p es)) (total w (by p es)) ≡ total w (cond b (e.1 ∷ by p es) (by p es))
    cases p true = refl
    cases p false = refl

pub at_zero : (n a : ℕ) → sum_to n (λ p. cond (eqb p 0) a 0) ≡ a
at_zero zero a = refl
at_zero (suc n) a =
    let r = at_zero n a in
    let h : cond (eqb (suc n) 0) a 0 ≡ 0 = subst (λ b. cond b a 0 ≡ 0) (sym (ne_eqb (suc n) 0 (λ e. omega arith))) refl in
    omega arith

pub sum_to-both : (n : ℕ) (f g : ℕ → ℕ) → sum_to n (λ p. f p + g p) ≡ sum_to n f + sum_to n g
sum_to-both zero f g = refl
sum_to-both (suc n) f g = let r = sum_to-both n f g in omega arith

pub total-le : {X : Type 0} (w v : X → ℕ) → ((x : X) → w x ≤ v x) → (xs : List X) → total w xs ≤ total v xs
total-le w v l [] = omega arith
total-le w v l (x ∷ xs) = let r = total-le w v l xs in let h = l x in omega arith

pub total-zero : {X : Type 0} (w : X → ℕ) → ((x : X) → w x ≡ 0) → (xs : List X) → total w xs ≡ 0
total-zero w l [] = refl
total-zero w l (x ∷ xs) = let r = total-zero w l xs in let h = l x in omega arith

-- a sum is nothing, or some element weighs something
pub find_heavy : {X : Type 0} (w : X → ℕ) (xs : List X) → (total w xs ≡ 0) ⊎ ((x : X) × In x xs × (w x ≡ 0 → ⊥))
find_heavy w [] = inl refl
find_heavy {X} w (x ∷ xs) = go (w x) refl (find_heavy w xs)
  where
    go : (n : ℕ) → w x ≡ n → (total w xs ≡ 0) ⊎ ((y : X) × In y xs × (w y ≡ 0 → ⊥)) → (w x + total w xs ≡ 0) ⊎ ((y : X) × In y (x ∷ xs) × (w y ≡ 0 → ⊥))
    go zero e (inl z) = inl (omega arith)
    go zero e (inr (y, i, d)) = inr (y, inr i, d)
    go (suc n) e r = inr (x, inl refl, λ z. omega arith)
