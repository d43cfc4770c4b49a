-- Lemmas on the words of Lists.
use Rattle.std.proofs.Common.{◌≡◌, suc, Bool, true, false, cond, List, [], ◌∷◌, ◌++◌, length, slice_get, Some, refl, sym, ap, subst, inl, inr, ◌⊎◌, ⊎_elim}
use Rattle.canvas_history.specs.Lists.{In, Each, firsts}

pub each_append : {X : Type 0} (P : X → Type 0) (xs ys : List X) → Each P xs → Each P ys → Each P (xs ++ ys)
each_append P [] ys p q = q
each_append P (x ∷ xs) ys p q = (p.0, each_append P xs ys p.1 q)

pub each_left : {X : Type 0} (P : X → Type 0) (xs ys : List X) → Each P (xs ++ ys) → Each P xs
each_left P [] ys p = tt
each_left P (x ∷ xs) ys p = (p.0, each_left P xs ys p.1)

pub each_right : {X : Type 0} (P : X → Type 0) (xs ys : List X) → Each P (xs ++ ys) → Each P ys
each_right P [] ys p = p
each_right P (x ∷ xs) ys p = each_right P xs ys p.1

pub each_weaker : {X : Type 0} {P Q : X → Type 0} → ((x : X) → P x → Q x) → (xs : List X) → Each P xs → Each Q xs
each_weaker f [] p = tt
each_weaker f (x ∷ xs) p = (f x p.0, each_weaker f xs p.1)

pub each_from_in : {X : Type 0} {P : X → Type 0} (xs : List X) → ((x : X) → In x xs → P x) → Each P xs
each_from_in [] f = tt
each_from_in (x ∷ xs) f = (f x (inl refl), each_from_in xs (λ y i. f y (inr i)))

pub in_each : {X : Type 0} (P : X → Type 0) (xs : List X) → Each P xs → (x : X) → In x xs → P x
in_each P [] p x i = elim i [ ]
in_each P (y ∷ xs) p x (inl e) = subst P (sym e) p.0
in_each P (y ∷ xs) p x (inr i) = in_each P xs p.1 x i

pub in_left : {X : Type 0} (xs ys : List X) (x : X) → In x xs → In x (xs ++ ys)
in_left [] ys x i = elim i [ ]
in_left (y ∷ xs) ys x (inl e) = inl e
in_left (y ∷ xs) ys x (inr i) = inr (in_left xs ys x i)

pub in_right : {X : Type 0} (xs ys : List X) (x : X) → In x ys → In x (xs ++ ys)
in_right [] ys x i = i
in_right (y ∷ xs) ys x i = inr (in_right xs ys x i)

pub firsts-append : {X Y : Type 0} (xs ys : List (X × Y)) → firsts (xs ++ ys) ≡ firsts xs ++ firsts ys
firsts-append [] ys = refl
firsts-append (x ∷ xs) ys = ap (λ l. x.0 ∷ l) (firsts-append xs ys)

pub length-firsts : {X Y : Type 0} (xs : List (X × Y)) → length (firsts xs) ≡ length xs
length-firsts [] = refl
length-firsts (x ∷ xs) = ap suc (length-firsts xs)

pub cond_cases : {X : Type 0} (P : X → Type 0) (b : Bool) (x y : X) → (b ≡ true → P x) → (b ≡ false → P y) → P (cond b x y)
cond_cases P true x y p q = p refl
cond_cases P false x y p q = q refl

-- the element at the place just past a front is the head of what is left
pub at_front : {X : Type 0} (xs ys : List X) (x : X) → slice_get (xs ++ ys) (length xs) ≡ Some x → (rest : List X) × (ys ≡ x ∷ rest)
at_front [] [] x e = absurd (cc)
at_front [] (y ∷ ys) x e = (ys, cc)
at_front (z ∷ xs) ys x e = at_front xs ys x e

pub in_append_cases : {X : Type 0} (xs ys : List X) (x : X) → In x (xs ++ ys) → In x xs ⊎ In x ys
in_append_cases [] ys x i = inr i
in_append_cases (y ∷ xs) ys x (inl e) = inl (inl e)
in_append_cases (y ∷ xs) ys x (inr i) = ⊎_elim (λ a. inl (inr a)) (λ b. inr b) (in_append_cases xs ys x i)

pub each_both : {X : Type 0} (P Q : X → Type 0) (xs : List X) → Each P xs → Each Q xs → Each (λ x. P x × Q x) xs
each_both P Q [] a b = tt
each_both P Q (x ∷ xs) a b = ((a.0, b.0), each_both P Q xs a.1 b.1)

-- of two answered calls that are the same
pub call_same : {A B : Type 0} {x y : A × B} → x ≡ y → x.0 ≡ y.0
call_same e = ap (λ z. z.0) e

pub reply_same : {A B : Type 0} {x y : A × B} → x ≡ y → x.1 ≡ y.1
reply_same e = ap (λ z. z.1) e
