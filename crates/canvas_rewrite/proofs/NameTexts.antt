-- Names whose texts are kept once where equal ones follow each other.
use Rattle.std.proofs.Common.{◌≡◌, ◌∙◌, ◌<◌, ◌-◌, ℕ, zero, suc, List, [], ◌∷◌, ◌++◌, All, length, get_or, slice_get, Some, refl, ap, sym, subst, arith}
use Rattle.std.proofs.lemmas.List.{map-append, get_or_append_left, length-append}
use Rattle.std.proofs.lemmas.List.Elements.{All-append}
use Rattle.canvas_rewrite.specs.steps.NameTexts.{texts_at, EndsIn, Extends}

pub one_more : (texts : List (List ℕ)) (places : List ℕ) (name : List ℕ) → EndsIn texts name
    → texts_at texts (places ++ (length texts - 1) ∷ []) ≡ texts_at texts places ++ name ∷ []
one_more texts places name ends =
    map-append (λ i. get_or texts i []) places ((length texts - 1) ∷ []) ∙ ap (λ y. texts_at texts places ++ y ∷ []) ends.1

pub with_more : (old more : List (List ℕ)) (places : List ℕ) → All (λ i. i < length old) places → texts_at (old ++ more) places ≡ texts_at old places
with_more old more [] inside = refl
with_more old more (i ∷ is) inside =
    let further : All (λ j. j < length old) is = λ k d lt. inside (suc k) d (omega (arith, lt)) in
    λ k. get_or_append_left old more [] i (inside 0 0 (omega arith)) k ∷ with_more old more is further k

still_inside : (old more : List (List ℕ)) (places : List ℕ) → All (λ i. i < length old) places → All (λ i. i < length (old ++ more)) places
still_inside old more places inside = λ k d lt. let low = inside k d lt in omega (arith, low, length-append old more)

pub seen : (old new : List (List ℕ)) (places : List ℕ) (name : List ℕ) → Extends old new → EndsIn new name → All (λ i. i < length old) places
    → texts_at new (places ++ (length new - 1) ∷ []) ≡ texts_at old places ++ name ∷ []
seen old new places name more ends inside =
    one_more new places name ends ∙ ap (λ ts. texts_at ts places ++ name ∷ []) more.1
    ∙ ap (λ ns. ns ++ name ∷ []) (with_more old more.0 places inside)

pub inside_more : (old new : List (List ℕ)) (places : List ℕ) → Extends old new → All (λ i. i < length old) places → All (λ i. i < length new) places
inside_more old new places more inside = subst (λ ts. All (λ i. i < length ts) places) (sym more.1) (still_inside old more.0 places inside)

single : (P : ℕ → Type 0) (n : ℕ) → P n → All P (n ∷ [])
single P n p k d lt =
    let first : k ≡ 0 = omega (arith, lt) in
    subst (λ j. P (get_or (n ∷ []) j d)) (sym first) p

one_inside : (texts : List (List ℕ)) (places : List ℕ) (n : ℕ) → n < length texts → All (λ i. i < length texts) places
    → All (λ i. i < length texts) (places ++ n ∷ [])
one_inside texts places n low inside = All-append (λ i. i < length texts) places (n ∷ []) inside (single (λ i. i < length texts) n low)

pub all_inside : (old new : List (List ℕ)) (places : List ℕ) (name : List ℕ) → Extends old new → EndsIn new name → All (λ i. i < length old) places
    → All (λ i. i < length new) (places ++ (length new - 1) ∷ [])
all_inside old new places name more ends inside =
    one_inside new places (length new - 1) (omega (arith, ends.0)) (inside_more old new places more inside)

at_end : (texts : List (List ℕ)) (name : List ℕ) → get_or (texts ++ name ∷ []) (length texts) [] ≡ name
at_end [] name = refl
at_end (t ∷ ts) name = at_end ts name

pub ends_pushed : (texts : List (List ℕ)) (name : List ℕ) → EndsIn (texts ++ name ∷ []) name
ends_pushed texts name =
    let long = length-append texts (name ∷ []) in
    let at : length (texts ++ name ∷ []) - 1 ≡ length texts = omega (arith, long) in
    (omega (arith, long), ap (λ i. get_or (texts ++ name ∷ []) i []) at ∙ at_end texts name)

at_some : (texts : List (List ℕ)) (i : ℕ) (x : List ℕ) → Some x ≡ slice_get texts i → get_or texts i [] ≡ x
at_some [] zero x is = absurd cc
at_some [] (suc i) x is = absurd cc
at_some (t ∷ ts) zero x is = cc
at_some (t ∷ ts) (suc i) x is = at_some ts i x is

pub last_is : (texts : List (List ℕ)) (last : List ℕ) → Some last ≡ slice_get texts (length texts - 1)
    → (0 < length texts) × (get_or texts (length texts - 1) [] ≡ last)
last_is [] last is = absurd cc
last_is (t ∷ ts) last is = (omega arith, at_some (t ∷ ts) (length (t ∷ ts) - 1) last is)
