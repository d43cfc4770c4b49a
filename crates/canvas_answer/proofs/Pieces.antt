-- What reading an item piece by piece takes of an input that is known.
use Rattle.std.proofs.Common.{◌≡◌, ◌≢◌, ◌⊎◌, inl, inr, ◌∙◌, ◌++◌, ◌<◌, ◌≤◌, ◌-◌, ℕ, zero, suc, min, All, List, [], ◌∷◌, Option, None, Some, IfSome, OnSome, true, false, true≢false, cond, eqb, eqb-true, eq-eqb, ne_eqb, refl, sym, ap, subst, append_assoc, append-nil, arith, length, length-append, take}
use Rattle.std.proofs.lemmas.Bool.{cases_lt}
use Rattle.std.proofs.lemmas.List.{length-take, length-take-le, nil_from_length, take-append-le, take_all}
use Rattle.std.proofs.BufReadLemmas.{drop_through-append}
use Rattle.std.proofs.lemmas.List.Elements.{All-head, All-tail, All-append}
use Rattle.std.specs.Io.BufRead.{drop_through}
use Rattle.std.specs.Io.KnownBytes.{Consumes, IsAtEnd}
use Rattle.canvas_answer.specs.Items.{IsNext, before, most_item}
use Rattle.canvas_answer.specs.steps.Pieces.{taken}
use Rattle.canvas_answer.specs.declared.items.Piece.{Piece}
use Rattle.canvas_answer.specs.declared.items.Piece.TheVariants as piece

module _ (end : ℕ) where
  -- a front with no end is before it
  before-append : (xs ys : List ℕ) → All (λ x. x ≢ end) xs → before end (xs ++ ys) ≡ xs ++ before end ys
  before-append [] ys h = refl
  before-append (x ∷ xs) ys h =
      ap (λ b. cond b [] (x ∷ before end (xs ++ ys))) (ne_eqb x end (All-head (λ y. y ≢ end) x xs h))
      ∙ ap (λ l. x ∷ l) (before-append xs ys (All-tail (λ y. y ≢ end) x xs h))

  before-hit : (xs ys : List ℕ) → All (λ x. x ≢ end) xs → before end (xs ++ end ∷ ys) ≡ xs
  before-hit xs ys h =
      before-append xs (end ∷ ys) h ∙ ap (λ b. xs ++ cond b [] (end ∷ before end ys)) (eq-eqb end end refl) ∙ append-nil xs

  before-all : (xs : List ℕ) → All (λ x. x ≢ end) xs → before end xs ≡ xs
  before-all xs h = ap (before end) (sym (append-nil xs)) ∙ before-append xs [] h ∙ append-nil xs

  left-hit : (xs ys : List ℕ) → All (λ x. x ≢ end) xs → drop_through end (xs ++ end ∷ ys) ≡ ys
  left-hit xs ys h = drop_through-append end xs (end ∷ ys) h ∙ ap (λ b. cond b ys (drop_through end ys)) (eq-eqb end end refl)

  left-none : (xs : List ℕ) → All (λ x. x ≢ end) xs → drop_through end xs ≡ []
  left-none xs h = ap (drop_through end) (sym (append-nil xs)) ∙ drop_through-append end xs [] h

  -- parts without an end, and one that has it
  pub next_here : (a b c : Option (List ℕ)) (done bs item : List ℕ) → Consumes a b done → All (λ x. x ≢ end) done → Consumes b c (bs ++ end ∷ [])
      → All (λ x. x ≢ end) bs → item ≡ take most_item (done ++ bs) → IfSome a (λ xs. IsNext end xs c (Some item))
  next_here None b c done bs item p all q all' kept = tt
  next_here (Some x) None c done bs item p all q all' kept = absurd p
  next_here (Some x) (Some y) None done bs item p all q all' kept = absurd q
  next_here (Some x) (Some y) (Some z) done bs item p all q all' kept =
      let both = All-append (λ x. x ≢ end) done bs all all' in
      let split : x ≡ (done ++ bs) ++ end ∷ z = p ∙ ap (λ l. done ++ l) (q ∙ append_assoc bs (end ∷ []) z) ∙ sym (append_assoc done bs (end ∷ z)) in (
        omega (arith, ap length split, length-append (done ++ bs) (end ∷ z)),
        kept ∙ ap (take most_item) (sym (ap (before end) split ∙ before-hit (done ++ bs) z both)),
        ap Some (sym (ap (drop_through end) split ∙ left-hit (done ++ bs) z both)),
      )

  -- parts without an end up to that of the input
  whole : (x y z done : List ℕ) → x ≡ done ++ y → y ≡ [] ++ z → z ≡ [] → x ≡ done
  whole x y z done p q at = p ∙ ap (λ l. done ++ l) (q ∙ at) ∙ append-nil done

  pub next_none : (a b c : Option (List ℕ)) (done : List ℕ) → Consumes a b done → Consumes b c [] → OnSome b (IsAtEnd c) → done ≡ []
      → IfSome a (λ xs. IsNext end xs c None)
  next_none None b c done p q at none = tt
  next_none (Some x) None c done p q at none = absurd p
  next_none (Some x) (Some y) None done p q at none = absurd q
  next_none (Some x) (Some y) (Some z) done p q at none = (whole x y z done p q at ∙ none, ap Some at)

  pub next_last : (a b c : Option (List ℕ)) (done item : List ℕ) → Consumes a b done → All (λ x. x ≢ end) done → Consumes b c [] → OnSome b (IsAtEnd c)
      → 0 < length done → item ≡ take most_item done → IfSome a (λ xs. IsNext end xs c (Some item))
  next_last None b c done item p all q at some kept = tt
  next_last (Some x) None c done item p all q at some kept = absurd p
  next_last (Some x) (Some y) None done item p all q at some kept = absurd q
  next_last (Some x) (Some y) (Some z) done item p all q at some kept =
      let same = whole x y z done p q at in (
        omega (arith, ap length same),
        kept ∙ ap (take most_item) (sym (ap (before end) same ∙ before-all done all)),
        ap Some (at ∙ sym (ap (drop_through end) same ∙ left-none done all)),
      )

  -- what is taken with each kind of piece
  pub taken_last : (a b : Option (List ℕ)) (p : Piece) (bs : List ℕ) → p ≡ piece.Last → Consumes a b (taken end p bs) → Consumes a b (bs ++ end ∷ [])
  taken_last a b p bs e h = subst (λ q. Consumes a b (taken end q bs)) e h

  pub taken_part : (a b : Option (List ℕ)) (p : Piece) (bs : List ℕ) → p ≡ piece.Part → Consumes a b (taken end p bs) → Consumes a b bs
  taken_part a b p bs e h = subst (λ q. Consumes a b (taken end q bs)) e h

  pub taken_none : (a b : Option (List ℕ)) (p : Piece) (bs : List ℕ) → p ≡ piece.None → length bs ≡ 0 → Consumes a b (taken end p bs) → Consumes a b []
  taken_none a b p bs e none h = subst (Consumes a b) (nil_from_length bs none) (subst (λ q. Consumes a b (taken end q bs)) e h)

abbrev IsPart : Piece → Type 0
IsPart piece.Last = ⊥
IsPart piece.Part = Unit {0}
IsPart piece.None = ⊥

pub part_is_some : piece.Part ≡ piece.None → ⊥
part_is_some e = subst IsPart e tt

-- ---- bytes of which the first n are kept

kept_room : (n : ℕ) (ys : List ℕ) → take n ys ≡ take (min (length ys) n) ys
kept_room n ys = at (cases_lt n (length ys))
  where
    at : (n < length ys) ⊎ (length ys ≤ n) → take n ys ≡ take (min (length ys) n) ys
    at (inl l) = ap (λ k. take k ys) (omega arith)
    at (inr l) = take_all n ys l ∙ sym (ap (λ k. take k ys) (omega arith) ∙ take_all (length ys) ys (omega arith))

pub kept_all : (n : ℕ) (xs ys : List ℕ) → length xs ≤ n → take n (xs ++ ys) ≡ xs ++ take (min (length ys) (n - length xs)) ys
kept_all n [] ys l = kept_room n ys ∙ ap (λ k. take (min (length ys) k) ys) (omega arith)
kept_all zero (x ∷ xs) ys l = absurd (omega arith)
kept_all (suc n) (x ∷ xs) ys l = ap (λ l. x ∷ l) (kept_all n xs ys (omega arith) ∙ ap (λ k. xs ++ take (min (length ys) k) ys) (omega arith))

pub kept_more : (n : ℕ) (done bs : List ℕ) → take n (take n done ++ bs) ≡ take n (done ++ bs)
kept_more n done bs = at (cases_lt n (length done))
  where
    at : (n < length done) ⊎ (length done ≤ n) → take n (take n done ++ bs) ≡ take n (done ++ bs)
    at (inl l) =
        let long = length-take-le n done (omega arith) in
        take-append-le n (take n done) bs (omega arith) ∙ take_all n (take n done) (omega arith) ∙ sym (take-append-le n done bs (omega arith))
    at (inr l) = ap (λ m. take n (m ++ bs)) (take_all n done l)

pub kept_short : (n : ℕ) (l item : List ℕ) → item ≡ take n l → length item ≤ n
kept_short n l item e = omega (arith, ap length e, length-take n l)

pub kept_none : (n len : ℕ) (l item : List ℕ) → 0 < n → item ≡ take n l → len ≡ length item → eqb len 0 ≡ true → l ≡ []
kept_none n len l item some e same test = nil_from_length l (omega (arith, eqb-true len 0 test, ap length e, length-take n l))

pub kept_some : (n len : ℕ) (l item : List ℕ) → item ≡ take n l → len ≡ length item → eqb len 0 ≡ false → 0 < length l
kept_some n len [] item e same test =
    let empty : List ℕ = [] in
    absurd (true≢false (sym (eq-eqb len 0 (omega (arith, ap length e, length-take n empty))) ∙ test))
kept_some n len (x ∷ l) item e same test = omega arith
