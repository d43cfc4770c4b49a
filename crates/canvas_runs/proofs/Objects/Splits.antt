-- Histories that begin with worker 0 making the others.
use Rattle.std.proofs.Common.{◌≡◌, ◌≢◌, ℕ, true, false, List, [], ◌∷◌, ◌++◌, refl, sym, ap, ◌∙◌, subst, ne_eqb, append_assoc, append-nil}
use Rattle.canvas_history.specs.Answers.{splits_of}
use Rattle.canvas_history.specs.History.{Entry, split, among, live, live_from, split_off, Legal}
use Rattle.canvas_history.proofs.Histories.{In, in_here, legal_append}

named_splits : (C R : Type 0) (qs : List ℕ) → split_off (splits_of {C = C} {R = R} qs) ≡ qs
named_splits C R [] = refl
named_splits C R (q ∷ qs) = ap (λ l. q ∷ l) (named_splits C R qs)

pub live_splits : (C R : Type 0) (cs qs : List ℕ) → live_from cs (splits_of {C = C} {R = R} qs) ≡ cs ++ qs
live_splits C R cs [] = sym (append-nil cs)
live_splits C R cs (q ∷ qs) = live_splits C R (cs ++ q ∷ []) qs ∙ append_assoc cs (q ∷ []) qs

splits_more : (C R : Type 0) (qs rs : List ℕ) → splits_of {C = C} {R = R} (qs ++ rs) ≡ splits_of qs ++ splits_of rs
splits_more C R [] rs = refl
splits_more C R (q ∷ qs) rs = ap (λ l. split 0 q ∷ l) (splits_more C R qs rs)

-- one more of another number
pub split_more : {C R S : Type 0} (first : S) (answer : S → C → R) (next : S → C → S) (May : List (Entry C R) → S → ℕ → C → Type 0) (qs : List ℕ) (q : ℕ)
    → Legal first answer next May (splits_of qs) → q ≢ 0 → among q qs ≡ false → Legal first answer next May (splits_of (qs ++ q ∷ []))
split_more {C} {R} first answer next May qs q legal other fresh =
    subst (Legal first answer next May) (sym (splits_more C R qs (q ∷ [])))
    (legal_append first answer next May [] (splits_of qs) (split 0 q ∷ []) legal ((alive, ne_eqb q 0 other, unused), tt))
  where
    alive : among 0 (live (splits_of {C = C} {R = R} qs)) ≡ true
    alive = subst (λ ls. In 0 ls) (sym (live_splits C R (0 ∷ []) qs)) (in_here 0 qs)

    unused : among q (split_off (splits_of {C = C} {R = R} qs)) ≡ false
    unused = subst (λ ls. among q ls ≡ false) (sym (named_splits C R qs)) fresh
