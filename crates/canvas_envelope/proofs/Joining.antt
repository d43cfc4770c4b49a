-- Texts that are written one after the other.
use Rattle.std.proofs.Common.{◌≡◌, ◌∙◌, ℕ, List, ◌++◌, Ok, Err, ap, append_assoc}
use Rattle.std.specs.Prelude.{OnOk, Result}

pub next : (all before piece known : List ℕ) → all ≡ before ++ piece → before ≡ known → all ≡ known ++ piece
next all before piece known is same = is ∙ ap (λ x. x ++ piece) same

pub last : {E : Type 0} (r : Result (Unit {0}) E) (old mid new a b all : List ℕ) → mid ≡ old ++ a → OnOk r (new ≡ mid ++ b) → a ++ b ≡ all
    → OnOk r (new ≡ old ++ all)
last (Ok x) old mid new a b all first second is = second ∙ ap (λ xs. xs ++ b) first ∙ append_assoc old a b ∙ ap (λ xs. old ++ xs) is
last (Err e) old mid new a b all first second is = tt

pub in_six : (o a b c d e f : List ℕ) → (((((o ++ a) ++ b) ++ c) ++ d) ++ e) ++ f ≡ o ++ (((((a ++ b) ++ c) ++ d) ++ e) ++ f)
in_six o a b c d e f = simp append_assoc

pub seven : (a b c d e f g : List ℕ) → (((((a ++ b) ++ c) ++ d) ++ e) ++ f) ++ g ≡ a ++ (b ++ (c ++ (d ++ (e ++ (f ++ g)))))
seven a b c d e f g = simp append_assoc

pub nine : (a b c d e f g h i : List ℕ)
    → (((((((a ++ b) ++ c) ++ d) ++ e) ++ f) ++ g) ++ h) ++ i ≡ a ++ (b ++ (c ++ (d ++ (e ++ (f ++ (g ++ (h ++ i)))))))
nine a b c d e f g h i = simp append_assoc
