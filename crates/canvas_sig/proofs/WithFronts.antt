-- Members with the fronts of their names.
use Rattle.std.proofs.Common.{◌≡◌, ℕ, List, [], ◌∷◌, ◌++◌, ◌+◌, ◌<◌, length, get_or, take, map, subst, ap, sym, ◌∙◌}
use Rattle.std.specs.List.Sorted.{IsPermutation}
use Rattle.std.proofs.lemmas.List.{map_push, take_more}
use Rattle.std.proofs.lemmas.List.Sorted.{IsPermutation-map}
use Rattle.canvas_sig.specs.declared.fronts.Fronted.{Fronted}
use Rattle.canvas_sig.proofs.Parsed.{Named}

abbrev pub member_of : Fronted → Named
member_of f = f.member.now

-- those before the next one, and it
pub one_more_of : (xs : List Fronted) (i : ℕ) (x d : Fronted) → i < length xs → get_or xs i d ≡ x
    → map member_of (take (i + 1) xs) ≡ map member_of (take i xs) ++ member_of x ∷ []
one_more_of xs i x d lt is =
    ap (map member_of) (take_more xs i d lt ∙ ap (λ y. take i xs ++ y ∷ []) is) ∙ map_push member_of (take i xs) x

-- members that are sorted with their fronts
pub sorted_so : (xs : List Named) (fs gs : List Fronted) (ys : List Named) → map member_of fs ≡ xs → IsPermutation fs gs → ys ≡ map member_of gs
    → IsPermutation xs ys
sorted_so xs fs gs ys before perm after =
    let from : List Named → Type 0 = λ ms. IsPermutation ms (map member_of gs) in
    let to : List Named → Type 0 = λ ms. IsPermutation xs ms in
    subst to (sym after) (subst from before (IsPermutation-map member_of fs gs perm))
