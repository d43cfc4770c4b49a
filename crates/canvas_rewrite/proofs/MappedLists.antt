-- What a loop pushes for one element of a list after another.
use Rattle.std.proofs.Common.{◌≡◌, ◌∙◌, ℕ, ◌+◌, ◌<◌, ◌≤◌, List, [], ◌∷◌, ◌++◌, length, take, get_or, map, sym, ap, ap₂}
use Rattle.std.proofs.lemmas.List.{map_push, map_more, take_all}

module _ {X Y Z : Type 0} (g : X → Z) (f : Y → Z) where
  pub one_more : (before after : List X) (ys : List Y) (i : ℕ) (x : X) (y : Y) → i < length ys → y ≡ get_or ys i y → after ≡ before ++ x ∷ [] → g x ≡ f y
      → map g before ≡ map f (take i ys) → map g after ≡ map f (take (i + 1) ys)
  one_more before after ys i x y inside is pushed same kept =
      ap (map g) pushed ∙ map_push g before x ∙ ap₂ (λ zs z. zs ++ z ∷ []) kept (same ∙ ap f is) ∙ sym (map_more f ys i y inside)

  pub all_there : (xs : List X) (ys : List Y) (i : ℕ) → length ys ≤ i → map g xs ≡ map f (take i ys) → map g xs ≡ map f ys
  all_there xs ys i past kept = kept ∙ ap (map f) (take_all i ys past)
