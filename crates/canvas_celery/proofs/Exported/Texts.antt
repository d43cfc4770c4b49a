-- Texts of messages, one after the other.
use Rattle.std.proofs.Common.{◌≡◌, ◌∙◌, ℕ, ◌+◌, ◌<◌, ◌≤◌, List, [], ◌∷◌, ◌++◌, length, take, get_or, map, refl, sym, ap, ap₂}
use Rattle.std.proofs.lemmas.List.{map-append, take_more, take_all}

module _ {X Y Z : Type 0} (g : X → Z) (f : Y → Z) where
  pub next_text : (before after : List X) (cs : List Y) (i : ℕ) (t : X) (c d : Y) → i < length cs → get_or cs i d ≡ c → after ≡ before ++ t ∷ [] → g t ≡ f c
      → map g before ≡ map f (take i cs) → map g after ≡ map f (take (i + 1) cs)
  next_text before after cs i t c d h is pushed one kept =
      ap (map g) pushed ∙ (map-append g before (t ∷ []) ∙ (ap₂ (λ xs x. xs ++ x ∷ []) kept one
      ∙ (sym (map-append f (take i cs) (c ∷ [])) ∙ ap (map f) (ap (λ x. take i cs ++ x ∷ []) (sym is) ∙ sym (take_more cs i d h)))))

  pub last_text : (ts : List X) (cs : List Y) (i : ℕ) → length cs ≤ i → map g ts ≡ map f (take i cs) → map g ts ≡ map f cs
  last_text ts cs i h kept = kept ∙ ap (map f) (take_all i cs h)

-- what is read of the messages so far is what they say
module _ {X Z : Type 0} (read says : X → Z) (xs : List X) (i : ℕ) where
  one_more : (x d : X) → i < length xs → get_or xs i d ≡ x → (g : X → Z) → map g (take (i + 1) xs) ≡ map g (take i xs) ++ g x ∷ []
  one_more x d h is g = ap (map g) (take_more xs i d h ∙ ap (λ y. take i xs ++ y ∷ []) is) ∙ map-append g (take i xs) (x ∷ [])

  pub next_read : (x d : X) → i < length xs → get_or xs i d ≡ x → read x ≡ says x → map read (take i xs) ≡ map says (take i xs)
      → map read (take (i + 1) xs) ≡ map says (take (i + 1) xs)
  next_read x d h is one kept = one_more x d h is read ∙ (ap₂ (λ ys y. ys ++ y ∷ []) kept one ∙ sym (one_more x d h is says))

  pub all_read : length xs ≤ i → map read (take i xs) ≡ map says (take i xs) → map read xs ≡ map says xs
  all_read h kept = ap (map read) (sym (take_all i xs h)) ∙ (kept ∙ ap (map says) (take_all i xs h))

pub at_once : {X Y Z : Type 0} (f : Y → Z) (g : X → Y) (xs : List X) → map f (map g xs) ≡ map (λ x. f (g x)) xs
at_once f g [] = refl
at_once f g (x ∷ xs) = ap (λ ys. f (g x) ∷ ys) (at_once f g xs)
