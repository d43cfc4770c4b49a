-- What a loop has read of a list of texts, with one more.
use Rattle.std.proofs.Common.{◌≡◌, ◌∙◌, ℕ, ◌<◌, ◌+◌, List, [], ◌∷◌, ◌++◌, Option, Some, None, map, take, get_or, length, filter_map, option_to_list, ap, sym, add-one, refl}
use Rattle.std.proofs.Math.Seq.{take-suc}
use Rattle.std.proofs.lemmas.List.{map-append}
use Rattle.std.proofs.lemmas.List.Elements.{filter_map-append}

pub one_taken : {X Y : Type 0} (f : X → Y) (xs : List X) (i : ℕ) (d : X) → i < length xs
    → map f (take (i + 1) xs) ≡ map f (take i xs) ++ f (get_or xs i d) ∷ []
one_taken f xs i d lt =
    ap (λ n. map f (take n xs)) (add-one i) ∙ ap (map f) (take-suc xs i d lt) ∙ map-append f (take i xs) (get_or xs i d ∷ [])

kept_or_not : {Y Z : Type 0} (y : Y) (o : Option Z) → filter_map (λ _. o) (y ∷ []) ≡ option_to_list o
kept_or_not y None = refl
kept_or_not y (Some z) = refl

pub one_kept : {Y Z : Type 0} (h : Y → Option Z) (y : Y) → filter_map h (y ∷ []) ≡ option_to_list (h y)
one_kept h y = kept_or_not y (h y)

pub one_more : {X Y Z : Type 0} (f : X → Y) (h : Y → Option Z) (xs : List X) (i : ℕ) (d : X) → i < length xs
    → filter_map h (map f (take (i + 1) xs)) ≡ filter_map h (map f (take i xs)) ++ option_to_list (h (f (get_or xs i d)))
one_more f h xs i d lt =
    ap (filter_map h) (one_taken f xs i d lt) ∙ filter_map-append h (map f (take i xs)) (f (get_or xs i d) ∷ [])
    ∙ ap (λ zs. filter_map h (map f (take i xs)) ++ zs) (one_kept h (f (get_or xs i d)))

pub step : {X Y Z : Type 0} (f : X → Y) (h : Y → Option Z) (xs : List X) (i : ℕ) (d : X) (old new : List Z) → i < length xs
    → new ≡ old ++ option_to_list (h (f (get_or xs i d))) → old ≡ filter_map h (map f (take i xs))
    → new ≡ filter_map h (map f (take (i + 1) xs))
step f h xs i d old new lt is so_far =
    is ∙ ap (λ zs. zs ++ option_to_list (h (f (get_or xs i d)))) so_far ∙ sym (one_more f h xs i d lt)
