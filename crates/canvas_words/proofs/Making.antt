-- Lists that a loop makes of others, element by element.
use Rattle.std.proofs.Common.{◌≡◌, ◌∙◌, ◌<◌, ◌+◌, ◌++◌, ◌∷◌, List, [], map, take, get_or, length, ℕ, ap, subst, sym, add-one}
use Rattle.std.specs.List.{All}
use Rattle.std.proofs.Math.Seq.{take-suc}
use Rattle.std.proofs.lemmas.List.{map-append}
use Rattle.std.proofs.lemmas.List.Elements.{All-push}

pub one_more : {A B X : Type 0} (f : A → B) (g : X → B) (made new : List A) (x : A) (list : List X) (i : ℕ) (d : X) → i < length list
    → new ≡ made ++ x ∷ [] → f x ≡ g (get_or list i d) → map f made ≡ map g (take i list)
    → map f new ≡ map g (take (i + 1) list)
one_more f g made new x list i d lt is same so_far =
    ap (map f) is ∙ map-append f made (x ∷ [])
    ∙ ap (λ r. map f made ++ r ∷ []) same
    ∙ ap (λ rs. rs ++ g (get_or list i d) ∷ []) so_far
    ∙ sym (map-append g (take i list) (get_or list i d ∷ []))
    ∙ ap (map g) (sym (take-suc list i d lt))
    ∙ ap (λ n. map g (take n list)) (sym (add-one i))

pub all_more : {A : Type 0} (P : A → Type 0) (made new : List A) (x : A) → new ≡ made ++ x ∷ [] → All P made → P x → All P new
all_more P made new x is so_far at = subst (All P) (sym is) (All-push P made x so_far at)
