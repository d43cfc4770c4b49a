-- What a writer whose bytes are known has after lines, one after the other.
use Rattle.std.proofs.Common.{◌≡◌, ◌∙◌, List, [], ◌∷◌, ◌++◌, append_assoc, append-nil, Option, Some, None, ap, sym, subst, flat_map}
use Rattle.std.proofs.lemmas.Grind.{flat_map-append}
use Rattle.std.specs.Io.KnownBytes.{Appends, Keeps}
use Rattle.canvas_task.specs.Text.{Text}

pub nothing : (o : Option Text) → Appends o o []
nothing None = tt
nothing (Some xs) = sym (append-nil xs)

pub later : (o a b : Option Text) (xs ys : Text) → Appends o a xs → Appends a b ys → Appends o b (xs ++ ys)
later None a b xs ys first next = tt
later (Some os) None b xs ys first next = absurd first
later (Some os) (Some ks) None xs ys first next = absurd next
later (Some os) (Some ks) (Some bs) xs ys first next =
    next ∙ ap (λ l. l ++ ys) first ∙ append_assoc os xs ys

pub kept : (o a b : Option Text) (xs : Text) → Appends o a xs → Keeps a b → Appends o b xs
kept None a b xs first same = tt
kept (Some os) None b xs first same = absurd first
kept (Some os) (Some ks) None xs first same = absurd same
kept (Some os) (Some ks) (Some bs) xs first same = same ∙ first

-- one more line
pub one_more : (f : Text → Text) (o a b : Option Text) (lines : List Text) (line : Text) → Appends o a (flat_map f lines) → Appends a b (f line)
    → Appends o b (flat_map f (lines ++ line ∷ []))
one_more f o a b lines line first next =
    let one : f line ≡ flat_map f (line ∷ []) = sym (append-nil (f line)) in
    let all : flat_map f lines ++ f line ≡ flat_map f (lines ++ line ∷ []) =
    ap (λ l. flat_map f lines ++ l) one ∙ sym (flat_map-append f lines (line ∷ [])) in
    subst (λ xs. Appends o b xs) all (later o a b (flat_map f lines) (f line) first next)

-- a line before others
pub first_line : (f : Text → Text) (o a b : Option Text) (line : Text) (lines : List Text) → Appends o a (f line) → Appends a b (flat_map f lines)
    → Appends o b (flat_map f (line ∷ lines))
first_line f o a b line lines first next = later o a b (f line) (flat_map f lines) first next
