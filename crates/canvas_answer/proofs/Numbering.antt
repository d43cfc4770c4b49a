-- Words of tasks' numbers, read one by one.
use Rattle.std.proofs.Common.{◌≡◌, ◌∙◌, ℕ, ◌<◌, ◌+◌, List, [], ◌∷◌, ◌++◌, Option, map, take, get_or, length, filter_map, option_to_list, ap, sym, subst}
use Rattle.std.proofs.lemmas.List.{append_assoc}
use Rattle.std.specs.Borrow.{Bor}
use Rattle.canvas_task.specs.Text.{Text}
use Rattle.canvas_adapt.specs.declared.renames.Rename.{Rename}
use Rattle.canvas_adapt.specs.declared.stubs.stub.Stub.{Stub}
use Rattle.canvas_answer.specs.Stubbing.{AreNumbered, IsNumbered}
use Rattle.canvas_answer.proofs.Reading.{one_more, one_taken}

one_behind : (stands : Text) (ts : List Text) (rs : List Rename) (ss : List Stub) (t : Text) (r : Rename) (s : Stub) → AreNumbered stands ts rs ss
    → IsNumbered stands t r s → AreNumbered stands (ts ++ t ∷ []) (rs ++ r ∷ []) (ss ++ s ∷ [])
one_behind stands [] [] [] t r s h its = (its, tt)
one_behind stands [] [] (y ∷ ss) t r s h its = absurd h
one_behind stands [] (x ∷ rs) ss t r s h its = absurd h
one_behind stands (w ∷ ts) [] ss t r s h its = absurd h
one_behind stands (w ∷ ts) (x ∷ rs) [] t r s h its = absurd h
one_behind stands (w ∷ ts) (x ∷ rs) (y ∷ ss) t r s h its = (h.0, one_behind stands ts rs ss t r s h.1 its)

pub one_numbered : (stands : Text) (texts : List (Bor Text)) (i : ℕ) (d : Bor Text) (rs : List Rename) (ss : List Stub) (r : Rename) (s : Stub)
    → i < length texts → AreNumbered stands (map (λ t. t.now) (take i texts)) rs ss → IsNumbered stands (get_or texts i d).now r s
    → AreNumbered stands (map (λ t. t.now) (take (i + 1) texts)) (rs ++ r ∷ []) (ss ++ s ∷ [])
one_numbered stands texts i d rs ss r s lt so_far its =
    subst (λ ts. AreNumbered stands ts (rs ++ r ∷ []) (ss ++ s ∷ [])) (sym (one_taken (λ t. t.now) texts i d lt))
    (one_behind stands (map (λ t. t.now) (take i texts)) rs ss (get_or texts i d).now r s so_far its)

pub one_added : {X : Type 0} (new before first so_far more : List X) → new ≡ before ++ more → before ≡ first ++ so_far
    → new ≡ first ++ (so_far ++ more)
one_added new before first so_far more is was = is ∙ ap (λ xs. xs ++ more) was ∙ append_assoc first so_far more

pub kept_added : {X Y Z : Type 0} (f : X → Y) (h : Y → Option Z) (xs : List X) (i : ℕ) (d : X) (new before first : List Z) → i < length xs
    → new ≡ before ++ option_to_list (h (f (get_or xs i d))) → before ≡ first ++ filter_map h (map f (take i xs))
    → new ≡ first ++ filter_map h (map f (take (i + 1) xs))
kept_added f h xs i d new before first lt is was =
    one_added new before first (filter_map h (map f (take i xs))) (option_to_list (h (f (get_or xs i d)))) is was
    ∙ ap (λ zs. first ++ zs) (sym (one_more f h xs i d lt))
