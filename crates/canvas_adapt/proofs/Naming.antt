-- Other names for tasks that are read text by text.
use Rattle.std.proofs.Common.{◌≡◌, ◌∙◌, ℕ, ◌<◌, ◌+◌, List, [], ◌∷◌, ◌++◌, map, take, get_or, length, ap, sym, subst, add-one}
use Rattle.std.proofs.Math.Seq.{take-suc}
use Rattle.std.proofs.lemmas.List.{map-append}
use Rattle.std.specs.Borrow.{Bor}
use Rattle.canvas_task.specs.Text.{Text}
use Rattle.canvas_adapt.specs.RenameTexts.{AreRenameTexts, IsRenameText}
use Rattle.canvas_adapt.specs.declared.renames.Rename.{Rename}

one_behind : (ts : List Text) (rs : List Rename) (t : Text) (r : Rename) → AreRenameTexts ts rs → IsRenameText t r
    → AreRenameTexts (ts ++ t ∷ []) (rs ++ r ∷ [])
one_behind [] [] t r h its = (its, record {})
one_behind [] (x ∷ rs) t r h its = absurd h
one_behind (x ∷ ts) [] t r h its = absurd h
one_behind (x ∷ ts) (y ∷ rs) t r h its = (h.0, one_behind ts rs t r h.1 its)

pub one_more : (texts : List (Bor Text)) (i : ℕ) (d : Bor Text) (rs new : List Rename) (r : Rename) → i < length texts
    → AreRenameTexts (map (λ t. t.now) (take i texts)) rs → new ≡ rs ++ r ∷ [] → IsRenameText (get_or texts i d).now r
    → AreRenameTexts (map (λ t. t.now) (take (i + 1) texts)) new
one_more texts i d rs new r lt so_far is its =
    let seen : map (λ (t : Bor Text). t.now) (take i texts) ++ (get_or texts i d).now ∷ [] ≡ map (λ t. t.now) (take (i + 1) texts) =
    sym (map-append (λ (t : Bor Text). t.now) (take i texts) (get_or texts i d ∷ []))
    ∙ ap (map (λ (t : Bor Text). t.now)) (sym (take-suc texts i d lt))
    ∙ ap (λ n. map (λ (t : Bor Text). t.now) (take n texts)) (sym (add-one i)) in
    subst (λ ts. AreRenameTexts ts new) seen
    (subst (AreRenameTexts (map (λ t. t.now) (take i texts) ++ (get_or texts i d).now ∷ [])) (sym is)
    (one_behind (map (λ t. t.now) (take i texts)) rs (get_or texts i d).now r so_far its))
