-- The tasks that come first on a line.
use Rattle.std.proofs.Common.{◌≡◌, ◌∙◌, ◌≤◌, ℕ, zero, suc, ◌+◌, max, arith, List, [], ◌∷◌, map, take, length, Bool, true, false, cond, refl, sym, ap, subst}
use Rattle.std.specs.List.{prefix_len}
use Rattle.std.proofs.Math.Numerals.{one-add}
use Rattle.std.proofs.lemmas.List.{length-map}
use Rattle.std.proofs.lemmas.List.Sums.{prefix_len-le-length}
use Rattle.canvas_semantics.specs.PlacedLine.{PTask, PLine, p_stop, p_step, p_group_end, p_chord_end}
use Rattle.canvas_rewrite.specs.FrozenView.{p_tasks_of, p_steps}
use Rattle.canvas_envelope.specs.declared.unplaced.Unplaced.{Unplaced}
use Rattle.canvas_envelope.specs.Unplaced.{is_unplaced, greatest, greatest_in, EachFirst, IsUnplaced, AreUnplaced}

pub weaker : (P Q : PTask → Type 0) → ((t : PTask) → P t → Q t) → (n : ℕ) (l : PLine) → EachFirst P n l → EachFirst Q n l
weaker P Q so zero l h = tt
weaker P Q so (suc n) p_stop h = tt
weaker P Q so (suc n) (p_step t l) h = (so t h.0, weaker P Q so n l h.1)
weaker P Q so (suc n) (p_group_end g ms) h = tt
weaker P Q so (suc n) (p_chord_end g ms b) h = tt

-- ---- those with no place

within : (a b most : ℕ) → max a b ≤ most → (a ≤ most) × (b ≤ most)
within a b most h = (omega (arith, h), omega (arith, h))

begins : (most : ℕ) (ts : List PTask) (e : PLine) → greatest_in (p_tasks_of (take (prefix_len is_unplaced ts) ts)) ≤ most
    → EachFirst (IsUnplaced most) (prefix_len is_unplaced ts) (p_steps ts e)
begins most [] e h = tt
begins most (t ∷ ts) e h = by (begins most ts e) (is_unplaced t) refl h
  where
    n : ℕ
    n = prefix_len is_unplaced ts

    by : (greatest_in (p_tasks_of (take n ts)) ≤ most → EachFirst (IsUnplaced most) n (p_steps ts e)) → (b : Bool) → is_unplaced t ≡ b
        → greatest_in (p_tasks_of (take (cond b (1 + n) 0) (t ∷ ts))) ≤ most → EachFirst (IsUnplaced most) (cond b (1 + n) 0) (p_step t (p_steps ts e))
    by others false so h = tt
    by others true so h =
        let both = within (greatest t) _ most (subst (λ k. greatest_in (p_tasks_of (take k (t ∷ ts))) ≤ most) (one-add n) h) in
        subst (λ k. EachFirst (IsUnplaced most) k (p_step t (p_steps ts e))) (sym (one-add n)) ((so, both.0), others both.1)

at_most : (a b : ℕ) → a ≡ b → b ≤ a
at_most a b h = omega (arith, h)

pub first_of : (u : Unplaced) (ts : List PTask) (e : PLine) → u.count ≡ prefix_len is_unplaced ts → u.greatest ≡ greatest_in (p_tasks_of (take u.count ts))
    → AreUnplaced u (p_steps ts e)
first_of u ts e count most =
    subst (λ k. EachFirst (IsUnplaced u.greatest) k (p_steps ts e)) (sym count)
    (begins u.greatest ts e (at_most _ _ (most ∙ ap (λ k. greatest_in (p_tasks_of (take k ts))) count)))

-- there are at most as many as there are tasks
pub no_more : {X : Type 0} (f : X → PTask) (n : ℕ) (xs : List X) → n ≡ prefix_len is_unplaced (map f xs) → n ≤ length xs
no_more f n xs is = omega (arith, is, prefix_len-le-length is_unplaced (map f xs), length-map xs f)
