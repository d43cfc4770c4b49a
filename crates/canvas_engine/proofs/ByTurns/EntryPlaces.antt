-- The first entry for a point.
use Rattle.std.proofs.Common.{◌≡◌, ◌≤◌, ℕ, zero, suc, Bool, true, false, cond, List, [], ◌∷◌, Some, length, take, refl, sym, ap, ◌∙◌}
use Rattle.std.specs.Prelude.{◌||◌, slice_get}
use Rattle.std.specs.List.{remove}
use Rattle.std.proofs.lemmas.Bool.{false≢true}
use Rattle.std.proofs.lemmas.List.{take_all}
use Rattle.canvas_runs.specs.declared.when.When.{When}
use Rattle.canvas_runs.specs.Redeliveries.{Entry, is_for, has, without}

module _ (k : ℕ) (w : When) where
  pub none_more : (es : List Entry) (i : ℕ) (e : Entry) → slice_get es i ≡ Some e → has k w (take i es) ≡ false → is_for k w e ≡ false
      → has k w (take (suc i) es) ≡ false
  none_more [] zero e at before here = refl
  none_more [] (suc i) e at before here = refl
  none_more (d ∷ es) zero e at before here = let same : d ≡ e = cc in ap (λ x. is_for k w x || false) same ∙ ap (λ b. b || false) here
  none_more (d ∷ es) (suc i) e at before here = go (is_for k w d) (λ h. none_more es i e at h here) before
    where
      go : (b : Bool) → (has k w (take i es) ≡ false → has k w (take (suc i) es) ≡ false) → (b || has k w (take i es)) ≡ false
          → (b || has k w (take (suc i) es)) ≡ false
      go true f h = absurd (false≢true (sym h))
      go false f h = f h

  pub is_first : (es : List Entry) (i : ℕ) (e : Entry) → slice_get es i ≡ Some e → has k w (take i es) ≡ false → is_for k w e ≡ true
      → (has k w es ≡ true) × (remove es i ≡ without k w es)
  is_first [] zero e at before here = absurd cc
  is_first [] (suc i) e at before here = absurd cc
  is_first (d ∷ es) zero e at before here =
      let same : e ≡ d = cc in
      let its : is_for k w d ≡ true = ap (is_for k w) (sym same) ∙ here in
      (ap (λ b. b || has k w es) its, sym (ap (λ b. cond b es (d ∷ without k w es)) its))
  is_first (d ∷ es) (suc i) e at before here = go (is_for k w d) (λ h. is_first es i e at h here) before
    where
      go : (b : Bool) → (has k w (take i es) ≡ false → (has k w es ≡ true) × (remove es i ≡ without k w es)) → (b || has k w (take i es)) ≡ false
          → ((b || has k w es) ≡ true) × (remove (d ∷ es) (suc i) ≡ cond b es (d ∷ without k w es))
      go true f h = absurd (false≢true (sym h))
      go false f h = let further = f h in (further.0, ap (λ xs. d ∷ xs) further.1)

  pub none_at_all : (es : List Entry) (i : ℕ) → length es ≤ i → has k w (take i es) ≡ false → has k w es ≡ false
  none_at_all es i h none = ap (has k w) (sym (take_all i es h)) ∙ none
