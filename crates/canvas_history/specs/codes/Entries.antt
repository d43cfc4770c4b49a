-- The codes of entries and callers, for the ghost fields that hold them.
use Rattle.std.specs.Prelude.{◌≡◌, ℕ, List, ◌⊎◌}
use Rattle.std.specs.Coded.{Coded, code_by, coded×, coded⊎, coded_ℕ, coded_list}
use mathlib.Core.Logic.{inl, inr}
use mathlib.Core.Path.{refl}
use Rattle.canvas_history.specs.Callers.{Caller}
use Rattle.canvas_history.specs.History.{Entry, split, join, calls}

-- an entry is stored as one of its three kinds
abbrev Kinds : Type 0 → Type 0 → Type 0
Kinds C R = (ℕ × ℕ) ⊎ ((ℕ × ℕ) ⊎ (ℕ × (C × R)))

module _ {C R : Type 0} where
  abbrev kind_of : Entry C R → Kinds C R
  kind_of (split p q) = inl (p, q)
  kind_of (join p q) = inr (inl (p, q))
  kind_of (calls p c r) = inr (inr (p, (c, r)))

  abbrev of_kind : Kinds C R → Entry C R
  of_kind (inl x) = split x.0 x.1
  of_kind (inr (inl x)) = join x.0 x.1
  of_kind (inr (inr x)) = calls x.0 x.1.0 x.1.1

  pub of_kind_of : (e : Entry C R) → of_kind (kind_of e) ≡ e
  of_kind_of (split p q) = refl
  of_kind_of (join p q) = refl
  of_kind_of (calls p c r) = refl

  abbrev pub entry_coded : Coded C → Coded R → Coded (Entry C R)
  entry_coded c r =
      code_by (Kinds C R) (coded⊎ (coded× coded_ℕ coded_ℕ)
      (coded⊎ (coded× coded_ℕ coded_ℕ) (coded× coded_ℕ (coded× c r)))) kind_of of_kind of_kind_of

abbrev pub caller_coded : {I C R : Type 0} → Coded I → Coded (Entry C R) → Coded (Caller I C R)
caller_coded {I} {C} {R} i e =
    code_by (I × (ℕ × (List ℕ × (List (Entry C R) × List (Entry C R)))))
    (coded× i (coded× coded_ℕ (coded× (coded_list coded_ℕ) (coded× (coded_list e) (coded_list e)))))
    (λ (c : Caller I C R). (c.of, (c.name, (c.mine, (c.seen, c.owed)))))
    (λ x. record { of = x.0; name = x.1.0; mine = x.1.1.0; seen = x.1.1.1.0; owed = x.1.1.1.1 })
    (λ _. refl)
