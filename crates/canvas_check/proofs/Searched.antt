-- What is looked for among places, one by one.
use Rattle.std.proofs.Common.{◌≡◌, ◌≢◌, ◌∙◌, ◌-◌, ◌==◌, ℕ, Bool, true, false, List, ◌∷◌, map, find, Option, Some, refl, sym, ap, arith}
use Rattle.std.proofs.lemmas.Bool.Decides.{nat_tests}
use Rattle.std.specs.Option.{option_map}
use Rattle.serde_json.specs.Data.{Data}
use Rattle.canvas_check.specs.Places.{shown}
use Rattle.canvas_check.specs.FileOrder.{Sighted, signatures}
use Rattle.canvas_check.specs.Limits.{is_task, is_counted_group, is_too_deep, too_deep, past}
use Rattle.canvas_check.specs.declared.listing.Place.{Place}

module _ (test : Sighted → Bool) (all : Option Sighted) (ps rest : List Place) (p : Place) where
  pub found_here : all ≡ find test (map shown ps) → ps ≡ p ∷ rest → test (shown p) ≡ true → Some (shown p) ≡ all
  found_here kept is so =
      let here : find test (shown p ∷ map shown rest) ≡ Some (shown p) = rw so refl in
      sym (kept ∙ ap (λ w. find test (map shown w)) is ∙ here)

  pub found_later : all ≡ find test (map shown ps) → ps ≡ p ∷ rest → test (shown p) ≡ false → all ≡ find test (map shown rest)
  found_later kept is not_so =
      let later : find test (shown p ∷ map shown rest) ≡ find test (map shown rest) = rw not_so refl in
      kept ∙ ap (λ w. find test (map shown w)) is ∙ later

-- one more task, or group, than there may be, and one that may be
module _ (s : Sighted) (ss : List Sighted) (t g : ℕ) where
  pub past_task : is_task s ≡ true → t ≡ 0 → past t g (s ∷ ss) ≡ Some s
  past_task so none = let e : (t == 0) ≡ true = grind (arith, nat_tests, none) in rw (so, e) refl

  pub within_task : is_task s ≡ true → t ≢ 0 → past t g (s ∷ ss) ≡ past (t - 1) g ss
  within_task so some = let e : (t == 0) ≡ false = grind (arith, nat_tests, some) in rw (so, e) refl

  pub past_group : is_task s ≡ false → is_counted_group s ≡ true → g ≡ 0 → past t g (s ∷ ss) ≡ Some s
  past_group other so none = let e : (g == 0) ≡ true = grind (arith, nat_tests, none) in rw (other, so, e) refl

  pub within_group : is_task s ≡ false → is_counted_group s ≡ true → g ≢ 0 → past t g (s ∷ ss) ≡ past t (g - 1) ss
  within_group other so some = let e : (g == 0) ≡ false = grind (arith, nat_tests, some) in rw (other, so, e) refl

  pub counts_not : is_task s ≡ false → is_counted_group s ≡ false → past t g (s ∷ ss) ≡ past t g ss
  counts_not other neither = rw (other, neither) refl

module _ (all : Option Sighted) (ps : List Place) (t g : ℕ) (kept : all ≡ past t g (map shown ps)) where
  pub past_first : (rest : List Place) (p : Place) (found : Option Sighted) → ps ≡ p ∷ rest → past t g (shown p ∷ map shown rest) ≡ found → all ≡ found
  past_first rest p found is first = kept ∙ ap (λ w. past t g (map shown w)) is ∙ first

pub deepest : (d : Data) (r : Option Place) (found : Option Sighted) (ps : List Place) → option_map shown r ≡ find is_too_deep (map shown ps)
    → map shown ps ≡ signatures d → option_map shown r ≡ found → too_deep d found ≡ too_deep d (find is_too_deep (signatures d))
deepest d r found ps said listed is = ap (too_deep d) (sym is ∙ said ∙ ap (find is_too_deep) listed)
