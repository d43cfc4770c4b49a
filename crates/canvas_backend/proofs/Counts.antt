-- How many members were returned, where none is or one more.
use Rattle.std.proofs.Common.{◌≡◌, ◌≢◌, ◌==◌, ◌+◌, ℕ, zero, suc, List, [], ◌∷◌, slice_index, replicate, refl, Bool, true, false, IsTrue, cond, count_by, arith}
use mathlib.Core.Logic.{dite}
use native.Mathlib.Decide.{ℕ_discrete}
use Rattle.canvas_history.specs.Roster.{Roster, members, times, is_member, IsRoster}
use Rattle.canvas_history.proofs.TableLaws.{counted, stands}

module _ (plan : Roster) (ok : IsRoster plan) (f : ℕ → Bool) (g m : ℕ) (member : IsTrue (is_member plan g m)) (free : f m ≡ false) where
  pub count_here : count_by (λ x. cond (x == m) true (f x)) (members plan g) ≡ count_by f (members plan g) + 1
  count_here =
      let there = stands plan m g member in
      let once = ok.apart g m (omega arith) in
      let one : times plan m g ≡ 1 = once.0 in
      let more = counted plan f m (members plan g) free in
      omega arith

  pub count_elsewhere : (h : ℕ) → h ≢ g → count_by (λ x. cond (x == m) true (f x)) (members plan h) ≡ count_by f (members plan h)
  count_elsewhere h apart =
      let there = stands plan m g member in
      let once = ok.apart g m (omega arith) in
      let none : times plan m h ≡ 0 = dite (ℕ_discrete (times plan m h) 0) (λ z. z) (λ ne. absurd (apart (once.1 h (omega arith)))) in
      let more = counted plan f m (members plan h) free in
      omega arith

pub zero_at : (n i : ℕ) → slice_index (replicate n 0) i ≡ 0
zero_at zero i = refl
zero_at (suc n) zero = refl
zero_at (suc n) (suc i) = zero_at n i

pub none_counted : (xs : List ℕ) → count_by (λ x. false) xs ≡ 0
none_counted [] = refl
none_counted (x ∷ xs) = none_counted xs
