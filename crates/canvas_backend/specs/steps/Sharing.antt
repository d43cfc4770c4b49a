-- The rule that each step on a shared object keeps: there is one legal history, and what the
-- callers share is what it leaves. A view has a hat for its caller. In the middle of a split or a
-- join a view has two hats, and a spent one has none.
use Rattle.std.specs.Prelude.{◌≡◌, ◌≤◌, ℕ, length, true, List, ◌++◌}
use mathlib.Core.Option.{some}
use lib.ListN.{get_elem?}
use Rattle.canvas_history.specs.Callers.{Hat}
use Rattle.canvas_history.specs.History.{Entry, among, live, split_off, AllOthers, Legal, replay}

module _ {C R : Type 0} where
  -- this caller has seen a beginning of the history, and the rest has no entry of it. `at` says
  -- which view has its hat, and at which index
  pub record Agrees (log : List (Entry C R)) (at : ℕ → ℕ × ℕ) (seat place : ℕ) (h : Hat C R) :
      Type 0 where
    pub rest : List (Entry C R)
    pub is : log ≡ h.1 ++ rest
    pub others : AllOthers h.0 rest
    pub alive : among h.0 (live log) ≡ true
    pub was_alive : among h.0 (live h.1) ≡ true
    pub here : at h.0 ≡ (seat, place)

  abbrev pub AllAgree : List (Entry C R) → (ℕ → ℕ × ℕ) → List (List (Hat C R)) → Type 0
  AllAgree log at views =
      (seat : ℕ) (hats : List (Hat C R)) (place : ℕ) (h : Hat C R)
      → get_elem? views seat ≡ some hats
      → get_elem? hats place ≡ some h → Agrees log at seat place h

module _ {C R S : Type 0} (first : S) (answer : S → C → R) (next : S → C → S)
    (May : List (Entry C R) → S → ℕ → C → Type 0) where
  pub record IsKept (shows : S → Type 0) (views : List (List (Hat C R))) : Type 0 where
    pub log : List (Entry C R)
    pub at : ℕ → ℕ × ℕ
    pub legal : Legal first answer next May log
    pub shown : shows (replay first answer next May log)
    -- callers are numbered by their splits
    pub numbered : (q : ℕ) → among q (split_off log) ≡ true → q ≤ length (split_off log)
    pub fits : AllAgree log at views
