-- The names of keyword arguments, as data and as they are read.
use Rattle.std.proofs.Common.{◌≡◌, ◌||◌, ℕ, Bool, List, [], ◌∷◌, ap, refl}
use Rattle.std.specs.Borrow.{Bor}
use Rattle.std.specs.List.{list_any}
use Rattle.canvas_task.specs.Text.{Text}
use Rattle.canvas_sig.specs.Datum.{seen}
use Rattle.canvas_sig.specs.declared.datum.Datum.{Datum}

pub any_seen : (p : Text → Bool) (ms : List (Bor (List ℕ) × Datum)) → list_any (λ m. p m.0.now) ms ≡ list_any (λ e. p e.0) (seen ms)
any_seen p [] = refl
any_seen p (m ∷ ms) = ap (λ b. p m.0.now || b) (any_seen p ms)
