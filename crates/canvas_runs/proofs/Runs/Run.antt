-- A run over the calls of the broker and of the backend, as the proof has it.
use Rattle.std.specs.Prelude.{ℕ, ◌≤◌, eqb, cond, ◌≡◌, List, [], ◌++◌, map}
use Rattle.canvas_history.specs.Lists.{Each, by, seconds}
use Rattle.canvas_runs.specs.Run.{IsRead, published_all}
use Rattle.canvas_runs.specs.Protocol.{Protocol}
use Rattle.canvas_runs.specs.Core.{IsCoreRun, taking}
use Rattle.canvas_runs.specs.Calls.{QueueAnswered, TableAnswered, AskedAndAnswered, broker_calls, backend_calls}
use Rattle.canvas_runs.proofs.Objects.Accords.{FollowsCore}
use Rattle.canvas_runs.proofs.Runs.Meaning.{Form}
use Rattle.canvas_runs.proofs.Objects.Replay.{IsQueue, IsTable}

pub record Run {E : Type 0} (X : Protocol E) (F : Form X) : Type 0 where
  pub workers : ℕ
  pub broker : List (ℕ × QueueAnswered E)
  pub backend : List (ℕ × TableAnswered)
  pub core : ℕ → List (AskedAndAnswered E)
  -- what worker 0 publishes before all else and what is left of the first messages, and what it reads at the end
  pub opening : List X.Message
  pub unsent : List X.Message
  pub closing : List TableAnswered
  pub opens : F.first ≡ opening ++ unsent
  pub opens_back : Each X.Back opening
  pub closes : Each IsRead closing
  pub broker_callers : Each (λ e. e.0 ≤ workers) broker
  pub backend_callers : Each (λ e. e.0 ≤ workers) backend
  pub queue : IsQueue [] [] (seconds broker)
  pub table : IsTable [] [] (seconds backend)
  pub is_core : (p : ℕ) → IsCoreRun X taking (core p)
  pub follows : (p : ℕ) → FollowsCore [] (cond (eqb p 0) (published_all (map X.sealed opening)) [] ++ broker_calls (core p)) (by p broker)
  pub keeps : (p : ℕ) → by p backend ≡ backend_calls (core p) ++ cond (eqb p 0) closing []
