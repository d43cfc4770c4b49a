-- A worker that its gate can only hold back.
use Rattle.std.proofs.Common.{◌≡◌, ℕ, Bool, true, Option, Some, subst}
use Rattle.canvas_task.specs.Apply.{Behaviour}
use Rattle.canvas_runs.specs.declared.when.When.{When}
use Rattle.canvas_runs.specs.declared.when.When.TheVariants.{Early}
use Rattle.canvas_worker.specs.GateAnswers.{LetsOn, asks_at, Heeds, waits, delivers, goes_on, HeldBack}
use Rattle.canvas_worker.specs.Polls.{WorkerView}

module _ (go : ℕ → Bool → Type 0) (again : ℕ → Type 0) where
  not_open : (x : Option (ℕ × When)) (k : ℕ) → x ≡ Some (k, Early) → (go k true → ⊥) → LetsOn go again x → ⊥
  not_open x k e shut opens = shut (subst (λ z. LetsOn go again z) e opens)

  pub held_back : (behaviour : Behaviour) (w : WorkerView) (p : Option When) (v : WorkerView) (q : Option When) → Heeds go again behaviour w p v q
      → HeldBack go again behaviour w p v q
  held_back behaviour w p v q (waits s e f) k at shut = (e, f)
  held_back behaviour w p v q (delivers o a d f) k at shut = absurd (not_open (asks_at w.core p) k at shut o)
  held_back behaviour w p v q (goes_on o a f) k at shut = absurd (not_open (asks_at w.core p) k at shut o)
