-- One poll of a worker, and the effect of its gate.
use Rattle.std.specs.Prelude.{ℕ, Bool, Option, IfSome}
use Rattle.futures.specs.Poll.{IfReady, OnPending}
use Rattle.futures.specs.declared.task.Poll.{Poll}
use Rattle.canvas_task.specs.Apply.{Behaviour}
use Rattle.canvas_runs.specs.declared.when.When.{When}
use Rattle.canvas_worker.specs.GateAnswers.{Heeds, HeldBack, LeavesHeeding}
use Rattle.canvas_worker.specs.Polls.{WorkerView, Pends, Ends}
use Rattle.canvas_worker.specs.declared.record.Record.{Record}

-- A poll of a worker, which was in state w and had last passed point p, gave this answer. If it is
-- pending, `now` and q are its state and point afterwards. `may_answer` says what the gate may
-- answer to each worker for each task, and `may_want` whether it may want the redelivery of that
-- task's envelope.
pub record Polled (behaviour : Behaviour) (may_answer : ℕ → ℕ → Bool → Type 0)
    (may_want : ℕ → ℕ → Type 0) (w : WorkerView) (p : Option When) (answer : Poll Record)
    (now : Option WorkerView) (q : Option When) : Type 0 where
  -- A pending poll answers one ask of the core, or redelivers the envelope of the open script. Or
  -- it does nothing: the gate holds the worker back, or the batch that was due was empty; then the
  -- next take is of one envelope.
  pub once : OnPending answer (IfSome now (λ v. Pends behaviour w v))
  -- the last one answers one ask at most, and its record is that of the end
  pub last : IfReady answer (λ r. Ends behaviour w r)
  -- the gate has said which of these it does
  pub heeds : OnPending answer
      (IfSome now (λ v. Heeds (may_answer w.number) (may_want w.number) behaviour w p v q))
  -- if the gate can only hold the worker back, nothing is done
  pub held_back : OnPending answer
      (IfSome now (λ v. HeldBack (may_answer w.number) (may_want w.number) behaviour w p v q))
  -- and a worker that the gate holds back ends only because it is stopped
  pub ends_heeding : IfReady answer
      (λ r. LeavesHeeding (may_answer w.number) (may_want w.number) behaviour w p r)
