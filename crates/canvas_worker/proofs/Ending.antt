-- Why a worker ends.
use Rattle.std.proofs.Common.{◌≡◌, Option, Result, sym, subst}
use Rattle.std.specs.Prelude.{IfErr}
use Rattle.canvas_worker.specs.Polls.{WorkerView, EndsFor, Leaves}
use Rattle.canvas_core.specs.declared.ask.Ask.{Ask}
use Rattle.canvas_core.specs.declared.cause.Cause.{Cause}
use Rattle.canvas_worker.specs.declared.record.Record.{Record}
use Rattle.canvas_worker.specs.declared.working.End.{End}

pub ends_at : {A : Type 0} (a b : Ask) (result : Result A End) → a ≡ b → IfErr result (λ e. EndsFor b e.fault) → IfErr result (λ e. EndsFor a e.fault)
ends_at a b result is h = subst (λ x. IfErr result (λ e. EndsFor x e.fault)) (sym is) h

pub left_for : (a : Ask) (fault : Option Cause) (v : WorkerView) (r : Record) → Leaves v fault r → EndsFor a fault → EndsFor a r.fault
left_for a fault v r leaves h = subst (λ f. EndsFor a f) (sym leaves.fault_is) h
