-- Rows that are read one task after the other.
use Rattle.std.proofs.Common.{◌≡◌, ◌∙◌, ℕ, ◌+◌, ◌<◌, List, length, take, sym, ap, subst, add-one, arith}
use Rattle.std.proofs.Math.ListN.{set}
use Rattle.std.proofs.Math.Seq.{take-suc-set}
use Rattle.canvas_history.specs.History.{calls}
use Rattle.canvas_semantics.specs.Evaluation.{State}
use Rattle.canvas_history.specs.Table.{read, found}
use Rattle.canvas_history.specs.Seats.{Stands}
use Rattle.canvas_history.specs.Roster.{Roster}
use Rattle.canvas_runs.specs.Following.{Seat, Serves}
use Rattle.canvas_runs.specs.CallerRows.{reads_from}
use Rattle.canvas_runs.proofs.ByCallers.Snoc.{read_more}

pub row_read : (plan : Roster) (s t u : Seat) (rows : List State) (i n : ℕ) (x : State) → i < length rows → n ≡ i + 1 → length (take i rows) ≡ i
    → Serves plan s (reads_from 1 (take i rows)) t
    → Stands plan t (calls t.name (read n) (found x)) u → Serves plan s (reads_from 1 (take (i + 1) (set rows i x))) u
row_read plan s t u rows i n x h e long so_far stands =
    subst (λ r. Serves plan s (reads_from 1 r) u) (sym (ap (λ m. take m (set rows i x)) (add-one i) ∙ take-suc-set rows i x h))
    (read_more plan s t u (take i rows) x n so_far (omega (arith, e, long)) stands)
