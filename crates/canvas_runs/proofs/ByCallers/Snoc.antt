-- One more at the end.
use Rattle.std.proofs.Common.{◌≡◌, ℕ, suc, ◌+◌, List, [], ◌∷◌, ◌++◌, length, refl, sym, ap, subst, arith}
use Rattle.canvas_history.specs.History.{calls}
use Rattle.canvas_semantics.specs.Evaluation.{State}
use Rattle.canvas_history.specs.Table.{read, found}
use Rattle.canvas_history.specs.Seats as seats
use Rattle.canvas_history.specs.Roster.{Roster}
use Rattle.canvas_runs.specs.Following.{Seat, Serves}
use Rattle.canvas_runs.specs.Calls.{TableAnswered}
use Rattle.canvas_runs.specs.CallerRows.{reads_from}

-- one more read
pub serves_more : (plan : Roster) (s t u : Seat) (cs : List TableAnswered) (c : TableAnswered) → Serves plan s cs t
    → seats.Stands plan t (calls t.name c.0 c.1) u → Serves plan s (cs ++ c ∷ []) u
serves_more plan s t u [] c f g = (u, subst (λ (x : Seat). seats.Stands plan x (calls x.name c.0 c.1) u) f g, refl)
serves_more plan s t u (d ∷ cs) c f g = (f.0, f.1, serves_more plan f.0 t u cs c f.2 g)

reads_more : (k n : ℕ) (rows : List State) (x : State) → n ≡ k + length rows → reads_from k (rows ++ x ∷ []) ≡ reads_from k rows ++ (read n, found x) ∷ []
reads_more k n [] x e = let same : n ≡ k = omega (arith, e) in ap (λ i. (read i, found x) ∷ []) (sym same)
reads_more k n (r ∷ rows) x e = ap (λ l. (read k, found r) ∷ l) (reads_more (suc k) n rows x (omega (arith, e)))

pub read_more : (plan : Roster) (s t u : Seat) (rows : List State) (x : State) (n : ℕ) → Serves plan s (reads_from 1 rows) t → n ≡ 1 + length rows
    → seats.Stands plan t (calls t.name (read n) (found x)) u
    → Serves plan s (reads_from 1 (rows ++ x ∷ [])) u
read_more plan s t u rows x n f e g =
    subst (λ cs. Serves plan s cs u) (sym (reads_more 1 n rows x e)) (serves_more plan s t u (reads_from 1 rows) (read n, found x) f g)
