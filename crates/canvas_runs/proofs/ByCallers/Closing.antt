-- What worker 0 reads at the end is what is held then.
use Rattle.std.proofs.Common.{◌≡◌, List, [], ◌∷◌, ◌++◌, Option, refl, sym, ap, ◌∙◌, subst, append-nil}
use Rattle.canvas_task.specs.Apply.{Behaviour}
use Rattle.canvas_task.specs.declared.outcome.Outcome.{Outcome}
use Rattle.canvas_history.specs.History.{Entry, calls, live, Sole}
use Rattle.canvas_history.proofs.Histories.{live_append, state_append, legal_right}
use Rattle.canvas_semantics.specs.Line.{Line}
use Rattle.canvas_history.specs.Table.{TableCall, TableReply, no_results, reply_of, next_of, May, IsLegal, read, found, results}
use Rattle.canvas_history.specs.Roster.{Roster, roster_of}
use Rattle.canvas_runs.specs.Following.{Pass, Seat, Serves}
use Rattle.canvas_runs.specs.Calls.{TableAnswered, backend_calls}
use Rattle.canvas_history.specs.Lists.{Each}
use Rattle.canvas_runs.specs.Run.{IsRead}
use Rattle.canvas_runs.specs.CallerRuns.{Ran, ReadsWhatIsHeld, first_seat}
use Rattle.canvas_runs.proofs.ByCallers.Seats.{ledger}

module _ (plan : Roster) where
  same_read : (x y : Option Outcome) → ◌≡◌ {A = TableReply} (found x) (found y) → x ≡ y
  same_read x y e = cc

  -- if no other caller is live, reads answer what the table holds, and leave it
  reads_alone : (s t : Seat) (cs : List TableAnswered) → s.name ≡ 0 → Sole s.seen 0 → Each IsRead cs → Serves plan s cs t
      → (results plan t.seen ≡ results plan s.seen) × Each (ReadsWhatIsHeld (results plan s.seen)) cs
  reads_alone s t [] n a i m = (ap (λ (x : Seat). results plan x.seen) m, tt)
  reads_alone s t ((read u, found x) ∷ cs) n a i m =
      let e : Entry TableCall TableReply = calls s.name (read u) (found x) in
      let c = m.1.4 in
      let none : c.0 ≡ [] = c.4 (subst (λ k. Sole (s.seen ++ []) k) (sym n) (subst (λ l. Sole l 0) (sym (append-nil s.seen)) a)) in
      let shape : m.0.seen ≡ s.seen ++ e ∷ [] = c.1 ∙ ap (λ b. s.seen ++ (b ++ e ∷ [])) none in
      let right = (legal_right no_results (reply_of plan) next_of (May plan) [] s.seen (e ∷ []) (subst (λ l. IsLegal plan l) shape c.3)).0 in
      let same : results plan m.0.seen ≡ results plan s.seen =
      ap (λ l. results plan l) shape ∙ state_append no_results (reply_of plan) next_of (May plan) no_results s.seen (e ∷ []) in
      let alone : Sole m.0.seen 0 = ap (λ l. live l) shape ∙ (live_append (0 ∷ []) s.seen (e ∷ []) ∙ a) in
      let rest = reads_alone m.0 t cs (m.1.1 ∙ n) alone i.1 m.2 in
      (rest.0 ∙ same, (same_read x ((results plan s.seen).outcomes u) right.1, subst (λ w. Each (ReadsWhatIsHeld w) cs) same rest.1))
  reads_alone s t (c ∷ cs) n a i m = absurd i.0

module _ (behaviour : Behaviour) (l : Line) (pass : Pass) (seat : Seat) (r : Ran behaviour l pass seat) where
  pub closing_held : Each (ReadsWhatIsHeld (results (roster_of l) seat.seen)) r.closing
  closing_held =
      let own = ledger behaviour (roster_of l) (first_seat r.table) r.seat_parted r.seat_joined r.own.seat r.callers
      (backend_calls r.works.run) refl refl r.seat_splits r.seat_joins r.works.serves in
      let both = reads_alone (roster_of l) r.own.seat seat r.closing own.0 own.1.sole r.closes r.ends in
      subst (λ w. Each (ReadsWhatIsHeld w) r.closing) (sym both.0) both.1
