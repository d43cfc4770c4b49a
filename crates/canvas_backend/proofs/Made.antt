-- What a step that made a call tells of its seat.
use Rattle.std.proofs.Common.{◌≡◌, [], ℕ, refl, sym, subst}
use Rattle.canvas_history.specs.History.{calls}
use Rattle.canvas_history.specs.Roster.{Roster}
use Rattle.canvas_history.specs.Table.{TableCall, Log, IsCall}
use Rattle.canvas_history.specs.Seats.{TableId, Seat, Stands}
use Rattle.canvas_backend.specs.steps.Words.{Mine, caller_of, seen_of, single, reply_to, IsOne}

-- the seat, by the numbers of its table and by what it keeps
abbrev pub seat_of : TableId → Mine → Seat
seat_of of me = record { of = of; name = caller_of me; seen = seen_of me }

module _ (plan : Roster) (c : TableCall) (me me' : Mine) (n : ℕ)
    (made : (seen : Log) × (me' ≡ (single (caller_of me) seen, []))
    × IsCall plan (caller_of me) (seen_of me) seen (calls (caller_of me) c (reply_to c n))) where
  pub made_one : IsOne me'
  made_one = subst IsOne (sym made.1) refl

  pub made_stands : (of of' : TableId) (s : Seat) (told : Roster) (call : TableCall) → of' ≡ of → seat_of of me ≡ s → plan ≡ told → c ≡ call
      → Stands told s (calls s.name call (reply_to call n)) (seat_of of' me')
  made_stands of of' s told call same view plan_is call_is =
      subst (λ (z : Seat × Roster × TableCall × Mine × TableId). Stands z.1 z.0 (calls z.0.name z.2 (reply_to z.2 n)) (seat_of z.4 z.3))
      (λ j. (view j, plan_is j, call_is j, sym made.1 j, sym same j)) (refl, refl, refl, refl, made.2)
