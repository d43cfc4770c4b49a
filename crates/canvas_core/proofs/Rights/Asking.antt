-- What a backend lets a seat do, for a backend of a plan.
use Rattle.std.proofs.Common.{◌≡◌, sym, subst}
use Rattle.canvas_task.specs.Apply.{Behaviour}
use Rattle.canvas_semantics.specs.Line.{Line}
use Rattle.canvas_rewrite.specs.Planned.{IsPlan}
use Rattle.canvas_history.specs.Roster.{Roster, roster_of}
use Rattle.canvas_runs.specs.Book.{book_on}
use Rattle.canvas_runs.specs.Calls.{backend_call}
use Rattle.canvas_runs.specs.Core.{owning, doing, reading, answered, Suits}
use Rattle.canvas_runs.specs.Following.{Seat, Serves}
use Rattle.canvas_core.specs.Asks.{Answer}
use Rattle.canvas_core.specs.EnvelopeWorker.{enveloped}
use Rattle.canvas_core.specs.SeatRights.{Can, LetsAsk}
use Rattle.canvas_core.specs.CoreState.{Left, asked}
use Rattle.canvas_core.proofs.Cores.Sound.{Sound}
use Rattle.canvas_core.proofs.Rights.Seats.{can_ask, can_go_on}

-- what is known of a plan
abbrev IsOf : Roster → Type 0
IsOf plan = (l : Line) × IsPlan l × (plan ≡ roster_of l)

pub may_ask : (plan : Roster) → IsOf plan → (s : Seat) (left : Left) → Can plan s left → LetsAsk plan s (asked left)
may_ask plan h s left = subst (λ p. Can p s left → LetsAsk p s (asked left)) (sym h.2) (can_ask h.0 h.1 s left)

pub may_go_on : (behaviour : Behaviour) (plan : Roster) → IsOf plan → (s t : Seat) (left : Left) (r : Answer) → Can plan s left → Suits (asked left) r
    → Serves plan s (backend_call (asked left) r) t → Can plan t (answered (enveloped behaviour plan) left r)
may_go_on behaviour plan h s t left r =
    subst (λ p. Can p s left → Suits (asked left) r → Serves p s (backend_call (asked left) r) t → Can p t (answered (enveloped behaviour p) left r)) (sym h.2)
    (can_go_on behaviour h.0 h.1 s t left r)

-- what can be done names only what the book of the plan has
pub can_sound : (plan : Roster) (s : Seat) (left : Left) → Can plan s left → Sound (book_on plan) left
can_sound plan s (owning m) h = h
can_sound plan s (doing js b) h = h.0
can_sound plan s (reading g c t fs) h = h
can_sound plan s left h = tt
