-- What a poll leaves in front of what is followed from then on.
use Rattle.std.proofs.Common.{◌≡◌, ◌∙◌, ℕ, Bool, true, Option, Some, None, refl, sym, ap, subst}
use Rattle.std.specs.Prelude.{IfSome, IsSomeAnd}
use Rattle.futures.specs.Poll.{IfReady, OnPending}
use Rattle.futures.specs.declared.task.Poll.{Poll}
use Rattle.futures.specs.declared.task.Poll.TheVariants as poll
use Rattle.canvas_task.specs.Apply.{Behaviour}
use Rattle.canvas_history.specs.Seats.{BackendView}
use Rattle.canvas_history.specs.Roster.{Roster}
use Rattle.canvas_history.specs.Queue.{redeliver}
use Rattle.canvas_envelope.specs.declared.envelope.Envelope.{Envelope}
use Rattle.canvas_runs.specs.Book.{book_on}
use Rattle.canvas_runs.specs.Core.{owning, acking, is_inside}
use Rattle.canvas_history.specs.Lists.{Each}
use Rattle.canvas_runs.specs.declared.when.When.{When}
use Rattle.canvas_runs.specs.declared.when.When.TheVariants.{Early, Late}
use Rattle.canvas_core.specs.CorePast.{task_in}
use Rattle.canvas_core.specs.CoreState.{Left, Progress, HasFollowed, held, point_in}
use Rattle.canvas_worker.specs.GateAnswers.{unless_passed, asks_at, Wants, Heeds, waits, delivers, goes_on, LeavesHeeding, stops, fails_again, ends}
use Rattle.canvas_worker.specs.Polls.{WorkerView, progress, Ready, IsWanted, Acts, makes_call, gives_held, GoesOn, answers, finds_none, ActsLast, acts_last, does_nothing, keeps_batch, Pends, IsRecordOf, Ends, TellsOf}
use Rattle.canvas_worker.specs.WorkerSteps.{Delivered}
use Rattle.canvas_core.specs.declared.cause.Cause.TheVariants.{Memory, Stopped}
use Rattle.canvas_worker.specs.declared.record.Record.{Record}
use Rattle.canvas_worker.proofs.Polls.Stepping.{rests, call_first, held_first, batch_first, again_first, rests_wanted, call_wanted, held_wanted, batch_wanted, again_wanted}
use Rattle.canvas_worker.proofs.Turns.{ends_acting}

module _ (behaviour : Behaviour) (again : ℕ → Type 0) (plan : Roster) where
  -- followed, where what is delivered again was wanted
  abbrev Wanting : Progress → Progress → Type 0
  Wanting p x = (f : HasFollowed behaviour plan p x) × Each (IsWanted again plan) f.made

  acted_first : (p q x : Progress) → Acts behaviour plan p q → Wanting q x → Wanting p x
  acted_first p q x (makes_call a r step) f = (
    call_first behaviour plan p q x a r step f.0,
    call_wanted behaviour plan again p q x a r step f.0 f.1,
  )
  acted_first p q x (gives_held es e between taken step) f =
      let held : HasFollowed behaviour plan between x = held_first behaviour plan between q x e step f.0 in (
        batch_first behaviour plan p between x es taken held,
        batch_wanted behaviour plan again p between x es taken held (held_wanted behaviour plan again between q x e step f.0 f.1),
      )

  last_first : (p q x : Progress) → ActsLast behaviour plan p q → Wanting q x → Wanting p x
  last_first p q x (acts_last a) f = acted_first p q x a f
  last_first p q x (does_nothing e) f = subst (λ z. Wanting z x) e f
  last_first p q x (keeps_batch es step) f = (
    batch_first behaviour plan p q x es step f.0,
    batch_wanted behaviour plan again p q x es step f.0 f.1,
  )

-- ---- what the gate wanted

-- where the gate is asked, the open script is that of the task for which it is asked
asked_for : (go : ℕ → Bool → Type 0) (again : ℕ → Type 0) (s : Left) (x : Option ℕ) (p : Option When)
    → Wants go again (unless_passed (point_in s x) p)
    → (k : ℕ) × (x ≡ Some k) × (is_inside s ≡ true) × again k
asked_for go again (owning m) (Some k) None h = (k, refl, refl, h)
asked_for go again (owning m) (Some k) (Some Early) h = elim h [ ]
asked_for go again (owning m) (Some k) (Some Late) h = (k, refl, refl, h)
asked_for go again (owning m) None p h = elim h [ ]
asked_for go again acking (Some k) None h = (k, refl, refl, h)
asked_for go again acking (Some k) (Some Early) h = (k, refl, refl, h)
asked_for go again acking (Some k) (Some Late) h = elim h [ ]
asked_for go again acking None p h = elim h [ ]
asked_for go again s x p h = elim h [ ]

module _ (behaviour : Behaviour) (go : ℕ → Bool → Type 0) (may_want : ℕ → ℕ → Type 0) (w : WorkerView) (p : Option When) (ready : Ready w) where
  abbrev wants : ℕ → Type 0
  wants = may_want w.number

  is_wanted : (e : Envelope) → held w.core ≡ Some e → Wants go wants (asks_at w.core p) → IsWanted wants w.backend.plan (redeliver e, None)
  is_wanted e holds h =
      let at = asked_for go wants w.core.left w.core.task p h in
      (at.0, ap (task_in (book_on w.backend.plan)) (sym holds) ∙ (sym (ready.task at.2) ∙ at.1), at.3)

  went_first : (v : WorkerView) (x : Progress) → GoesOn behaviour w v → Wanting behaviour wants w.backend.plan (progress v) x
      → Wanting behaviour wants w.backend.plan (progress w) x
  went_first v x (answers a) f = acted_first behaviour wants w.backend.plan (progress w) (progress v) x a f
  went_first v x (finds_none found) f = subst (λ z. Wanting behaviour wants w.backend.plan (progress z) x) found.3 f

  heeded : (v : WorkerView) (q : Option When) (x : Progress) → Heeds go wants behaviour w p v q → Wanting behaviour wants w.backend.plan (progress v) x
      → Wanting behaviour wants w.backend.plan (progress w) x
  heeded v q x (waits h same passed) f = subst (λ z. Wanting behaviour wants w.backend.plan (progress z) x) same f
  heeded v q x (delivers lets h d passed) f =
      let step : Delivered (progress w) (progress v) d.0 =
      subst (λ z. Delivered (progress w) (progress z) d.0) (sym d.3) (d.1, (v.pass, d.2, refl), refl, refl, refl, refl, refl) in (
        again_first behaviour w.backend.plan (progress w) (progress v) x d.0 step f.0,
        again_wanted behaviour w.backend.plan wants (progress w) (progress v) x d.0 step f.0 (is_wanted d.0 d.1 h) f.1,
      )
  heeded v q x (goes_on lets acted passed) f = went_first v x acted.moved f

  pub goes_first : (v : WorkerView) (q : Option When) → Pends behaviour w v → Heeds go wants behaviour w p v q → (r : Record) → TellsOf behaviour may_want v r
      → TellsOf behaviour may_want w r
  goes_first v q g h r f =
      let then : Wanting behaviour wants w.backend.plan (progress v) f.ended =
      subst (λ (n : ℕ). Wanting behaviour (may_want n) w.backend.plan (progress v) f.ended) g.number
      (subst (λ (d : BackendView). Wanting behaviour (may_want v.number) d.plan (progress v) f.ended) g.backend (f.worked, f.wanted)) in
      let all : Wanting behaviour wants w.backend.plan (progress w) f.ended = heeded v q f.ended h then in
      record { ended = f.ended; worked = all.0; wanted = all.1; is_of = subst (λ n. IsRecordOf n f.ended r) g.number f.is_of }

  ended_gives : (r : Record) → Ends behaviour w r → TellsOf behaviour may_want w r
  ended_gives r e =
      let all : Wanting behaviour wants w.backend.plan (progress w) e.ended =
      last_first behaviour wants w.backend.plan (progress w) e.ended e.ended e.moved
      (rests behaviour w.backend.plan e.ended e.counted, rests_wanted behaviour w.backend.plan wants e.ended e.counted) in
      record { ended = e.ended; worked = all.0; wanted = all.1; is_of = e.is_of }

  pub ends_give : (r : Record) → LeavesHeeding go wants behaviour w p r → TellsOf behaviour may_want w r
  ends_give r (stops leaves) = ended_gives r (ends_acting behaviour w Stopped ready r leaves)
  ends_give r (fails_again lets h leaves) = ended_gives r (ends_acting behaviour w Memory ready r leaves)
  ends_give r (ends lets e why) = ended_gives r e

-- of a worker that was there
pub ready_one : (o : Option WorkerView) (w : WorkerView) → o ≡ Some w → IsSomeAnd o Ready → Ready w
ready_one o w is h = subst (λ x. IsSomeAnd x Ready) is h

pub of_one : (o : Option WorkerView) (w : WorkerView) (P : WorkerView → Type 0) → o ≡ Some w → P w → IfSome o P
of_one o w P is h = subst (λ x. IfSome x P) (sym is) h

pub pending : {A : Type 0} (p : Poll A) (P : Type 0) → P → OnPending p P
pending (poll.Ready x) P h = tt
pending poll.Pending P h = h

pub not_ready : {A : Type 0} (p : Poll A) (P : A → Type 0) → p ≡ poll.Pending → IfReady p P
not_ready p P e = subst (λ x. IfReady x P) (sym e) tt
