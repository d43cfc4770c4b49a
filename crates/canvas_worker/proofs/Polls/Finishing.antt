-- What a new worker's record says in words of the worker that the law of runs speaks of.
use Rattle.std.proofs.Common.{◌≡◌, ◌∙◌, ℕ, List, [], refl, sym, subst, arith}
use Rattle.std.proofs.lemmas.Bool.{false≢true}
use Rattle.canvas_task.specs.Apply.{Behaviour}
use Rattle.canvas_history.specs.Passes.{QueueId, Empties}
use Rattle.canvas_semantics.specs.Line.{Line}
use Rattle.canvas_rewrite.specs.FrozenView.{PCarried}
use Rattle.canvas_rewrite.specs.Planned.{IsPlan}
use Rattle.canvas_history.specs.Seats.{BackendView}
use Rattle.canvas_envelope.specs.Content.{Content}
use Rattle.canvas_history.specs.Roster.{Roster, roster_of}
use Rattle.canvas_runs.specs.Core.{CoreState, taking, resting, over, left_after}
use Rattle.canvas_runs.specs.Following.{Pass, Seat, Working, Followed, starting, IsOver}
use Rattle.canvas_history.specs.Lists.{Each}
use Rattle.canvas_runs.specs.Worker.{worker, worker_of}
use Rattle.canvas_core.specs.Asks.{Asked, Answer}
use Rattle.canvas_core.specs.Cores.{IsAlike, GoTogether}
use Rattle.canvas_core.specs.EnvelopeWorker.{enveloped}
use Rattle.canvas_worker.specs.Finished.{Finished, WorkersStart}
use Rattle.canvas_core.specs.CoreState.{Left, Progress, HasFollowed}
use Rattle.canvas_worker.specs.Polls.{IsWanted, TellsOf, working_begun}
use Rattle.canvas_worker.specs.declared.record.Record.{Record}
use Rattle.canvas_core.proofs.Cores.CoreLaw.{cores_are_workers}

-- over together
over_alike : (behaviour : Behaviour) (t : CoreState Content PCarried) → IsAlike behaviour over t → t ≡ over
over_alike behaviour over a = refl
over_alike behaviour t a = absurd a

module _ (behaviour : Behaviour) (l : Line) where
  -- the same point of the same worker
  abbrev carried : Progress → List (Asked × Answer) → Working Content PCarried
  carried p xs = record {
    pass = p.pass;
    seat = p.seat;
    left = left_after
        (worker_of behaviour (roster_of l)) taking xs;
    current = p.current;
    held = p.held;
    tally = p.tally;
  }

  followed : (pass : Pass) (seat : Seat) (p : Progress) (w : HasFollowed behaviour (roster_of l) (starting pass seat) p)
      → Followed (worker_of behaviour (roster_of l)) (roster_of l) (starting pass seat) (carried p w.run)
  followed pass seat p w = record {
    run = w.run;
    is_core = (cores_are_workers behaviour l w.run w.is_core).0;
    counts = w.counts;
    leaves = refl;
    made = w.made;
    follows = w.follows;
    used = w.used;
    makes = w.makes;
    serves = w.serves;
  }

  closed : (pass : Pass) (seat : Seat) (p : Progress) (w : HasFollowed behaviour (roster_of l) (starting pass seat) p)
      → (p.left ≡ over) × (p.held ≡ []) × Empties p.pass → IsOver (carried p w.run)
  closed pass seat p w whole =
      let together : GoTogether behaviour l (left_after (enveloped behaviour (roster_of l)) taking w.run) (left_after (worker behaviour l) taking w.run) =
      (cores_are_workers behaviour l w.run w.is_core).1 in (
        over_alike behaviour (left_after (worker behaviour l) taking w.run)
            (subst (λ s. IsAlike behaviour s (left_after (worker behaviour l) taking w.run)) (w.leaves ∙ whole.0) together.alike),
        whole.1,
      )

pub workers_start : WorkersStart
workers_start l plan broker backend number pass seat is of home = record {
  of = of;
  home = home;
  plan = (l, plan, is);
  inside = refl;
  can = tt;
  rested = λ rests. absurd (never rests);
  current = λ inside. absurd (false≢true inside);
  task = λ inside. absurd (false≢true inside);
  again = tt;
  counts = (omega arith, omega arith, omega arith, omega arith, omega arith);
}
  where
    never : ◌≡◌ {A = Left} taking resting → ⊥
    never e = cc

pub workers_finish : (behaviour : Behaviour) (may_want : ℕ → ℕ → Type 0) (l : Line) → IsPlan l → (broker : QueueId) (backend : BackendView) (number : ℕ)
    (pass : Pass) (seat : Seat) → backend.plan ≡ roster_of l → (r : Record) → TellsOf behaviour may_want (working_begun broker backend number pass seat) r
    → Finished behaviour may_want (roster_of l) number pass seat r
unfolding followed
workers_finish behaviour may_want l plan broker backend number pass seat is r f =
    let both : (w : HasFollowed behaviour (roster_of l) (starting pass seat) f.ended) × Each (IsWanted (may_want number) (roster_of l)) w.made =
    subst (λ (p : Roster). (w : HasFollowed behaviour p (starting pass seat) f.ended) × Each (IsWanted (may_want number) p) w.made) is (f.worked, f.wanted) in
    let worked : HasFollowed behaviour (roster_of l) (starting pass seat) f.ended = both.0 in
    record {
      same_number = f.is_of.same_number;
      ended = carried behaviour l f.ended worked.run;
      followed = followed behaviour l pass seat f.ended worked;
      wanted = both.1;
      pass_is = f.is_of.pass;
      seat_is = f.is_of.seat;
      counts = f.is_of.counts;
      done = λ none. closed behaviour l pass seat f.ended worked (f.is_of.whole none);
      empty = λ none. subst (λ p. Empties p) (sym f.is_of.pass) (f.is_of.whole none).2;
    }
