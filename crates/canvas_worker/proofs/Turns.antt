-- What one turn of a worker leaves.
use Rattle.std.proofs.Common.{◌≡◌, ◌∙◌, ℕ, ◌+◌, ◌≤◌, min, [], ◌∷◌, Option, Some, None, Result, Ok, Err, refl, sym, subst, arith}
use Rattle.std.specs.Prelude.{MatchResult}
use Rattle.std.proofs.lemmas.Bool.{false≢true}
use Rattle.canvas_task.specs.Apply.{Behaviour}
use Rattle.canvas_history.specs.Roster.{Roster}
use Rattle.canvas_runs.specs.Calls.{takes_one}
use Rattle.canvas_runs.specs.Tally.{Tally, IsTally, Counted, CountsMore, publishing, storing, returning, dropping, greatest_count}
use Rattle.canvas_core.specs.Asks.{Asked, Answer}
use Rattle.canvas_core.proofs.Cores.Counts.{of_queue, of_table}
use Rattle.canvas_worker.specs.Polls.{WorkerView, progress, with_alone, Ready, FindsNone, finds_none, acts, does_nothing, Pends, Acted, EndsWith}
use Rattle.canvas_core.specs.declared.cause.Cause.{Cause}
use Rattle.canvas_worker.specs.declared.working.End.{End}

-- ---- counts

pub unchanged : (n m : ℕ) → n ≤ greatest_count → m ≡ n → CountsMore n 0 m
unchanged n m h e = omega (arith, h, e)

pub one_more : (n m : ℕ) → m ≡ min greatest_count (n + 1) → CountsMore n (1 + 0) m
one_more n m e = omega (arith, e)

within : (n k m : ℕ) → CountsMore n k m → m ≤ greatest_count
within n k m e = omega (arith, e)

pub tallied : (plan : Roster) (a : Asked) (r : Answer) (t u : Tally) → Counted plan ((a, r) ∷ []) t u → IsTally u
tallied plan a r t u c = (
  within t.taken (of_queue takes_one a r) u.taken c.taken,
  within t.published (of_queue publishing a r) u.published c.published,
  within t.first (of_table storing a r) u.first c.first,
  within t.parts (of_table returning a r) u.parts c.parts,
  within t.dropped (of_queue (dropping plan) a r) u.dropped c.dropped,
)

-- ---- a worker that ends at once

pub some_none : (c : Cause) → ◌≡◌ {A = Option Cause} (Some c) None → ⊥
some_none c e = cc

pub ends_acting : (behaviour : Behaviour) (w : WorkerView) (c : Cause) → Ready w → EndsWith behaviour w (Some c) w
ends_acting behaviour w c ready r leaves = record {
  ended = progress w;
  counted = ready.counts;
  moved = does_nothing refl;
  is_of = record {
    same_number = leaves.same_number;
    pass = leaves.pass;
    seat = leaves.seat;
    counts = leaves.counts;
    whole = λ none. absurd
        (some_none c (sym leaves.fault_is ∙ none));
  };
}

-- ---- where the batch that was due gave none

ready_alone : (w : WorkerView) → Ready w → Ready (with_alone w)
ready_alone w ready = record {
  of = ready.of;
  home = ready.home;
  plan = ready.plan;
  inside = ready.inside;
  can = ready.can;
  rested = ready.rested;
  current = ready.current;
  task = ready.task;
  again = ready.again;
  counts = ready.counts;
}

pub found_none : (behaviour : Behaviour) (w v : WorkerView) → Ready w → FindsNone w v → Acted behaviour w v
found_none behaviour w v ready found =
    subst (λ z. Acted behaviour w z) (sym found.3)
    (record {
      broker = refl;
      backend = refl;
      number = refl;
      ready = ready_alone w ready;
      alone = λ alone. absurd (false≢true (sym found.2 ∙ alone));
      moved = finds_none (found.0, found.1, found.2, refl);
    })

-- ---- where nothing was delivered again

acts_pending : (behaviour : Behaviour) (w v : WorkerView) → Acted behaviour w v → Pends behaviour w v
acts_pending behaviour w v a = record { broker = a.broker; backend = a.backend; number = a.number; ready = a.ready; alone = a.alone; moved = acts a.moved }

pub acted_well : {A : Type 0} (behaviour : Behaviour) (w v : WorkerView) (result : Result A End)
    → MatchResult result (λ _. Acted behaviour w v) (λ e. EndsWith behaviour w e.fault v)
    → MatchResult result (λ _. Pends behaviour w v) (λ e. EndsWith behaviour w e.fault v)
acted_well behaviour w v (Ok _) a = acts_pending behaviour w v a
acted_well behaviour w v (Err e) a = a
