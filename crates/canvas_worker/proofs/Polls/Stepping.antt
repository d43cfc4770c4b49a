-- A step in front of what is followed from then on.
use Rattle.std.proofs.Common.{◌≡◌, ℕ, ◌+◌, ◌≤◌, List, [], ◌∷◌, ◌++◌, length, Option, Some, None, refl, sym, ap, ◌∙◌, subst, append_assoc, append-nil, arith}
use Rattle.canvas_task.specs.Apply.{Behaviour}
use Rattle.canvas_history.specs.History.{calls, live_from}
use Rattle.canvas_history.proofs.Histories.{legal_left}
use Rattle.canvas_envelope.specs.declared.envelope.Envelope.{Envelope}
use Rattle.canvas_history.specs.Roster.{Roster}
use Rattle.canvas_history.specs.Queue as queue
use Rattle.canvas_history.specs.Queue.{QueueEntry as Entries, answer_of, next, May, IsLegal, takes_of}
use Rattle.canvas_history.specs.Passes.{Took}
use Rattle.canvas_runs.specs.Core.{Ask, Reply, to_queue, to_table, from_queue, refused, Suits, IsCoreRun, left_after, rest, ack, acked}
use Rattle.canvas_runs.specs.Following.{Pass, Seat, Makes, Serves, Working, Followed}
use Rattle.canvas_runs.specs.Calls.{QueueAnswered, TableAnswered, CoreCall, makes, FollowsScripts, scripts_all, scripts_publish, scripts_list_take, scripts_core_take, scripts_ack, held_by, broker_call, broker_calls, core_call, core_calls, backend_call, backend_calls, takes_one, scripts_again}
use Rattle.canvas_history.specs.Lists.{Each, total}
use Rattle.canvas_runs.specs.Protocol.{Protocol}
use Rattle.canvas_worker.specs.WorkerSteps.{OnlyBare, AnsweredByCall, FromHeld, Batched, Delivered}
use Rattle.canvas_runs.specs.Tally.{Tally, CountsMore, IsTally, Counted, greatest_count, publishing, storing, returning, dropping}
use Rattle.canvas_core.specs.EnvelopeWorker.{enveloped}
use Rattle.canvas_core.specs.CoreState.{Progress, HasFollowed}
use Rattle.canvas_worker.specs.Polls.{IsWanted}
use Rattle.canvas_runs.proofs.Lists.Sums.{total-append}
use Rattle.canvas_runs.proofs.Lists.Words.{each_append}

makes_append : (cs ds : List (QueueAnswered Envelope)) (p q r : Pass) → Makes p cs q → Makes q ds r → Makes p (cs ++ ds) r
makes_append [] ds p q r f g = subst (λ x. Makes x ds r) f g
makes_append (c ∷ cs) ds p q r f g = (f.0, f.1, makes_append cs ds f.0 q r f.2 g)

pub serves_append : (plan : Roster) (cs ds : List TableAnswered) (s t u : Seat) → Serves plan s cs t → Serves plan t ds u → Serves plan s (cs ++ ds) u
serves_append plan [] ds s t u f g = subst (λ x. Serves plan x ds u) f g
serves_append plan (c ∷ cs) ds s t u f g = (f.0, f.1, serves_append plan cs ds f.0 t u f.2 g)

-- takes of a batch, as calls
abbrev pub taking_all : List Envelope → List (QueueAnswered Envelope)
taking_all [] = []
taking_all (e ∷ es) = (queue.take, Some e) ∷ taking_all es

-- takes of one batch are takes one after the other
pub took_makes : (p q : Pass) (es : List Envelope) → Took p es q → Makes p (taking_all es) q
took_makes p q [] t = t
took_makes p q (e ∷ []) t = (q, t, refl)
took_makes p q (e ∷ d ∷ es) t =
    let x = t.4 in
    let call : Entries Envelope = calls p.name queue.take (Some e) in
    let rest : List (Entries Envelope) = takes_of p.name (d ∷ es) in
    let mid : Pass = record { of = p.of; name = p.name; mine = live_from p.mine p.owed; seen = p.seen ++ (x.0 ++ (p.owed ++ call ∷ [])); owed = [] } in
    let shape : q.seen ≡ mid.seen ++ rest =
    x.1 ∙ (ap (λ l. p.seen ++ (x.0 ++ l)) (sym (append_assoc p.owed (call ∷ []) rest))
    ∙ (ap (λ l. p.seen ++ l) (sym (append_assoc x.0 (p.owed ++ call ∷ []) rest)) ∙ sym (append_assoc p.seen (x.0 ++ (p.owed ++ call ∷ [])) rest))) in
    let legal : IsLegal mid.seen = legal_left [] answer_of next May [] mid.seen rest (subst (λ l. IsLegal l) shape x.3) in
    (mid, (refl, refl, refl, refl, (x.0, refl, x.2, legal, x.4)), took_makes mid q (d ∷ es) (t.0, t.1, t.2, t.3, ([], shape, tt, x.3, λ _. refl)))

batch_follows : (h : Option Envelope) (es : List Envelope) (ts : List Envelope) (cs : List (CoreCall Envelope)) (ls : List (QueueAnswered Envelope))
    → FollowsScripts h (ts ++ es) cs ls → FollowsScripts h ts cs (taking_all es ++ ls)
batch_follows h [] ts cs ls f = subst (λ xs. FollowsScripts h xs cs ls) (append-nil ts) f
batch_follows h (e ∷ es) ts cs ls f =
    scripts_list_take (batch_follows h es (ts ++ e ∷ []) cs ls (subst (λ xs. FollowsScripts h xs cs ls) (sym (append_assoc ts (e ∷ []) es)) f))

batch_takes : (es : List Envelope) → total takes_one (taking_all es) ≡ length es
batch_takes [] = refl
batch_takes (e ∷ es) = let k = batch_takes es in omega (arith, k)

longer : (xs ys : List Envelope) → length (xs ++ ys) ≡ length xs + length ys
longer [] ys = omega arith
longer (x ∷ xs) ys = let k = longer xs ys in omega (arith, k)

-- a call more of those that a count is of
more_added : {C : Type 0} (w : C → ℕ) (cs ds : List C) (x y n : ℕ) → CountsMore x (total w (cs ++ [])) y → CountsMore y (total w ds) n
    → CountsMore x (total w (cs ++ ds)) n
more_added w cs ds x y n e f = omega (arith, e, f, total-append w cs [], total-append w cs ds)

module _ (plan : Roster) where
  counted_more : (a : Ask Envelope) (r : Reply Envelope) (run : List (Ask Envelope × Reply Envelope)) (t u v : Tally)
      → Counted plan ((a, r) ∷ []) t u → Counted plan run u v → Counted plan ((a, r) ∷ run) t v
  counted_more a r run t u v c d = record {
    taken = more_added takes_one (broker_call a r) (broker_calls run) t.taken u.taken v.taken c.taken d.taken;
    published = more_added publishing (broker_call a r) (broker_calls run) t.published u.published v.published c.published d.published;
    first = more_added storing (backend_call a r) (backend_calls run) t.first u.first v.first c.first d.first;
    parts = more_added returning (backend_call a r) (backend_calls run) t.parts u.parts v.parts c.parts d.parts;
    dropped = more_added (dropping plan) (broker_call a r) (broker_calls run) t.dropped u.dropped v.dropped c.dropped d.dropped;
  }

  call_follows : (a : Ask Envelope) (r : Reply Envelope) (h g : Option Envelope) (held : List Envelope) (cs : List (CoreCall Envelope))
      (ls : List (QueueAnswered Envelope)) → Suits a r → OnlyBare a r held → g ≡ held_by h a r → FollowsScripts g held cs ls
      → FollowsScripts h held (core_call a r ++ cs) (broker_call a r ++ ls)
  call_follows (to_queue queue.take) (from_queue (Some e)) h g held cs ls suit b q f =
      subst (λ hs. FollowsScripts h hs (makes (queue.take, Some e) ∷ cs) ((queue.take, Some e) ∷ ls)) (sym b)
      (scripts_list_take (scripts_core_take (subst (λ hs. FollowsScripts (Some e) hs cs ls) b (subst (λ k. FollowsScripts k held cs ls) q f))))
  call_follows (to_queue (queue.publish e)) (from_queue None) h g held cs ls suit b q f = scripts_publish (subst (λ k. FollowsScripts k held cs ls) q f)
  call_follows ack acked h g held cs ls suit b q f = scripts_ack (subst (λ k. FollowsScripts k held cs ls) q f)
  call_follows (to_queue queue.take) (from_queue None) h g held cs ls suit b q f = subst (λ k. FollowsScripts k held cs ls) q f
  call_follows (to_queue (queue.publish e)) refused h g held cs ls suit b q f = subst (λ k. FollowsScripts k held cs ls) q f
  call_follows (to_table d) r h g held cs ls suit b q f = subst (λ k. FollowsScripts k held cs ls) q f
  call_follows rest r h g held cs ls suit b q f = subst (λ k. FollowsScripts k held cs ls) q f
  call_follows a r h g held cs ls suit b q f = elim suit [ ]

  none_added : (n : ℕ) → n ≤ greatest_count → CountsMore n 0 n
  none_added n h = omega (arith, h)

-- with nothing done, for any messages of the worker
pub nothing_done : (X : Protocol Envelope) (plan : Roster) (w : Working X.Message X.Carried) → IsTally w.tally → Followed X plan w w
nothing_done X plan w t = record {
  counts = record {
    taken = none_added plan w.tally.taken t.0;
    published = none_added plan w.tally.published t.1;
    first = none_added plan w.tally.first t.2;
    parts = none_added plan w.tally.parts t.3;
    dropped = none_added plan w.tally.dropped t.4;
  };
  run = [];
  is_core = tt;
  leaves = refl;
  made = [];
  follows = scripts_all;
  used = omega arith;
  makes = refl;
  serves = refl;
}

module _ (behaviour : Behaviour) (plan : Roster) where
  pub rests : (w : Progress) → IsTally w.tally → HasFollowed behaviour plan w w
  rests w t = nothing_done (enveloped behaviour plan) plan w t

  pub call_first : (w v x : Progress) (a : Ask Envelope) (r : Reply Envelope) → AnsweredByCall behaviour plan w v a r → HasFollowed behaviour plan v x
      → HasFollowed behaviour plan w x
  call_first w v x a r s f =
      let call : List (QueueAnswered Envelope) = broker_call a r in
      record {
        run = (a, r) ∷ f.run;
        is_core = (s.0.asked, (s.0.suits, s.0.back), subst (λ u. IsCoreRun (enveloped behaviour plan) u f.run) s.0.left f.is_core);
        counts = counted_more plan a r f.run w.tally v.tally x.tally s.0.counts f.counts;
        leaves = subst (λ u. left_after (enveloped behaviour plan) u f.run ≡ x.left) s.0.left f.leaves;
        made = call ++ f.made;
        follows = call_follows plan a r w.current v.current w.held (core_calls f.run) f.made s.0.suits s.2 s.0.current
            (subst (λ hs. FollowsScripts v.current hs (core_calls f.run) f.made) s.1 f.follows);
        used = (let same : length v.held ≡ length w.held = ap length s.1 in
            omega (arith, same, f.used, total-append takes_one call f.made, total-append takes_one call (broker_calls f.run)));
        makes = makes_append call f.made w.pass v.pass x.pass s.3 f.makes;
        serves = serves_append plan (backend_call a r) (backend_calls f.run) w.seat v.seat x.seat s.4 f.serves;
      }

  pub held_first : (w v x : Progress) (e : Envelope) → FromHeld behaviour plan w v e → HasFollowed behaviour plan v x → HasFollowed behaviour plan w x
  held_first w v x e s f = record {
    run = (to_queue queue.take, from_queue (Some e)) ∷ f.run;
    is_core = (s.0.asked, (s.0.suits, s.0.back), subst (λ u. IsCoreRun (enveloped behaviour plan) u f.run) s.0.left f.is_core);
    counts = counted_more plan (to_queue queue.take) (from_queue (Some e)) f.run w.tally v.tally x.tally s.0.counts f.counts;
    leaves = subst (λ u. left_after (enveloped behaviour plan) u f.run ≡ x.left) s.0.left f.leaves;
    made = f.made;
    follows = subst (λ hs. FollowsScripts w.current hs (makes (queue.take, Some e) ∷ core_calls f.run) f.made) (sym s.1)
        (scripts_core_take (subst (λ k. FollowsScripts k v.held (core_calls f.run) f.made) s.0.current f.follows));
    used = (let same : length w.held ≡ length (e ∷ v.held) = ap length s.1 in omega (arith, same, f.used));
    makes = subst (λ p. Makes p f.made x.pass) s.2 f.makes;
    serves = subst (λ p. Serves plan p (backend_calls f.run) x.seat) s.3 f.serves;
  }

  pub batch_first : (w v x : Progress) (es : List Envelope) → Batched w v es → HasFollowed behaviour plan v x → HasFollowed behaviour plan w x
  batch_first w v x es s f = record {
    run = f.run;
    is_core = subst (λ u. IsCoreRun (enveloped behaviour plan) u f.run) s.3 f.is_core;
    counts = subst (λ t. Counted plan f.run t x.tally) s.4 f.counts;
    leaves = subst (λ u. left_after (enveloped behaviour plan) u f.run ≡ x.left) s.3 f.leaves;
    made = taking_all es ++ f.made;
    follows = batch_follows w.current es w.held (core_calls f.run) f.made
        (subst (λ xs. FollowsScripts w.current xs (core_calls f.run) f.made) s.0
        (subst (λ k. FollowsScripts k v.held (core_calls f.run) f.made) s.5 f.follows));
    used = (let same : length v.held ≡ length (w.held ++ es) = ap length s.0 in
        omega (arith, same, longer w.held es, f.used, total-append takes_one (taking_all es) f.made, batch_takes es));
    makes = makes_append (taking_all es) f.made w.pass v.pass x.pass (took_makes w.pass v.pass es s.1) f.makes;
    serves = subst (λ p. Serves plan p (backend_calls f.run) x.seat) s.2 f.serves;
  }

  pub again_first : (w v x : Progress) (e : Envelope) → Delivered w v e → HasFollowed behaviour plan v x → HasFollowed behaviour plan w x
  again_first w v x e s f = record {
    run = f.run;
    is_core = subst (λ u. IsCoreRun (enveloped behaviour plan) u f.run) s.5 f.is_core;
    counts = subst (λ t. Counted plan f.run t x.tally) s.6 f.counts;
    leaves = subst (λ u. left_after (enveloped behaviour plan) u f.run ≡ x.left) s.5 f.leaves;
    made = (queue.redeliver e, None) ∷ f.made;
    follows = subst (λ h. FollowsScripts h w.held (core_calls f.run) ((queue.redeliver e, None) ∷ f.made)) (sym s.0)
        (scripts_again (subst (λ h. FollowsScripts h w.held (core_calls f.run) f.made) (s.2 ∙ s.0)
        (subst (λ hs. FollowsScripts v.current hs (core_calls f.run) f.made) s.3 f.follows)));
    used = (let same : length v.held ≡ length w.held = ap length s.3 in omega (arith, same, f.used));
    makes = makes_append ((queue.redeliver e, None) ∷ []) f.made w.pass v.pass x.pass s.1 f.makes;
    serves = subst (λ p. Serves plan p (backend_calls f.run) x.seat) s.4 f.serves;
  }

  -- what is delivered again was wanted
  module _ (again : ℕ → Type 0) where
    abbrev Wanted : List (QueueAnswered Envelope) → Type 0
    Wanted cs = Each (IsWanted again plan) cs

    asks_wanted : (a : Ask Envelope) (r : Reply Envelope) → Suits a r → Wanted (broker_call a r)
    asks_wanted (to_queue queue.take) (from_queue (Some e)) suit = (tt, tt)
    asks_wanted (to_queue queue.take) (from_queue None) suit = tt
    asks_wanted (to_queue (queue.publish e)) (from_queue None) suit = (tt, tt)
    asks_wanted (to_queue (queue.publish e)) refused suit = tt
    asks_wanted ack acked suit = tt
    asks_wanted (to_table d) r suit = tt
    asks_wanted rest r suit = tt
    asks_wanted a r suit = elim suit [ ]

    takes_wanted : (es : List Envelope) → Wanted (taking_all es)
    takes_wanted [] = tt
    takes_wanted (e ∷ es) = (tt, takes_wanted es)

    pub rests_wanted : (w : Progress) (t : IsTally w.tally) → Wanted (rests w t).made
    unfolding rests nothing_done
    rests_wanted w t = tt

    pub call_wanted : (w v x : Progress) (a : Ask Envelope) (r : Reply Envelope) (s : AnsweredByCall behaviour plan w v a r)
        (f : HasFollowed behaviour plan v x)
        → Wanted f.made → Wanted (call_first w v x a r s f).made
    unfolding call_first
    call_wanted w v x a r s f h = each_append (IsWanted again plan) (broker_call a r) f.made (asks_wanted a r s.0.suits) h

    pub held_wanted : (w v x : Progress) (e : Envelope) (s : FromHeld behaviour plan w v e) (f : HasFollowed behaviour plan v x) → Wanted f.made
        → Wanted (held_first w v x e s f).made
    unfolding held_first
    held_wanted w v x e s f h = h

    pub batch_wanted : (w v x : Progress) (es : List Envelope) (s : Batched w v es) (f : HasFollowed behaviour plan v x) → Wanted f.made
        → Wanted (batch_first w v x es s f).made
    unfolding batch_first
    batch_wanted w v x es s f h = each_append (IsWanted again plan) (taking_all es) f.made (takes_wanted es) h

    pub again_wanted : (w v x : Progress) (e : Envelope) (s : Delivered w v e) (f : HasFollowed behaviour plan v x)
        → IsWanted again plan (queue.redeliver e, None) → Wanted f.made → Wanted (again_first w v x e s f).made
    unfolding again_first
    again_wanted w v x e s f i h = (i, h)
