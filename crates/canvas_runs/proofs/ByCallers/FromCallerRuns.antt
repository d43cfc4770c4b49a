-- From what each caller saw: there was a run, closed where all ended well.
use Rattle.std.proofs.Common.{None, ◌≡◌, ℕ, suc, ◌+◌, true, false, cond, eqb, List, [], ◌∷◌, ◌++◌, length, map, ◌==◌, ◌⊎◌, inl, inr, refl, sym, ap, ◌∙◌, subst, append-nil, ⊎_elim, arith}
use Rattle.std.proofs.lemmas.Bool.{eqb-true, cases_Bool}
use Rattle.canvas_task.specs.Apply.{Behaviour}
use Rattle.canvas_history.specs.History.{among, made_by, Sole}
use Rattle.canvas_history.proofs.Histories.{fresh_from}
use Rattle.canvas_semantics.specs.Line.{Line}
use Rattle.canvas_envelope.specs.Content.{Content}
use Rattle.canvas_effects.specs.Effects.{first_messages}
use Rattle.canvas_history.specs.Lists.{In, by, total}
use Rattle.canvas_envelope.specs.declared.envelope.Envelope.{Envelope}
use Rattle.canvas_history.specs.Table.{Log, no_results, reply_of, next_of, May}
use Rattle.canvas_history.specs.Roster.{Roster, roster_of}
use Rattle.canvas_history.specs.Queue as queue
use Rattle.canvas_history.specs.Answers.{answered_calls, entries_by, splits_of, joins_of}
use Rattle.canvas_runs.specs.Core.{IsCoreRun, taking, left_after, Between}
use Rattle.canvas_runs.specs.Following.{Pass, Seat, Serves, IsDone}
use Rattle.canvas_runs.specs.Calls.{QueueAnswered, TableAnswered, CoreCall, makes, FollowsScripts, scripts_all, scripts_publish, AskedAndAnswered, broker_calls, core_calls, backend_calls, takes_one}
use Rattle.canvas_runs.specs.Logs.{queue_calls}
use Rattle.canvas_runs.specs.Run.{Run, Closed, published_all}
use Rattle.canvas_runs.specs.Worker.{worker_of, sealed}
use Rattle.canvas_runs.proofs.Objects.CallsOf.{calls_append, calls_splits, calls_joins, own_calls, own_both, queue_own, published_takes}
use Rattle.canvas_runs.proofs.Lists.Sums.{total-append}
use Rattle.canvas_runs.proofs.Lists.Words.{in_each, cond_cases}
use Rattle.canvas_runs.specs.PerCaller.{HasQueueCalls, HasTableCalls, QueuePerCaller, TablePerCaller}
use Rattle.canvas_runs.specs.CallerRuns.{CallerRun, Ran, EndedWell, numbers_along as numbers, first_pass, first_seat}
use Rattle.canvas_runs.proofs.ByCallers.Passes.{accounts}
use Rattle.canvas_runs.proofs.ByCallers.Seats.{ledger}

serves_append : (plan : Roster) (cs ds : List TableAnswered) (s t u : Seat) → Serves plan s cs t → Serves plan t ds u → Serves plan s (cs ++ ds) u
serves_append plan [] ds s t u f g = subst (λ x. Serves plan x ds u) f g
serves_append plan (c ∷ cs) ds s t u f g = (f.0, f.1, serves_append plan cs ds f.0 t u f.2 g)

follows_front : (es : List Envelope) (cs : List (CoreCall Envelope)) (ls : List (QueueAnswered Envelope)) → FollowsScripts None [] cs ls
    → FollowsScripts None [] (map makes (published_all es) ++ cs) (published_all es ++ ls)
follows_front [] cs ls f = f
follows_front (e ∷ es) cs ls f = scripts_publish (follows_front es cs ls f)

module _ (behaviour : Behaviour) (l : Line) where
  abbrev pub P : Roster
  P = roster_of l

  abbrev pub F : List Content
  F = first_messages l

  abbrev pub ProgramOrder : Type 0
  ProgramOrder = List (AskedAndAnswered Envelope)

  -- the core run of the worker of a number, of those from k on
  abbrev pub core_at : ℕ → List (CallerRun behaviour P) → ℕ → ProgramOrder
  core_at k [] p = []
  core_at k (m ∷ ms) p = cond (eqb k p) m.followed.run (core_at (suc k) ms p)

  -- the number is a worker's
  pub record Found (p : ℕ) (ms : List (CallerRun behaviour P)) (core : ProgramOrder) (queue : List (queue.QueueEntry Envelope)) (table : Log) : Type 0 where
    caller_run : CallerRun behaviour P
    there : In caller_run ms
    is : core ≡ caller_run.followed.run
    calls : made_by p queue ≡ entries_by p caller_run.followed.made
    replies : made_by p table ≡ entries_by p (backend_calls caller_run.followed.run)

  more_found : (p : ℕ) (m : CallerRun behaviour P) (ms : List (CallerRun behaviour P)) (core : ProgramOrder) (queue : List (queue.QueueEntry Envelope))
      (table : Log)
      → Found p ms core queue table → Found p (m ∷ ms) core queue table
  more_found p m ms core queue table f = record { caller_run = f.caller_run; there = inr f.there; is = f.is; calls = f.calls; replies = f.replies }

  which : (k : ℕ) (ms : List (CallerRun behaviour P)) (queue : List (queue.QueueEntry Envelope)) (table : Log) → HasQueueCalls behaviour P k ms queue
      → HasTableCalls behaviour P k ms table → (p : ℕ)
      → Found p ms (core_at k ms p) queue table ⊎ ((core_at k ms p ≡ []) × (among p (numbers k ms) ≡ false))
  which k [] queue table h r p = inr (refl, refl)
  which k (m ∷ ms) queue table h r p =
      ⊎_elim (λ (e : (k == p) ≡ true).
      let same : k ≡ p = eqb-true k p e in
      inl (record {
        caller_run = m;
        there = inl refl;
        is = ap (λ b. cond b m.followed.run (core_at (suc k) ms p)) e;
        calls = subst (λ n. made_by n queue ≡ entries_by n m.followed.made) same h.0;
        replies = subst (λ n. made_by n table ≡ entries_by n (backend_calls m.followed.run)) same r.0;
      }))
      (λ (e : (k == p) ≡ false).
      let skip : core_at k (m ∷ ms) p ≡ core_at (suc k) ms p = ap (λ b. cond b m.followed.run (core_at (suc k) ms p)) e in
      ⊎_elim (λ f. inl (more_found p m ms (core_at k (m ∷ ms) p) queue table (subst (λ c. Found p ms c queue table) (sym skip) f)))
      (λ (f : (core_at (suc k) ms p ≡ []) × (among p (numbers (suc k) ms) ≡ false)). inr (skip ∙ f.0, rw e f.1)) (which (suc k) ms queue table h.1 r.1 p))
      (cases_Bool (k == p))

  module _ (pass : Pass) (seat : Seat) (r : Ran behaviour l pass seat) where
    abbrev pub the_queue : List (queue.QueueEntry Envelope)
    the_queue = pass.seen ++ pass.owed

    abbrev pub sent : List (QueueAnswered Envelope)
    sent = published_all (map sealed r.opening)

    pub passes : (pass.name ≡ 0) × QueuePerCaller behaviour P r.callers sent r.works.made the_queue
    passes =
        subst (λ (x : Pass). (x.name ≡ 0) × QueuePerCaller behaviour P r.callers sent r.works.made (x.seen ++ x.owed)) (sym r.last)
        (accounts behaviour P (first_pass r.queue) r.pass_parted r.pass_sent r.pass_joined r.own.pass r.callers sent r.works.made refl refl refl refl r.splits r.sends r.joins r.works.makes)

    abbrev pub zero_calls : List TableAnswered
    zero_calls = backend_calls r.works.run ++ r.closing

    pub seats : TablePerCaller behaviour P r.callers zero_calls seat.seen
    seats =
        (ledger behaviour P (first_seat r.table) r.seat_parted r.seat_joined seat r.callers zero_calls refl refl r.seat_splits r.seat_joins
        (serves_append (roster_of l) (backend_calls r.works.run) r.closing r.seat_joined r.own.seat seat r.works.serves r.ends)).1

    abbrev pub core : ℕ → ProgramOrder
    core p = cond (eqb p 0) r.works.run (core_at 1 r.callers p)

    -- each caller is worker 0, another worker, or nobody
    pub record Nobody (p : ℕ) : Type 0 where
      is : core_at 1 r.callers p ≡ []
      calls : made_by p the_queue ≡ []
      replies : made_by p seat.seen ≡ []

    who : (p : ℕ) → (p == 0) ≡ false → Found p r.callers (core_at 1 r.callers p) the_queue seat.seen ⊎ Nobody p
    who p z =
        ⊎_elim (λ f. inl f) (λ (f : (core_at 1 r.callers p ≡ []) × (among p (numbers 1 r.callers) ≡ false)). inr (record {
          is = f.0;
          calls = fresh_from [] queue.answer_of queue.next queue.May p [] the_queue passes.1.legal z (ap (λ ns. among p ns) passes.1.names ∙ f.1);
          replies = fresh_from no_results (reply_of (roster_of l)) next_of (May (roster_of l)) p [] seat.seen seats.legal z
              (ap (λ ns. among p ns) seats.names ∙ f.1);
        })) (which 1 r.callers the_queue seat.seen passes.1.each seats.each p)

    follows_zero : FollowsScripts None [] (map makes sent ++ core_calls r.works.run) (sent ++ r.works.made)
    follows_zero = follows_front (map sealed r.opening) (core_calls r.works.run) r.works.made r.works.follows

    pub queue_zero : by 0 (queue_calls the_queue) ≡ sent ++ r.works.made
    queue_zero =
        let qs : List ℕ = numbers 1 r.callers in
        queue_own 0 the_queue (sent ++ r.works.made) follows_zero
        (own_both 0 the_queue (splits_of qs) (joins_of qs) sent r.works.made (calls_splits qs) (calls_joins qs) passes.1.own)

    pub table_zero : by 0 (answered_calls seat.seen) ≡ zero_calls
    table_zero =
        let qs : List ℕ = numbers 1 r.callers in
        own_calls 0 seat.seen (splits_of qs ++ joins_of qs) zero_calls
        (calls_append (splits_of qs) (joins_of qs) ∙ (ap (λ x. x ++ answered_calls (joins_of qs)) (calls_splits qs) ∙ calls_joins qs)) seats.own

    queue_caller : (p : ℕ) (f : Found p r.callers (core_at 1 r.callers p) the_queue seat.seen) → by p (queue_calls the_queue) ≡ f.caller_run.followed.made
    queue_caller p f = queue_own p the_queue f.caller_run.followed.made f.caller_run.followed.follows
        (own_calls p the_queue [] f.caller_run.followed.made refl f.calls)

    table_caller : (p : ℕ) (f : Found p r.callers (core_at 1 r.callers p) the_queue seat.seen)
        → by p (answered_calls seat.seen) ≡ backend_calls f.caller_run.followed.run
    table_caller p f = own_calls p seat.seen [] (backend_calls f.caller_run.followed.run) refl f.replies

    queue_nobody : (p : ℕ) → Nobody p → by p (queue_calls the_queue) ≡ []
    queue_nobody p n = queue_own p the_queue [] (scripts_all {h = None} {ts = []}) (own_calls p the_queue [] [] refl n.calls)

    table_nobody : (p : ℕ) → Nobody p → by p (answered_calls seat.seen) ≡ []
    table_nobody p n = own_calls p seat.seen [] [] refl n.replies

    -- what holds of worker 0's course, of each other's and of none holds of all
    pub for_all : (P : ℕ → ProgramOrder → Type 0) → P 0 r.works.run
        → ((p : ℕ) → (p == 0) ≡ false → (f : Found p r.callers (core_at 1 r.callers p) the_queue seat.seen) → P p f.caller_run.followed.run)
        → ((p : ℕ) → (p == 0) ≡ false → Nobody p → P p [])
        → (p : ℕ) → P p (core p)
    for_all P a b c p =
        cond_cases (λ x. P p x) (eqb p 0) r.works.run (core_at 1 r.callers p) (λ e. subst (λ n. P n r.works.run) (sym (eqb-true p 0 e)) a)
        (λ e. ⊎_elim (λ f. subst (λ x. P p x) (sym f.is) (b p e f)) (λ n. subst (λ x. P p x) (sym n.is) (c p e n)) (who p e))

    abbrev pub FollowsOrder : ℕ → ProgramOrder → Type 0
    FollowsOrder p x = FollowsScripts None [] (map makes (cond (eqb p 0) sent []) ++ core_calls x) (by p (queue_calls the_queue))

    pub the_follows : (p : ℕ) → FollowsOrder p (core p)
    the_follows = for_all FollowsOrder
        (subst (λ x. FollowsScripts None [] (map makes sent ++ core_calls r.works.run) x) (sym queue_zero)
        follows_zero)
        (λ p e f. subst (λ b. FollowsScripts None [] (map makes (cond b sent []) ++ core_calls f.caller_run.followed.run) (by p (queue_calls the_queue)))
        (sym e)
        (subst (λ x. FollowsScripts None [] (core_calls f.caller_run.followed.run) x) (sym (queue_caller p f)) f.caller_run.followed.follows))
        (λ p e n. subst (λ b. FollowsScripts None [] (map makes (cond b sent []) ++ []) (by p (queue_calls the_queue))) (sym e)
        (subst (λ x. FollowsScripts None [] [] x) (sym (queue_nobody p n)) scripts_all))

    abbrev pub KeepsCore : ℕ → ProgramOrder → Type 0
    KeepsCore p x = by p (answered_calls seat.seen) ≡ backend_calls x ++ cond (eqb p 0) r.closing []

    pub the_keeps : (p : ℕ) → KeepsCore p (core p)
    the_keeps = for_all KeepsCore table_zero
        (λ p e f. table_caller p f ∙ (sym (append-nil (backend_calls f.caller_run.followed.run))
        ∙ ap (λ b. backend_calls f.caller_run.followed.run ++ cond b r.closing []) (sym e)))
        (λ p e n. table_nobody p n ∙ ap (λ b. cond b r.closing []) (sym e))

    abbrev pub the_run : Run behaviour l
    the_run = record {
      queue = the_queue;
      table = seat.seen;
      queue_legal = passes.1.legal;
      table_legal = seats.legal;
      core = core;
      is_core = λ p. (for_all (λ p x. IsCoreRun (worker_of behaviour P) taking x) r.works.is_core (λ p e f. f.caller_run.followed.is_core) (λ p e n. tt) p);
      opening = r.opening;
      unsent = r.unsent;
      closing = r.closing;
      opens = r.opens;
      opens_back = r.opens_back;
      closes = r.closes;
      follows = the_follows;
      keeps = the_keeps;
    }

    module _ (w : EndedWell behaviour l pass seat r) where
      caller_done : (m : CallerRun behaviour P) → In m r.callers → IsDone m.ended
      caller_done m i = in_each (λ (m : CallerRun behaviour P). IsDone m.ended) r.callers w.each m i

      all_used : (a b : ℕ) (held : List Envelope) → held ≡ [] → 0 + a ≡ b + length held → a ≡ b
      all_used a b held e u = let none : length held ≡ 0 = ap length e in omega (arith, u, none)

      abbrev UsesAll : ℕ → ProgramOrder → Type 0
      UsesAll p x = total takes_one (by p (queue_calls the_queue)) ≡ total takes_one (broker_calls x)

      the_used : (p : ℕ) → UsesAll p (core p)
      the_used = for_all UsesAll
          (ap (λ x. total takes_one x) queue_zero ∙ (total-append takes_one sent r.works.made ∙ (
          let none = published_takes (map sealed r.opening) in
          let used = all_used (total takes_one r.works.made) (total takes_one (broker_calls r.works.run)) r.own.held w.own.1 r.works.used in
          omega (arith, none, used))))
          (λ p e f. ap (λ x. total takes_one x) (queue_caller p f)
          ∙ all_used (total takes_one f.caller_run.followed.made) (total takes_one (broker_calls f.caller_run.followed.run)) f.caller_run.ended.held
          (caller_done f.caller_run f.there).1 f.caller_run.followed.used)
          (λ p e n. ap (λ x. total takes_one x) (queue_nobody p n))

      pub the_closed : Closed behaviour l the_run
      the_closed = record {
        all_sent = w.all_sent;
        drained = w.empty (subst (λ n. Sole the_queue n) (sym passes.0) passes.1.sole);
        all_used = the_used;
        all_ended = λ p.
            (for_all (λ p x. Between (left_after (worker_of behaviour P) taking x))
            (subst (λ x. Between x) (sym r.works.leaves) w.own.0)
            (λ p e f. subst (λ x. Between x) (sym f.caller_run.followed.leaves) (caller_done f.caller_run f.there).0)
            (λ p e n. tt) p);
      }
