-- A run by turns is a run: its two histories, and each worker's steps as its core run.
use Rattle.std.proofs.Common.{◌≡◌, ℕ, zero, suc, ◌+◌, Bool, true, false, cond, eqb, List, [], ◌∷◌, ◌++◌, map, Option, Some, None, refl, sym, ap, ap₂, ◌∙◌, subst, append_assoc, append-nil, arith, ne_eqb, inl, inr, ◌⊎◌, ⊎_elim}
use Rattle.canvas_task.specs.Apply.{Behaviour}
use Rattle.canvas_history.specs.History.{calls, among, live, state_from, LegalFrom, Entry, split, join, heir}
use Rattle.canvas_history.proofs.Histories.{OnlyCalls, live_append, state_append, legal_append}
use Rattle.canvas_semantics.specs.Line.{Line}
use Rattle.canvas_effects.specs.Effects.{first_messages}
use Rattle.canvas_envelope.specs.declared.envelope.Envelope.{Envelope}
use Rattle.canvas_history.specs.Table as table
use Rattle.canvas_history.specs.Table.{Results, no_results, next_of, reply_of}
use Rattle.canvas_history.specs.Roster.{roster_of}
use Rattle.canvas_history.specs.Queue as queue
use Rattle.canvas_history.specs.Answers.{answered_calls, entries_by, splits_of}
use Rattle.canvas_runs.specs.Core.{Ask, Reply, to_queue, to_table, rest, ack, from_queue, from_table, rested, acked, taking, answered, Suits, IsCoreRun, Between, Doing}
use Rattle.canvas_runs.specs.Calls.{QueueAnswered, TableAnswered, makes, FollowsScripts, scripts_all, scripts_publish, scripts_list_take, scripts_core_take, scripts_ack, AskedAndAnswered, broker_call, broker_calls, core_calls, backend_call, backend_calls, takes_one, of_scripts, scripts_of, scripts_again, held_by, held_after}
use Rattle.canvas_history.specs.Lists.{by, total, In as IsIn}
use Rattle.canvas_runs.specs.Logs.{queue_calls}
use Rattle.canvas_runs.specs.Run.{Run, Closed, published_all}
use Rattle.canvas_runs.specs.Worker.{worker, sealed}
use Rattle.canvas_runs.specs.Turns.{Step, queue_next, results_next, results_after, queue_after, left, round, IsWorker, Answers, FirstsRead, holds, redelivery}
use Rattle.std.proofs.lemmas.Bool.{eqb-true, false≢true}
use Rattle.canvas_runs.proofs.Lists.Words.{in_right}
use Rattle.canvas_runs.proofs.Lists.Sums.{total-append}
use Rattle.canvas_runs.proofs.Objects.CallsOf.{calls_append, calls_splits, calls_entries, queue_append, queue_splits, queue_entries, broker_found, published_found, published_takes, by_tag}
use Rattle.canvas_runs.proofs.Runs.MoreAsks.{by_append, delivers, DeliversHeld}
use Rattle.canvas_runs.proofs.ByTurns.TurnLogs.{Made, worker_lives, first_lives, only_append, splits_legal, splits_state, entries_only}

-- a worker whose redeliveries are of the envelope of its open script follows its core run
one_same : (h : Option Envelope) (a : Ask Envelope) (r : Reply Envelope) (ys : List (AskedAndAnswered Envelope)) → delivers h a r
    → (of_scripts a ≡ true → Suits a r) → FollowsScripts (held_by h a r) [] (core_calls (scripts_of ys)) (broker_calls ys)
    → FollowsScripts h [] (core_calls (scripts_of ((a, r) ∷ ys))) (broker_call a r ++ broker_calls ys)
one_same h (to_queue queue.take) (from_queue (Some e)) ys d s k = scripts_list_take (scripts_core_take k)
one_same h (to_queue queue.take) (from_queue None) ys d s k = k
one_same h (to_queue (queue.publish e)) (from_queue None) ys d s k = scripts_publish k
one_same h (to_queue (queue.publish e)) (from_queue (Some x)) ys d s k = elim (s refl) [ ]
one_same h (to_queue (queue.redeliver e)) (from_queue None) ys d s k =
    subst (λ g. FollowsScripts g [] (core_calls (scripts_of ys)) ((queue.redeliver e, None) ∷ broker_calls ys)) (sym d)
    (scripts_again (subst (λ g. FollowsScripts g [] (core_calls (scripts_of ys)) (broker_calls ys)) d k))
one_same h (to_queue (queue.redeliver e)) r ys d s k = elim d [ ]
one_same h ack acked ys d s k = scripts_ack k
one_same h a r ys d s k = k

module _ (behaviour : Behaviour) (l : Line) where
  scripts_same : (s : Doing (worker behaviour l)) (h : Option Envelope) (xs : List (AskedAndAnswered Envelope)) → DeliversHeld h xs
      → IsCoreRun (worker behaviour l) s (scripts_of xs) → FollowsScripts h [] (core_calls (scripts_of xs)) (broker_calls xs)
  scripts_same s h [] d c = scripts_all
  scripts_same s h (x ∷ xs) d c = go x.0 x.1 d.0 (λ z. scripts_same z (held_by h x.0 x.1) xs d.1) c
    where
      go : (a : Ask Envelope) (r : Reply Envelope) → delivers h a r
          → ((z : Doing (worker behaviour l)) → IsCoreRun (worker behaviour l) z (scripts_of xs)
          → FollowsScripts (held_by h a r) [] (core_calls (scripts_of xs)) (broker_calls xs))
          → IsCoreRun (worker behaviour l) s (scripts_of ((a, r) ∷ xs))
          → FollowsScripts h [] (core_calls (scripts_of ((a, r) ∷ xs))) (broker_call a r ++ broker_calls xs)
      go (to_queue (queue.redeliver e)) r d k c = one_same h (to_queue (queue.redeliver e)) r xs d (λ o. absurd (false≢true o)) (k s c)
      go a r d k c = one_same h a r xs d (λ o. c.1.0) (k (answered (worker behaviour l) s r) c.2)

  pub follows_same : (es : List Envelope) (xs : List (AskedAndAnswered Envelope)) (b : Bool) → DeliversHeld None xs
      → IsCoreRun (worker behaviour l) taking (scripts_of xs)
      → FollowsScripts None [] (map makes (cond b (published_all es) []) ++ core_calls (scripts_of xs)) (cond b (published_all es) [] ++ broker_calls xs)
  follows_same es xs false d c = scripts_same taking None xs d c
  follows_same [] xs true d c = scripts_same taking None xs d c
  follows_same (e ∷ es) xs true d c = scripts_publish (follows_same es xs true d c)

-- what a redelivery has no part in
one_backend : (a : Ask Envelope) (r : Reply Envelope) (ys : List (AskedAndAnswered Envelope)) (l : List TableAnswered)
    → l ≡ backend_calls (scripts_of ys) → backend_call a r ++ l ≡ backend_calls (scripts_of ((a, r) ∷ ys))
one_backend (to_queue (queue.redeliver e)) r ys l k = k
one_backend a r ys l k = ap (λ g. backend_call a r ++ g) k

pub backend_scripts : (xs : List (AskedAndAnswered Envelope)) → backend_calls xs ≡ backend_calls (scripts_of xs)
backend_scripts [] = refl
backend_scripts (x ∷ xs) = one_backend x.0 x.1 xs (backend_calls xs) (backend_scripts xs)

one_takes : (a : Ask Envelope) (r : Reply Envelope) (ys : List (AskedAndAnswered Envelope)) (k : ℕ)
    → k ≡ total takes_one (broker_calls (scripts_of ys)) → total takes_one (broker_call a r) + k ≡ total takes_one (broker_calls (scripts_of ((a, r) ∷ ys)))
one_takes (to_queue (queue.redeliver e)) (from_queue x) ys k h = omega (arith, h)
one_takes (to_queue (queue.redeliver e)) r ys k h = omega (arith, h)
one_takes a r ys k h = let both = total-append takes_one (broker_call a r) (broker_calls (scripts_of ys)) in omega (arith, h, both)

pub takes_scripts : (xs : List (AskedAndAnswered Envelope)) → total takes_one (broker_calls xs) ≡ total takes_one (broker_calls (scripts_of xs))
takes_scripts [] = refl
takes_scripts (x ∷ xs) = total-append takes_one (broker_call x.0 x.1) (broker_calls xs)
    ∙ one_takes x.0 x.1 xs (total takes_one (broker_calls xs)) (takes_scripts xs)

-- what a worker holds it has taken
held_taken : (h : Option Envelope) (xs : List (AskedAndAnswered Envelope)) (e : Envelope) → held_after h xs ≡ Some e
    → (h ≡ Some e) ⊎ IsIn (to_queue queue.take, from_queue (Some e)) xs
held_taken h [] e k = inl k
held_taken h (x ∷ xs) e k = ⊎_elim (λ a. one x.0 x.1 a) (λ b. inr (inr b)) (held_taken (held_by h x.0 x.1) xs e k)
  where
    some_same : (d : Envelope) → Some d ≡ Some e → d ≡ e
    some_same d q = cc

    one : (a : Ask Envelope) (r : Reply Envelope) → held_by h a r ≡ Some e → (h ≡ Some e) ⊎ IsIn (to_queue queue.take, from_queue (Some e)) ((a, r) ∷ xs)
    one (to_queue queue.take) (from_queue (Some d)) q = inr (inl (ap (λ u. (to_queue queue.take, from_queue (Some u))) (sym (some_same d q))))
    one (to_queue queue.take) (from_queue None) q = inl q
    one ack acked q = absurd (cc)
    one a r q = inl q

-- the queue's answer to a take
none_left : (q : List Envelope) → None ≡ queue.answer_of q queue.take → queue.next q queue.take ≡ q
none_left [] e = refl
none_left (x ∷ q) e = absurd cc

module _ (behaviour : Behaviour) (l : Line) where
  -- the steps that are calls, each by its worker
  abbrev pub queue_lines : List Step → List (queue.QueueEntry Envelope)
  queue_lines [] = []
  queue_lines (x ∷ xs) = entries_by x.0 (broker_call x.1.0 x.1.1) ++ queue_lines xs

  abbrev pub table_lines : List Step → table.Log
  table_lines [] = []
  table_lines (x ∷ xs) = entries_by x.0 (backend_call x.1.0 x.1.1) ++ table_lines xs

  abbrev pub firsts : List Envelope
  firsts = map sealed (first_messages l)

  abbrev pub queue_log : ℕ → List Step → List (queue.QueueEntry Envelope)
  queue_log n xs = splits_of (round n) ++ (entries_by 0 (published_all firsts) ++ queue_lines xs)

  abbrev pub table_log : ℕ → List Step → table.Log
  table_log n xs = splits_of (round n) ++ table_lines xs

  -- ---- one more step

  queue_lines_more : (xs : List Step) (x : Step) → queue_lines (xs ++ x ∷ []) ≡ queue_lines xs ++ entries_by x.0 (broker_call x.1.0 x.1.1)
  queue_lines_more [] x = append-nil (entries_by x.0 (broker_call x.1.0 x.1.1))
  queue_lines_more (y ∷ xs) x =
      ap (λ g. entries_by y.0 (broker_call y.1.0 y.1.1) ++ g) (queue_lines_more xs x)
      ∙ sym (append_assoc (entries_by y.0 (broker_call y.1.0 y.1.1)) (queue_lines xs) (entries_by x.0 (broker_call x.1.0 x.1.1)))

  table_lines_more : (xs : List Step) (x : Step) → table_lines (xs ++ x ∷ []) ≡ table_lines xs ++ entries_by x.0 (backend_call x.1.0 x.1.1)
  table_lines_more [] x = append-nil (entries_by x.0 (backend_call x.1.0 x.1.1))
  table_lines_more (y ∷ xs) x =
      ap (λ g. entries_by y.0 (backend_call y.1.0 y.1.1) ++ g) (table_lines_more xs x)
      ∙ sym (append_assoc (entries_by y.0 (backend_call y.1.0 y.1.1)) (table_lines xs) (entries_by x.0 (backend_call x.1.0 x.1.1)))

  pub queue_log_more : (n : ℕ) (xs : List Step) (x : Step) → queue_log n (xs ++ x ∷ []) ≡ queue_log n xs ++ entries_by x.0 (broker_call x.1.0 x.1.1)
  queue_log_more n xs x =
      let new : List (queue.QueueEntry Envelope) = entries_by x.0 (broker_call x.1.0 x.1.1) in
      let opening : List (queue.QueueEntry Envelope) = entries_by 0 (published_all firsts) in
      ap (λ g. splits_of (round n) ++ (opening ++ g)) (queue_lines_more xs x)
      ∙ (ap (λ g. splits_of (round n) ++ g) (sym (append_assoc opening (queue_lines xs) new))
      ∙ sym (append_assoc (splits_of (round n)) (opening ++ queue_lines xs) new))

  pub table_log_more : (n : ℕ) (xs : List Step) (x : Step) → table_log n (xs ++ x ∷ []) ≡ table_log n xs ++ entries_by x.0 (backend_call x.1.0 x.1.1)
  table_log_more n xs x =
      ap (λ g. splits_of (round n) ++ g) (table_lines_more xs x)
      ∙ sym (append_assoc (splits_of (round n)) (table_lines xs) (entries_by x.0 (backend_call x.1.0 x.1.1)))

  -- ---- the workers are made first, and then they call

  queue_only : (xs : List Step) → OnlyCalls (queue_lines xs)
  queue_only [] = tt
  queue_only (x ∷ xs) = only_append (entries_by x.0 (broker_call x.1.0 x.1.1)) (queue_lines xs) (entries_only x.0 (broker_call x.1.0 x.1.1)) (queue_only xs)

  table_only : (xs : List Step) → OnlyCalls (table_lines xs)
  table_only [] = tt
  table_only (x ∷ xs) = only_append (entries_by x.0 (backend_call x.1.0 x.1.1)) (table_lines xs) (entries_only x.0 (backend_call x.1.0 x.1.1)) (table_only xs)

  pub queue_made : (n : ℕ) (xs : List Step) → Made n (queue_log n xs)
  queue_made n xs = record {
    rest = entries_by 0 (published_all firsts) ++ queue_lines xs;
    is = refl;
    only = only_append (entries_by 0 (published_all firsts)) (queue_lines xs) (entries_only 0 (published_all firsts)) (queue_only xs);
  }

  pub table_made : (n : ℕ) (xs : List Step) → Made n (table_log n xs)
  table_made n xs = record { rest = table_lines xs; is = refl; only = table_only xs }

  -- ---- the histories stay legal

  abbrev QueueLegal : List (queue.QueueEntry Envelope) → List (queue.QueueEntry Envelope) → Type 0
  QueueLegal before es = LegalFrom [] queue.answer_of queue.next queue.May before es

  abbrev queue_from_log : List Envelope → List (queue.QueueEntry Envelope) → List Envelope
  queue_from_log q es = state_from [] queue.answer_of queue.next queue.May q es

  -- what a step adds to a history of the queue
  queue_adds : (n : ℕ) (xs : List Step) (p : ℕ) (a : Ask Envelope) (r : Reply Envelope) (log : List (queue.QueueEntry Envelope))
      → among p (live log) ≡ true → queue.queue_of log ≡ queue_after l xs
      → of_scripts a ≡ true → Answers behaviour l n xs a r → QueueLegal log (entries_by p (broker_call a r))
      × (queue_from_log (queue_after l xs) (entries_by p (broker_call a r)) ≡ queue_next (queue_after l xs) a)
  queue_adds n xs p (to_queue queue.take) (from_queue None) log alive is o h = (tt, sym (none_left (queue_after l xs) h))
  queue_adds n xs p (to_queue queue.take) (from_queue (Some e)) log alive is o h =
      (((alive, h ∙ ap (λ q. queue.answer_of q queue.take) (sym is), tt), tt), refl)
  queue_adds n xs p (to_queue (queue.publish e)) (from_queue x) log alive is o h = (((alive, h, tt), tt), refl)
  queue_adds n xs p (to_queue (queue.redeliver e)) r log alive is o h = absurd (false≢true o)
  queue_adds n xs p (to_table c) (from_table r) log alive is o h = (tt, refl)
  queue_adds n xs p rest (rested m) log alive is o h = (tt, refl)
  queue_adds n xs p ack acked log alive is o h = (tt, refl)
  queue_adds n xs p a r log alive is o h = elim h [ ]

  abbrev TableLegal : table.Log → table.Log → Type 0
  TableLegal before es = LegalFrom no_results (reply_of (roster_of l)) next_of (table.May (roster_of l)) before es

  abbrev table_from_log : Results → table.Log → Results
  table_from_log s es = state_from no_results (reply_of (roster_of l)) next_of (table.May (roster_of l)) s es

  -- the worker may make the call of the table
  abbrev pub MayCall : table.Log → ℕ → Ask Envelope → Type 0
  MayCall log p (to_table c) = table.May (roster_of l) log (table.results (roster_of l) log) p c
  MayCall log p a = Unit {0}

  table_adds : (n : ℕ) (xs : List Step) (p : ℕ) (a : Ask Envelope) (r : Reply Envelope) (log : table.Log) → among p (live log) ≡ true
      → table.results (roster_of l) log ≡ results_after xs
      → Answers behaviour l n xs a r → MayCall log p a → TableLegal log (entries_by p (backend_call a r))
      × (table_from_log (results_after xs) (entries_by p (backend_call a r)) ≡ results_next (results_after xs) a)
  table_adds n xs p (to_queue c) (from_queue x) log alive is h may = (tt, refl)
  table_adds n xs p (to_table c) (from_table r) log alive is h may = (((alive, h ∙ ap (λ s. reply_of (roster_of l) s c) (sym is), may), tt), refl)
  table_adds n xs p rest (rested m) log alive is h may = (tt, refl)
  table_adds n xs p ack acked log alive is h may = (tt, refl)
  table_adds n xs p a r log alive is h may = elim h [ ]

  pub queue_stays : (n : ℕ) (xs : List Step) (p : ℕ) (a : Ask Envelope) (r : Reply Envelope) → IsWorker n p → queue.IsLegal (queue_log n xs)
      → queue.queue_of (queue_log n xs) ≡ queue_after l xs → of_scripts a ≡ true → Answers behaviour l n xs a r
      → queue.IsLegal (queue_log n (xs ++ (p, (a, r)) ∷ [])) × (queue.queue_of (queue_log n (xs ++ (p, (a, r)) ∷ [])) ≡ queue_next (queue_after l xs) a)
  queue_stays n xs p a r w legal is o h =
      let new : List (queue.QueueEntry Envelope) = entries_by p (broker_call a r) in
      let adds = queue_adds n xs p a r (queue_log n xs) (worker_lives n p (queue_log n xs) (queue_made n xs) w) is o h in
      let more = queue_log_more n xs (p, (a, r)) in (
        subst queue.IsLegal (sym more) (legal_append [] queue.answer_of queue.next queue.May [] (queue_log n xs) new legal adds.0),
        ap queue.queue_of more ∙ (state_append [] queue.answer_of queue.next queue.May [] (queue_log n xs) new
            ∙ (ap (λ q. queue_from_log q new) is ∙ adds.1)),
      )

  pub table_stays : (n : ℕ) (xs : List Step) (p : ℕ) (a : Ask Envelope) (r : Reply Envelope) → IsWorker n p
      → table.IsLegal (roster_of l) (table_log n xs)
      → table.results (roster_of l) (table_log n xs) ≡ results_after xs → Answers behaviour l n xs a r → MayCall (table_log n xs) p a
      → table.IsLegal (roster_of l) (table_log n (xs ++ (p, (a, r)) ∷ []))
      × (table.results (roster_of l) (table_log n (xs ++ (p, (a, r)) ∷ [])) ≡ results_next (results_after xs) a)
  table_stays n xs p a r w legal is h may =
      let new : table.Log = entries_by p (backend_call a r) in
      let adds = table_adds n xs p a r (table_log n xs) (worker_lives n p (table_log n xs) (table_made n xs) w) is h may in
      let more = table_log_more n xs (p, (a, r)) in (
        subst (table.IsLegal (roster_of l)) (sym more)
            (legal_append no_results (reply_of (roster_of l)) next_of (table.May (roster_of l)) [] (table_log n xs) new legal adds.0),
        ap (table.results (roster_of l)) more
            ∙ (state_append no_results (reply_of (roster_of l)) next_of (table.May (roster_of l)) no_results (table_log n xs) new
            ∙ (ap (λ s. table_from_log s new) is ∙ adds.1)),
      )

  -- ---- a redelivery

  line_in : (xs : List Step) (p : ℕ) (e : Envelope) → IsIn (to_queue queue.take, from_queue (Some e)) (by p xs)
      → IsIn (calls p queue.take (Some e)) (queue_lines xs)
  line_in [] p e i = absurd i
  line_in (x ∷ xs) p e i = go (eqb x.0 p) refl (λ k. line_in xs p e k) i
    where
      go : (b : Bool) → eqb x.0 p ≡ b → (IsIn (to_queue queue.take, from_queue (Some e)) (by p xs) → IsIn (calls p queue.take (Some e)) (queue_lines xs))
          → IsIn (to_queue queue.take, from_queue (Some e)) (cond b (x.1 ∷ by p xs) (by p xs)) → IsIn (calls p queue.take (Some e)) (queue_lines (x ∷ xs))
      go true f m (inl s) =
          let who : x.0 ≡ p = eqb-true _ _ f in
          let entry : entries_by x.0 (broker_call x.1.0 x.1.1) ≡ calls p queue.take (Some e) ∷ [] =
          ap₂ (λ n (y : AskedAndAnswered Envelope). entries_by n (broker_call y.0 y.1)) who (sym s) in
          subst (λ g. IsIn (calls p queue.take (Some e)) (g ++ queue_lines xs)) (sym entry) (inl refl)
      go true f m (inr k) = in_right (entries_by x.0 (broker_call x.1.0 x.1.1)) (queue_lines xs) (calls p queue.take (Some e)) (m k)
      go false f m k = in_right (entries_by x.0 (broker_call x.1.0 x.1.1)) (queue_lines xs) (calls p queue.take (Some e)) (m k)

  no_joins : {C R : Type 0} (p : ℕ) (qs : List ℕ) (es : List (Entry C R)) → OnlyCalls es → heir (splits_of qs ++ es) p ≡ p
  no_joins p [] [] o = refl
  no_joins p [] (split a b ∷ es) o = absurd o
  no_joins p [] (join a b ∷ es) o = absurd o
  no_joins p [] (calls a c r ∷ es) o = no_joins p [] es o
  no_joins p (q ∷ qs) es o = no_joins p qs es o

  pub has_taken : (n : ℕ) (xs : List Step) (p : ℕ) (e : Envelope) → holds xs p ≡ Some e → queue.HasTaken (queue_log n xs) p e
  has_taken n xs p e h =
      let made = queue_made n xs in
      let mine : IsIn (to_queue queue.take, from_queue (Some e)) (by p xs) = ⊎_elim (λ a. absurd (none a)) (λ b. b) (held_taken None (by p xs) e h) in (
        p,
        in_right (splits_of (round n)) (entries_by 0 (published_all firsts) ++ queue_lines xs) (calls p queue.take (Some e))
            (in_right (entries_by 0 (published_all firsts)) (queue_lines xs) (calls p queue.take (Some e)) (line_in xs p e mine)),
        ap (λ g. heir g p) made.is ∙ no_joins p (round n) made.rest made.only,
      )
    where
      none : None ≡ Some e → ⊥
      none q = cc

  pub queue_delivers : (n : ℕ) (xs : List Step) (p : ℕ) (e : Envelope) → IsWorker n p → queue.IsLegal (queue_log n xs)
      → queue.queue_of (queue_log n xs) ≡ queue_after l xs → holds xs p ≡ Some e
      → queue.IsLegal (queue_log n (xs ++ redelivery p e ∷ []))
      × (queue.queue_of (queue_log n (xs ++ redelivery p e ∷ [])) ≡ queue_next (queue_after l xs) (to_queue (queue.redeliver e)))
  queue_delivers n xs p e w legal is h =
      let new : List (queue.QueueEntry Envelope) = calls p (queue.redeliver e) None ∷ [] in
      let alive = worker_lives n p (queue_log n xs) (queue_made n xs) w in
      let more = queue_log_more n xs (redelivery p e) in (
        subst queue.IsLegal (sym more)
            (legal_append [] queue.answer_of queue.next queue.May [] (queue_log n xs) new legal ((alive, refl, has_taken n xs p e h), tt)),
        ap queue.queue_of more ∙ (state_append [] queue.answer_of queue.next queue.May [] (queue_log n xs) new ∙ ap (λ q. queue_from_log q new) is),
      )

  pub table_delivers : (n : ℕ) (xs : List Step) (p : ℕ) (e : Envelope) → table_log n (xs ++ redelivery p e ∷ []) ≡ table_log n xs
  table_delivers n xs p e = table_log_more n xs (redelivery p e) ∙ append-nil (table_log n xs)

  -- ---- before the first step

  published_legal : (log : List (queue.QueueEntry Envelope)) (es : List Envelope) → among 0 (live log) ≡ true
      → QueueLegal log (entries_by 0 (published_all es))
  published_legal log [] alive = tt
  published_legal log (e ∷ es) alive = (
    (alive, refl, tt),
    published_legal (log ++ calls 0 (queue.publish e) None ∷ []) es
        (subst (λ ls. among 0 ls ≡ true) (sym (live_append (0 ∷ []) log (calls 0 (queue.publish e) None ∷ []))) alive),
  )

  published_state : (q es : List Envelope) → queue_from_log q (entries_by 0 (published_all es)) ≡ q ++ es
  published_state q [] = sym (append-nil q)
  published_state q (e ∷ es) = published_state (q ++ e ∷ []) es ∙ append_assoc q (e ∷ []) es

  pub queue_starts : (n : ℕ) → queue.IsLegal (queue_log n []) × (queue.queue_of (queue_log n []) ≡ queue_after l [])
  queue_starts n =
      let opening : List (queue.QueueEntry Envelope) = entries_by 0 (published_all firsts) in
      let made : Made n (splits_of (round n)) = record { rest = []; is = sym (append-nil (splits_of (round n))); only = tt } in
      let shape : queue_log n [] ≡ splits_of (round n) ++ opening = ap (λ g. splits_of (round n) ++ g) (append-nil opening) in (
        subst queue.IsLegal (sym shape)
            (legal_append [] queue.answer_of queue.next queue.May [] (splits_of (round n)) opening
            (splits_legal [] queue.answer_of queue.next queue.May n)
            (published_legal (splits_of (round n)) firsts (first_lives n (splits_of (round n)) made))),
        ap queue.queue_of shape
            ∙ (state_append [] queue.answer_of queue.next queue.May [] (splits_of (round n)) opening
            ∙ (ap (λ q. queue_from_log q opening) (splits_state [] queue.answer_of queue.next queue.May [] (round n)) ∙ published_state [] firsts)),
      )

  pub table_starts : (n : ℕ) → table.IsLegal (roster_of l) (table_log n []) × (table.results (roster_of l) (table_log n []) ≡ results_after [])
  table_starts n =
      let shape : table_log n [] ≡ splits_of (round n) = append-nil (splits_of (round n)) in (
        subst (table.IsLegal (roster_of l)) (sym shape) (splits_legal no_results (reply_of (roster_of l)) next_of (table.May (roster_of l)) n),
        ap (table.results (roster_of l)) shape ∙ splits_state no_results (reply_of (roster_of l)) next_of (table.May (roster_of l)) no_results (round n),
      )

  -- ---- each worker's calls are those of its steps

  lines_by : (p : ℕ) (xs : List Step) → by p (queue_calls (queue_lines xs)) ≡ broker_calls (by p xs)
  lines_by p [] = refl
  lines_by p (x ∷ xs) =
      let call : List (QueueAnswered Envelope) = broker_call x.1.0 x.1.1 in
      ap (by p) (queue_append (entries_by x.0 call) (queue_lines xs))
      ∙ (by_append p (queue_calls (entries_by x.0 call)) (queue_calls (queue_lines xs))
      ∙ (ap₂ (λ u v. u ++ v) (ap (by p) (queue_entries x.0 call (broker_found x.1.0 x.1.1)) ∙ by_tag x.0 p call) (lines_by p xs) ∙ go (eqb x.0 p)))
    where
      go : (b : Bool) → cond b (broker_call x.1.0 x.1.1) [] ++ broker_calls (by p xs) ≡ broker_calls (cond b (x.1 ∷ by p xs) (by p xs))
      go true = refl
      go false = refl

  rows_by : (p : ℕ) (xs : List Step) → by p (answered_calls (table_lines xs)) ≡ backend_calls (by p xs)
  rows_by p [] = refl
  rows_by p (x ∷ xs) =
      let call : List TableAnswered = backend_call x.1.0 x.1.1 in
      ap (by p) (calls_append (entries_by x.0 call) (table_lines xs))
      ∙ (by_append p (answered_calls (entries_by x.0 call)) (answered_calls (table_lines xs))
      ∙ (ap₂ (λ u v. u ++ v) (ap (by p) (calls_entries x.0 call) ∙ by_tag x.0 p call) (rows_by p xs) ∙ go (eqb x.0 p)))
    where
      go : (b : Bool) → cond b (backend_call x.1.0 x.1.1) [] ++ backend_calls (by p xs) ≡ backend_calls (cond b (x.1 ∷ by p xs) (by p xs))
      go true = refl
      go false = refl

  swapped : (p : ℕ) → eqb 0 p ≡ eqb p 0
  swapped zero = refl
  swapped (suc p) = ne_eqb 0 (suc p) (λ e. omega (arith, e)) ∙ sym (ne_eqb (suc p) 0 (λ e. omega (arith, e)))

  abbrev pub opened_by : ℕ → List (QueueAnswered Envelope)
  opened_by p = cond (eqb p 0) (published_all firsts) []

  pub queue_by : (n : ℕ) (xs : List Step) (p : ℕ) → by p (queue_calls (queue_log n xs)) ≡ opened_by p ++ broker_calls (by p xs)
  queue_by n xs p =
      let opening : List (queue.QueueEntry Envelope) = entries_by 0 (published_all firsts) in
      ap (by p) (queue_append (splits_of (round n)) (opening ++ queue_lines xs)
      ∙ ap (λ g. g ++ queue_calls (opening ++ queue_lines xs)) (queue_splits (round n)))
      ∙ (ap (by p) (queue_append opening (queue_lines xs))
      ∙ (by_append p (queue_calls opening) (queue_calls (queue_lines xs))
      ∙ ap₂ (λ u v. u ++ v) (ap (by p) (queue_entries 0 (published_all firsts) (published_found firsts))
      ∙ (by_tag 0 p (published_all firsts) ∙ ap (λ b. cond b (published_all firsts) []) (swapped p))) (lines_by p xs)))

  pub table_by : (n : ℕ) (xs : List Step) (p : ℕ) → by p (answered_calls (table_log n xs)) ≡ backend_calls (by p xs)
  table_by n xs p =
      ap (by p) (calls_append (splits_of (round n)) (table_lines xs) ∙ ap (λ g. g ++ answered_calls (table_lines xs)) (calls_splits (round n)))
      ∙ rows_by p xs

  pub no_closing : (b : Bool) → ◌≡◌ {A = List TableAnswered} (cond b [] []) []
  no_closing true = refl
  no_closing false = refl

  -- ---- the run

  -- each worker follows a core run, and both histories are legal and replay to what is queued and stored
  pub record Lawful (n : ℕ) (xs : List Step) : Type 0 where
    pub core : (p : ℕ) → IsCoreRun (worker behaviour l) taking (scripts_of (by p xs))
    pub held : (p : ℕ) → DeliversHeld None (by p xs)
    pub queue_legal : queue.IsLegal (queue_log n xs)
    pub queue_is : queue.queue_of (queue_log n xs) ≡ queue_after l xs
    pub table_legal : table.IsLegal (roster_of l) (table_log n xs)
    pub table_is : table.results (roster_of l) (table_log n xs) ≡ results_after xs

  module _ (back : FirstsRead l) (n : ℕ) (xs : List Step) (s : Lawful n xs) where
    abbrev pub run : Run behaviour l
    run = record {
      queue = queue_log n xs;
      table = table_log n xs;
      queue_legal = s.queue_legal;
      table_legal = s.table_legal;
      core = λ p. scripts_of (by p xs);
      is_core = s.core;
      opening = first_messages l;
      unsent = [];
      closing = [];
      opens = sym (append-nil (first_messages l));
      opens_back = back;
      closes = tt;
      follows = λ p. subst (λ ls. FollowsScripts None [] (map makes (opened_by p) ++ core_calls (scripts_of (by p xs))) ls) (sym (queue_by n xs p))
          (follows_same behaviour l firsts (by p xs) (eqb p 0) (s.held p) (s.core p));
      keeps = λ p. table_by n xs p
          ∙ (backend_scripts (by p xs)
          ∙ (sym (append-nil (backend_calls (scripts_of (by p xs)))) ∙ ap (λ g. backend_calls (scripts_of (by p xs)) ++ g) (sym (no_closing (eqb p 0)))));
    }

    none_taken : (b : Bool) → total takes_one (cond b (published_all firsts) []) ≡ 0
    none_taken true = published_takes firsts
    none_taken false = refl

    pub closed : queue_after l xs ≡ [] → ((p : ℕ) → Between (left behaviour l xs p)) → Closed behaviour l run
    closed empty between = record {
      all_sent = refl;
      drained = s.queue_is ∙ empty;
      all_used = λ p. ap (total takes_one) (queue_by n xs p)
          ∙ (total-append takes_one (opened_by p) (broker_calls (by p xs))
          ∙ (plain (total takes_one (opened_by p)) (none_taken (eqb p 0)) ∙ takes_scripts (by p xs)));
      all_ended = between;
    }
      where
        plain : {m : ℕ} (k : ℕ) → k ≡ 0 → k + m ≡ m
        plain k e = omega (arith, e)
