-- In a closed run the script of each message published is done, by the caller whose store of it was the first, and each header whose members are handed in is completed.
use Rattle.std.proofs.Common.{⊎_elim, ◌≡◌, ◌⊎◌, ℕ, suc, ◌+◌, ◌≤◌, Bool, true, false, cond, eqb, List, [], ◌∷◌, ◌++◌, map, length, Some, None, refl, sym, ap, subst, ◌∙◌, inl, inr, arith, append-nil}
use Rattle.std.proofs.lemmas.Bool.{eq-eqb, eqb-true}
use Rattle.canvas_task.specs.declared.outcome.Outcome.{Outcome}
use Rattle.canvas_history.specs.Lists.{In, Each, total, by, seconds, firsts}
use Rattle.canvas_history.specs.declared.stored.Stored.{Stored}
use Rattle.canvas_history.specs.declared.stored.Stored.TheVariants.{First, Again}
use Rattle.canvas_history.specs.Table as table
use Rattle.canvas_history.specs.Queue as queue
use Rattle.canvas_runs.proofs.Objects.CallsOf.{published_takes}
use Rattle.canvas_effects.specs.Job as job
use Rattle.canvas_effects.specs.Job.{store, publish}
use Rattle.canvas_runs.specs.Protocol.{Protocol}
use Rattle.canvas_runs.specs.Core.{taking, acking, left_after, Between, reads_next, part_counted}
use Rattle.canvas_effects.specs.Events.{Event, running}
use Rattle.canvas_runs.proofs.Runs.Meaning.{JobOf, Form, Ordered, RunsNone, Has, IsRun, Evaluates, Once, KeptOnce}
use Rattle.canvas_runs.specs.Calls.{QueueAnswered, TableAnswered, takes_one, broker_calls, backend_calls}
use Rattle.canvas_runs.proofs.Objects.Accords.{FollowsCore, follows_all, follows_publish, follows_list_take, follows_core_take, follows_again}
use Rattle.canvas_runs.proofs.Objects.Replay.{IsDrained, IsTable, FirstWins, look_up}
use Rattle.canvas_runs.proofs.Runs.Run.{Run}
use Rattle.canvas_runs.specs.Run.{IsRead, published_all}
use Rattle.canvas_runs.proofs.Lists.Words.{in_left, in_right, in_each, each_weaker, each_left, call_same, reply_same, in_append_cases}
use Rattle.canvas_runs.proofs.Lists.Sums.{total-append}
use Rattle.canvas_runs.proofs.Objects.Histories.{GoodPublish, each_by, each_from_by, each_seconds}
use Rattle.canvas_runs.proofs.Runs.Right.{answers_right, IsRunSealed, publishes_right}
use Rattle.canvas_runs.proofs.Runs.StoredOnce.{FirstWhereSkipped, all_skipped_first}
use Rattle.canvas_runs.proofs.Runs.Finish.{IsFirst, Known, Sound, sound_left, Backs, known, Left, Done, Owed, owed, script_done, FirstOwed, first_done as first_owed, next_owed}
use Rattle.canvas_runs.proofs.Runs.Tables.{Distinct, sound, MemberPart, known_members, one_reply, last_part}

pub in_by_caller : {A : Type 0} (x : A) (es : List (ℕ × A)) → In x (seconds es) → (p : ℕ) × In x (by p es)
in_by_caller x [] i = elim i [ ]
in_by_caller {A} x ((q, y) ∷ es) (inl e) = (q, subst (λ b. In x (cond b (y ∷ by q es) (by q es))) (sym (eq-eqb q q refl)) (inl e))
in_by_caller {A} x ((q, y) ∷ es) (inr i) = let r = in_by_caller x es i in (r.0, go r.0 (eqb q r.0) r.1)
  where
    go : (p : ℕ) (b : Bool) → In x (by p es) → In x (cond b (y ∷ by p es) (by p es))
    go p true i = inr i
    go p false i = i

pub in_seconds : {A : Type 0} (x : A) (p : ℕ) (es : List (ℕ × A)) → In x (by p es) → In x (seconds es)
in_seconds x p [] i = i
in_seconds x p ((q, y) ∷ es) i = go (eqb q p) i (in_seconds x p es)
  where
    go : (b : Bool) → In x (cond b (y ∷ by p es) (by p es)) → (In x (by p es) → In x (seconds es)) → In x (y ∷ seconds es)
    go true (inl e) r = inl e
    go true (inr i) r = inr (r i)
    go false i r = inr (r i)

module _ {E : Type 0} where
  abbrev pub taken_as : E → QueueAnswered E
  taken_as e = (queue.take, Some e)

  -- what is published is taken
  pub drained_taken : (q : List E) (cs : List (QueueAnswered E)) → IsDrained q cs → (e : E) → In e q ⊎ In (queue.publish e, None) cs
      → In (queue.take, Some e) cs
  drained_taken q [] l e (inl i) = subst (In e) l i
  drained_taken q [] l e (inr i) = elim i [ ]
  drained_taken q ((queue.publish d, r) ∷ cs) l e (inl i) = inr (drained_taken (q ++ d ∷ []) cs l e (inl (in_left q (d ∷ []) e i)))
  drained_taken q ((queue.publish d, r) ∷ cs) l e (inr (inl s)) = let same : e ≡ d = cc (call_same s) in
      inr (drained_taken (q ++ d ∷ []) cs l e (inl (in_right q (d ∷ []) e (inl same))))
  drained_taken q ((queue.publish d, r) ∷ cs) l e (inr (inr i)) = inr (drained_taken (q ++ d ∷ []) cs l e (inr i))
  drained_taken q ((queue.redeliver d, r) ∷ cs) l e (inl i) = inr (drained_taken (q ++ d ∷ []) cs l e (inl (in_left q (d ∷ []) e i)))
  drained_taken q ((queue.redeliver d, r) ∷ cs) l e (inr (inl s)) = absurd (cc (call_same s))
  drained_taken q ((queue.redeliver d, r) ∷ cs) l e (inr (inr i)) = inr (drained_taken (q ++ d ∷ []) cs l e (inr i))
  drained_taken q ((queue.take, Some d) ∷ cs) (rest, same, l) e (inl i) = go (subst (In e) same i) (λ j. drained_taken rest cs l e (inl j))
    where
      go : In e (d ∷ rest) → (In e rest → In (queue.take, Some e) cs) → In (queue.take, Some e) ((queue.take, Some d) ∷ cs)
      go (inl s) r = inl (ap (λ u. (queue.take, Some u)) s)
      go (inr j) r = inr (r j)
  drained_taken q ((queue.take, Some d) ∷ cs) (rest, same, l) e (inr (inl s)) = absurd (cc (call_same s))
  drained_taken q ((queue.take, Some d) ∷ cs) (rest, same, l) e (inr (inr i)) = inr (drained_taken rest cs l e (inr i))
  drained_taken q (c ∷ cs) l e i = elim l [ ]

  abbrev taken_one : E → ℕ
  taken_one e = takes_one (queue.take, Some e)

  in_counts : (e : E) (ts : List E) → In e ts → 1 ≤ total taken_one ts
  in_counts e [] i = elim i [ ]
  in_counts e (d ∷ ts) i = omega arith

  -- where as many are taken in the core run as in the list, each take in the list is in the core run
  pub used : {ts : List E} {cs ls : List (QueueAnswered E)} → FollowsCore ts cs ls → total takes_one cs ≡ total taken_one ts + total takes_one ls → (e : E) →
      In e ts ⊎ In (queue.take, Some e) ls → In (queue.take, Some e) cs
  used (follows_all {ts = ts}) n e (inl i) = let c = in_counts e ts i in absurd (omega arith)
  used follows_all n e (inr i) = elim i [ ]
  used (follows_publish f) n e (inl i) = inr (used f (omega arith) e (inl i))
  used (follows_publish f) n e (inr (inl s)) = absurd (cc (call_same s))
  used (follows_publish f) n e (inr (inr i)) = inr (used f (omega arith) e (inr i))
  used (follows_list_take {ts = ts} {t = t} f) n e (inl i) = used f (omega (arith, total-append taken_one ts (t ∷ []))) e (inl (in_left ts (t ∷ []) e i))
  used (follows_list_take {ts = ts} {t = t} f) n e (inr (inl s)) = let same : e ≡ t = cc (reply_same s) in
      used f (omega (arith, total-append taken_one ts (t ∷ []))) e (inl (in_right ts (t ∷ []) e (inl same)))
  used (follows_list_take {ts = ts} {t = t} f) n e (inr (inr i)) = used f (omega (arith, total-append taken_one ts (t ∷ []))) e (inr i)
  used (follows_again f) n e (inl i) = used f (omega arith) e (inl i)
  used (follows_again f) n e (inr (inl s)) = absurd (cc (call_same s))
  used (follows_again f) n e (inr (inr i)) = used f (omega arith) e (inr i)
  used (follows_core_take f) n e (inl (inl s)) = inl (ap taken_as s)
  used (follows_core_take f) n e (inl (inr i)) = inr (used f (omega arith) e (inl i))
  used (follows_core_take f) n e (inr i) = inr (used f (omega arith) e (inr i))

  -- what the core run calls is in the list
  pub follows_in : {ts : List E} {cs ls : List (QueueAnswered E)} → FollowsCore ts cs ls → (c : QueueAnswered E) → In c cs → In c ls ⊎ In c (map taken_as ts)
  follows_in follows_all c i = elim i [ ]
  follows_in (follows_publish f) c (inl s) = inl (inl s)
  follows_in (follows_publish f) c (inr i) = ⊎_elim (λ a. inl (inr a)) (λ b. inr b) (follows_in f c i)
  follows_in (follows_list_take {ts = ts} {t = t} f) c i =
      ⊎_elim (λ a. inl (inr a)) (λ b. ⊎_elim (λ s. inl (inl s)) (λ z. inr z) (mapped ts t c b)) (follows_in f c i)
    where
      mapped : (ts : List E) (t : E) (c : QueueAnswered E) → In c (map taken_as (ts ++ t ∷ [])) → (c ≡ (queue.take, Some t)) ⊎ In c (map taken_as ts)
      mapped [] t c (inl s) = inl s
      mapped [] t c (inr z) = elim z [ ]
      mapped (u ∷ ts) t c (inl s) = inr (inl s)
      mapped (u ∷ ts) t c (inr z) = ⊎_elim (λ a. inl a) (λ b. inr (inr b)) (mapped ts t c z)
  follows_in (follows_again f) c i = ⊎_elim (λ a. inl (inr a)) (λ b. inr b) (follows_in f c i)
  follows_in (follows_core_take f) c (inl s) = inr (inl s)
  follows_in (follows_core_take f) c (inr i) = ⊎_elim (λ a. inl a) (λ b. inr (inr b)) (follows_in f c i)

  published_none : (es : List E) (t : E) → In (queue.take, Some t) (published_all es) → ⊥
  published_none [] t i = i
  published_none (d ∷ es) t (inl s) = absurd (cc (call_same s))
  published_none (d ∷ es) t (inr i) = published_none es t i

pub in_published : {M E : Type 0} (f : M → E) (ms : List M) (m : M) → In m ms → In (queue.publish (f m), None) (published_all (map f ms))
in_published f [] m i = elim i [ ]
in_published f (n ∷ ms) m (inl s) = inl (ap (λ u. (queue.publish (f u), None)) s)
in_published f (n ∷ ms) m (inr i) = inr (in_published f ms m i)

-- what is stored was stored first by some call, or before
pub stored_first : (t : ℕ) (o : Outcome) (b : Stored) (os : List (ℕ × Outcome)) (ps : List (ℕ × ℕ)) (cs : List TableAnswered) → IsTable os ps cs
    → look_up t os ≡ None → In (table.store t o, table.was b) cs → (q : Outcome) × In (table.store t q, table.was First) cs
stored_first t o b os ps [] l e i = elim i [ ]
stored_first t o b os ps ((table.part g m, table.count n) ∷ cs) l e (inl s) = absurd (cc (call_same s))
stored_first t o b os ps ((table.part g m, table.count n) ∷ cs) l e (inr i) = let r = stored_first t o b os ((g, m) ∷ ps) cs l.2 e i in (r.0, inr r.1)
stored_first t o b os ps ((table.read u, table.found x) ∷ cs) l e (inl s) = absurd (cc (call_same s))
stored_first t o b os ps ((table.read u, table.found x) ∷ cs) l e (inr i) = let r = stored_first t o b os ps cs l.1 e i in (r.0, inr r.1)
stored_first t o b os ps ((table.store u x, table.was Again) ∷ cs) l e (inl s) =
    absurd (not_false (subst (λ y. FirstWins y Again) (subst (λ v. look_up v os ≡ None) same e) l.0))
  where
    same : t ≡ u
    same = cc (call_same s)

    not_false : Again ≡ First → ⊥
    not_false h = cc
stored_first t o b os ps ((table.store u x, table.was Again) ∷ cs) l e (inr i) = let r = stored_first t o b os ps cs l.1 e i in (r.0, inr r.1)
stored_first t o b os ps ((table.store u x, table.was First) ∷ cs) l e (inl s) = let same : t ≡ u = cc (call_same s) in
    (x, inl (ap (λ v. (table.store v x, table.was First)) same))
stored_first t o b os ps ((table.store u x, table.was First) ∷ cs) l e (inr i) = go (eqb u t) refl
    (λ d. stored_first t o b ((u, x) ∷ os) ps cs l.1 (ap (λ z. cond z (Some x) (look_up t os)) d ∙ e) i)
  where
    go : (d : Bool) → eqb u t ≡ d → (eqb u t ≡ false → (q : Outcome) × In (table.store t q, table.was First) cs) → (q : Outcome)
        × In (table.store t q, table.was First) ((table.store u x, table.was First) ∷ cs)
    go true d k = (x, inl (ap (λ v. (table.store v x, table.was First)) (sym (eqb-true u t d))))
    go false d k = let r = k d in (r.0, inr r.1)
stored_first t o b os ps (c ∷ cs) l e i = elim l [ ]

module _ {E : Type 0} (X : Protocol E) (F : Form X) (Does : Event → JobOf X → Type 0) (order : Ordered X F) (value : Evaluates X Does F) (once : Once X Does F)
    (keeping : KeptOnce X Does F) (backs : Backs X F) (run : Run X F) where
  caller_known : (p : ℕ) → Known F.members [] (by p run.backend)
  caller_known p = subst (Known F.members []) (sym (run.keeps p))
      (known X F Does order value backs taking (run.core p) [] (cond (eqb p 0) run.closing []) (only (eqb p 0)) tt tt (run.is_core p)
      (answers_right X F Does order value run p))
    where
      only : (b : Bool) → Each IsRead (cond b run.closing [])
      only true = run.closes
      only false = tt

  member_parts : Each (MemberPart F.members) (seconds run.backend)
  member_parts = each_from_by (MemberPart F.members) run.backend (λ p. known_members F.members [] (by p run.backend) (caller_known p))

  caller_sound : (p : ℕ) → Sound F.members [] (backend_calls (run.core p))
  caller_sound p = sound_left F.members [] (backend_calls (run.core p)) (cond (eqb p 0) run.closing [])
      (subst (Sound F.members []) (run.keeps p) (sound F.members run.backend [] [] run.table (λ g. (tt, tt)) (λ q. ([], tt, caller_known q)) p [] tt))

  abbrev AllFirst : TableAnswered → Type 0
  AllFirst = IsFirst X F Does order value backs

  caller_firsts : (p : ℕ) → Each AllFirst (backend_calls (run.core p))
  caller_firsts p = each_left AllFirst (backend_calls (run.core p)) (cond (eqb p 0) run.closing [])
      (subst (Each AllFirst) (run.keeps p)
      (each_by AllFirst p run.backend (each_weaker same (seconds run.backend) (all_skipped_first X F Does order value once keeping run))))
    where
      same : (c : TableAnswered) → FirstWhereSkipped X F Does order value once keeping run c → AllFirst c
      same (table.store t o, table.was b) a = a
      same c a = tt

  abbrev opening_calls : ℕ → List (QueueAnswered E)
  opening_calls p = cond (eqb p 0) (published_all (map X.sealed run.opening)) []

  in_list : (p : ℕ) (c : QueueAnswered E) → In c (opening_calls p ++ broker_calls (run.core p)) → In c (seconds run.broker)
  in_list p c i = ⊎_elim (λ a. in_seconds c p run.broker a) (λ z. elim z [ ]) (follows_in (run.follows p) c i)

  module _ (all_sent : run.unsent ≡ []) (drained : IsDrained [] (seconds run.broker))
      (all_used : (c : ℕ) → total takes_one (by c run.broker) ≡ total takes_one (broker_calls (run.core c)))
      (all_ended : (c : ℕ) → Between (left_after X taking (run.core c))) where
    abbrev pub IsDone : JobOf X → Type 0
    IsDone j = Done X F Does order value backs (seconds run.broker) (seconds run.backend) j

    zero_opening : (b : Bool) → total takes_one (cond b (published_all (map X.sealed run.opening)) []) ≡ 0
    zero_opening true = published_takes (map X.sealed run.opening)
    zero_opening false = refl

    left_of : (p : ℕ) → Left X F Does order value backs (seconds run.broker) (seconds run.backend) taking
    left_of p = record {
      calls = run.core p;
      known = [];
      good = tt;
      ready = tt;
      core = run.is_core p;
      answers = answers_right X F Does order value run p;
      sound = caller_sound p;
      firsts = caller_firsts p;
      in_broker = λ c i. in_list p c (in_right (opening_calls p) (broker_calls (run.core p)) c i);
      in_backend = λ c i. in_seconds c p run.backend
          (subst (In c) (sym (run.keeps p)) (in_left (backend_calls (run.core p)) (cond (eqb p 0) run.closing []) c i));
      ends = all_ended p;
    }

    -- the first messages are published
    pub first_done : (m : X.Message) → In m F.first → IsDone (publish m)
    first_done m i =
        let opened : F.first ≡ run.opening = run.opens ∙ (ap (λ l. run.opening ++ l) all_sent ∙ append-nil run.opening) in (
          in_each F.Formed F.first order.first m i,
          in_each X.Back run.opening run.opens_back m (subst (In m) opened i),
          in_list 0 (queue.publish (X.sealed m), None)
              (in_left (published_all (map X.sealed run.opening)) (broker_calls (run.core 0)) (queue.publish (X.sealed m), None)
              (in_published X.sealed run.opening m (subst (In m) opened i))),
        )

    -- a message published is stored, First or Again
    published_kept : (m : X.Message) → IsDone (publish m) → (b : Stored) × In (table.store (X.no m) (X.outcome m), table.was b) (seconds run.backend)
    unfolding left_of
    published_kept m (formed, back, i) =
        let all : In (queue.take, Some (X.sealed m)) (seconds run.broker) = drained_taken [] (seconds run.broker) drained (X.sealed m) (inr i) in
        let caller = in_by_caller (queue.take, Some (X.sealed m)) run.broker all in
        let p : ℕ = caller.0 in
        let mine : In (queue.take, Some (X.sealed m)) (opening_calls p ++ broker_calls (run.core p)) =
        used (run.follows p) (omega (arith, total-append takes_one (opening_calls p) (broker_calls (run.core p)), zero_opening (eqb p 0), all_used p))
        (X.sealed m) (inr caller.1) in
        script_done X F Does order value backs (seconds run.broker) (seconds run.backend) taking (left_of p) (X.sealed m) m
        (⊎_elim (λ a. absurd (none (eqb p 0) a)) (λ b. b) (in_append_cases (opening_calls p) (broker_calls (run.core p)) (queue.take, Some (X.sealed m)) mine))
        (order.opened m formed back)
      where
        none : (b : Bool) → In (queue.take, Some (X.sealed m)) (cond b (published_all (map X.sealed run.opening)) []) → ⊥
        none true i = published_none (map X.sealed run.opening) (X.sealed m) i
        none false i = i

    -- by the caller whose store was the first the script is done, or the store is an event's
    first_by : (t : ℕ) (o : Outcome) → In (table.store t o, table.was First) (seconds run.backend)
        → FirstOwed X F Does order value backs (seconds run.broker) (seconds run.backend) t o
    unfolding left_of
    first_by t o i =
        let caller = in_by_caller (table.store t o, table.was First) run.backend i in
        let p : ℕ = caller.0 in
        let mine : In (table.store t o, table.was First) (backend_calls (run.core p) ++ cond (eqb p 0) run.closing []) =
        subst (In (table.store t o, table.was First)) (run.keeps p) caller.1 in
        first_owed X F Does order value backs (seconds run.broker) (seconds run.backend) taking (left_of p) t o
        (⊎_elim (λ a. a) (λ b. absurd (only (eqb p 0) b))
        (in_append_cases (backend_calls (run.core p)) (cond (eqb p 0) run.closing []) (table.store t o, table.was First) mine))
      where
        no_read : (cs : List TableAnswered) → Each IsRead cs → In (table.store t o, table.was First) cs → ⊥
        no_read cs r i = in_each IsRead cs r (table.store t o, table.was First) i

        only : (b : Bool) → In (table.store t o, table.was First) (cond b run.closing []) → ⊥
        only true i = no_read run.closing run.closes i
        only false i = i

    -- the script of a message published is done
    pub published_done : (m : X.Message) → IsDone (publish m) → IsDone (store (X.no m) (X.outcome m)) × Each IsDone (X.ended m (X.outcome m))
    published_done m d =
        let kept = published_kept m d in
        let first = stored_first (X.no m) (X.outcome m) kept.0 [] [] (seconds run.backend) run.table refl kept.1 in
        ⊎_elim
        (λ z. whole first.0 first.1 z.0 z.1 z.2 z.3 z.4)
        (λ s. absurd (not_own s.0 s.1 (keeping.event s.0 (running (X.no m)) (X.no m) first.0 (X.outcome m) s.2 (value.own m runs))))
        (first_by (X.no m) first.0 first.1)
      where
        sent : IsRunSealed X F Does order value run (X.sealed m)
        sent = in_each (GoodPublish (IsRunSealed X F Does order value run)) (seconds run.broker)
            (each_seconds (GoodPublish (IsRunSealed X F Does order value run)) run.broker (publishes_right X F Does order value run))
            (queue.publish (X.sealed m), None) d.2

        some_same : (a b : X.Message) → Some a ≡ Some b → a ≡ b
        some_same a b e = cc

        same : sent.0 ≡ m
        same = some_same sent.0 m (sym (order.opened sent.0 sent.3 sent.2) ∙ (ap X.opened (sym sent.1) ∙ order.opened m d.0 d.1))

        runs : IsRun X Does m
        runs = subst (IsRun X Does) same sent.4

        not_own : (e : Event) → RunsNone e → e ≡ running (X.no m) → ⊥
        not_own e n q = subst RunsNone q n

        whole : (q : Outcome) → In (table.store (X.no m) q, table.was First) (seconds run.backend) → (n : X.Message) → X.no m ≡ X.no n → q ≡ X.outcome n
            → IsRun X Does n
            → Each IsDone (X.ended n (X.outcome n)) → IsDone (store (X.no m) (X.outcome m)) × Each IsDone (X.ended m (X.outcome m))
        whole q i n number out r all =
            let one : n ≡ m = once.message r.0 runs.0 n m r.1 runs.1 (sym number) in (
              subst (λ o. In (table.store (X.no m) o, table.was First) (seconds run.backend)) (out ∙ ap X.outcome one) i,
              subst (λ u. Each IsDone (X.ended u (X.outcome u))) one all,
            )

    -- a header whose members are all handed in is completed
    pub header_done : (g k : ℕ) (c : X.Carried) → Distinct (F.members g) → length (F.members g) ≡ suc k → Each (λ t. IsDone (job.part g t c)) (F.members g) →
        (fs : List (ℕ × Outcome)) × (firsts fs ≡ F.members g) × Each (λ f. Has X Does f.0 f.1) fs × Each IsDone (X.completed c fs)
    header_done g k c d l all =
        let last : (t : ℕ) × In (table.part g t, table.count k) (seconds run.backend) =
        last_part g k (F.members g) [] [] (seconds run.backend) run.table d l (omega arith) (each_weaker (λ m h. inr (h.0, h.1)) (F.members g) all) in
        let member : In last.0 (F.members g) =
        in_each (MemberPart F.members) (seconds run.backend) member_parts (table.part g last.0, table.count k) last.1 in
        let part = in_each (λ t. IsDone (job.part g t c)) (F.members g) all last.0 member in
        let count : part.0 ≡ k = one_reply g last.0 part.0 k [] [] (seconds run.backend) run.table part.1 last.1 in
        let full : eqb (suc part.0) (X.size c) ≡ true = eq-eqb (suc part.0) (X.size c) (ap suc count ∙ sym (order.size g last.0 c part.2 ∙ l)) in
        let done : Owed X F Does order value backs (seconds run.broker) (seconds run.backend) (part_counted X g c part.0) =
        owed X F Does order value backs (seconds run.broker) (seconds run.backend) (part_counted X g c part.0) part.3 in
        next_owed X F Does order value backs (seconds run.broker) (seconds run.backend) g c []
        (subst (λ b. Owed X F Does order value backs (seconds run.broker) (seconds run.backend) (cond b (reads_next X g c []) acking)) full done)
