-- Legal histories of the broker and of the backend are lists of calls of a queue and of a table.
use Rattle.std.proofs.Common.{⊎_elim, ◌≡◌, ◌⊎◌, ℕ, suc, ◌+◌, ◌<◌, ◌≤◌, Bool, true, false, cond, eqb, List, [], ◌∷◌, ◌++◌, Option, Some, None, refl, sym, ap, subst, ◌∙◌, inl, inr, arith}
use Rattle.std.specs.Prelude.{◌==◌, ◌≢◌, if◌then◌else◌, count_by}
use Rattle.std.proofs.lemmas.Bool.{eqb-true, eqb-false, eq-eqb, ne_eqb, cases_Bool}
use Rattle.std.proofs.lemmas.List.Sums.{sum_by-cons}
use Rattle.canvas_task.specs.declared.outcome.Outcome.{Outcome}
use Rattle.canvas_history.specs.History.{Entry, split, join, calls, LegalFrom, replay, state_from, state_after}
use Rattle.canvas_history.proofs.Histories.{state_append}
use Rattle.canvas_semantics.specs.Line.{Line, members}
use Rattle.canvas_rewrite.specs.Planned.{Apart, times}
use Rattle.canvas_history.specs.Lists.{In, Each, total, seconds}
use Rattle.canvas_history.specs.declared.stored.Stored.{Stored}
use Rattle.canvas_history.specs.declared.stored.Stored.TheVariants.{First, Again}
use Rattle.canvas_history.specs.Table.{Log, TableCall, TableReply, Results, no_results, store, part, read, was, count, found, first_or, kept_or, next_of, count_of, reply_of, May as MayCall}
use Rattle.canvas_history.specs.Roster.{roster_of}
use Rattle.canvas_history.proofs.TableLaws.{member_test}
use Rattle.canvas_history.specs.Queue.{QueueEntry as Entries, publish, take, redeliver, answer_of, next, HasTaken, May}
use Rattle.canvas_history.specs.Answers.{answered_calls}
use Rattle.canvas_runs.proofs.Objects.Replay.{IsQueue, IsDrained, IsTable, FirstWins, handed, look_up}
use Rattle.canvas_runs.specs.Calls.{TableAnswered}
use Rattle.canvas_runs.specs.Logs.{queue_calls}
use Rattle.canvas_runs.proofs.Lists.Words.{each_weaker, in_append_cases}

-- ---- the broker

module _ {E : Type 0} where
  abbrev pub held : List (Entries E) → List E
  held log = replay [] answer_of next May log

  after_one : (before : List (Entries E)) (e : Entries E) (q : List E) → held before ≡ q → held (before ++ e ∷ []) ≡ state_after [] answer_of next May q e
  after_one before e q h = state_append [] answer_of next May [] before (e ∷ []) ∙ ap (λ s. state_after [] answer_of next May s e) h

  abbrev pub Legally : List (Entries E) → List (Entries E) → Type 0
  Legally before es = LegalFrom [] answer_of next May before es

  no_answer : (e : E) → ◌≡◌ {A = Option E} None (Some e) → ⊥
  no_answer e s = cc

  same_some : (d e : E) → ◌≡◌ {A = Option E} (Some d) (Some e) → d ≡ e
  same_some d e s = cc

  -- all that was taken before is among these
  abbrev pub TakenIn : List (Entries E) → List E → Type 0
  TakenIn before ts = (c : ℕ) (e : E) → In (calls c take (Some e)) before → In e ts

  taken_more : (before : List (Entries E)) (x : Entries E) (ts : List E) → TakenIn before ts → ((c : ℕ) (e : E) → calls c take (Some e) ≡ x → In e ts)
      → TakenIn (before ++ x ∷ []) ts
  taken_more before x ts t f c e i =
      ⊎_elim (λ a. t c e a) (λ b. ⊎_elim (λ s. f c e s) (λ z. absurd z) b) (in_append_cases before (x ∷ []) (calls c take (Some e)) i)

  taken_next : (before : List (Entries E)) (p : ℕ) (d : E) (ts : List E) → TakenIn before ts → TakenIn (before ++ calls p take (Some d) ∷ []) (d ∷ ts)
  taken_next before p d ts t = taken_more before (calls p take (Some d)) (d ∷ ts) (λ c e i. inr (t c e i)) (λ c e s. let same : e ≡ d = cc in inl same)

  pub queue_is : (before es : List (Entries E)) (ts q : List E) → held before ≡ q → TakenIn before ts → Legally before es
      → IsQueue ts q (seconds (queue_calls es))
  queue_is before [] ts q h t l = tt
  queue_is before (split p r ∷ es) ts q h t l =
      queue_is (before ++ split p r ∷ []) es ts q (after_one before (split p r) q h) (taken_more before (split p r) ts t (λ c e s. absurd (cc))) l.1
  queue_is before (join p r ∷ es) ts q h t l =
      queue_is (before ++ join p r ∷ []) es ts q (after_one before (join p r) q h) (taken_more before (join p r) ts t (λ c e s. absurd (cc))) l.1
  queue_is before (calls p (publish d) r ∷ es) ts q h t l =
      queue_is (before ++ calls p (publish d) r ∷ []) es ts (q ++ d ∷ []) (after_one before (calls p (publish d) r) q h)
      (taken_more before (calls p (publish d) r) ts t (λ c e s. absurd (cc))) l.1
  queue_is before (calls p (redeliver d) r ∷ es) ts q h t l =
      let may : HasTaken before p d = l.0.2 in (
        t may.0 d may.1,
        queue_is (before ++ calls p (redeliver d) r ∷ []) es ts (q ++ d ∷ []) (after_one before (calls p (redeliver d) r) q h)
            (taken_more before (calls p (redeliver d) r) ts t (λ c e s. absurd (cc))) l.1,
      )
  queue_is before (calls p take None ∷ es) ts [] h t l =
      queue_is (before ++ calls p take None ∷ []) es ts [] (after_one before (calls p take None) [] h)
      (taken_more before (calls p take None) ts t (λ c e s. absurd (cc))) l.1
  queue_is before (calls p take None ∷ es) ts (x ∷ q) h t l = absurd (no_answer x (l.0.1 ∙ ap (λ s. answer_of s take) h))
  queue_is before (calls p take (Some e) ∷ es) ts [] h t l = absurd (no_answer e (sym (l.0.1 ∙ ap (λ s. answer_of s take) h)))
  queue_is before (calls p take (Some e) ∷ es) ts (x ∷ q) h t l =
      let same : e ≡ x = same_some e x (l.0.1 ∙ ap (λ s. answer_of s take) h) in (
        q,
        ap (λ y. y ∷ q) (sym same),
        queue_is (before ++ calls p take (Some e) ∷ []) es (e ∷ ts) q (after_one before (calls p take (Some e)) (x ∷ q) h)
            (taken_next before p e ts t) l.1,
      )

  pub drained_is : (before es : List (Entries E)) (q : List E) → held before ≡ q → Legally before es → state_from [] answer_of next May q es ≡ []
      → IsDrained q (seconds (queue_calls es))
  drained_is before [] q h l d = d
  drained_is before (split p r ∷ es) q h l d = drained_is (before ++ split p r ∷ []) es q (after_one before (split p r) q h) l.1 d
  drained_is before (join p r ∷ es) q h l d = drained_is (before ++ join p r ∷ []) es q (after_one before (join p r) q h) l.1 d
  drained_is before (calls p (publish e) r ∷ es) q h l d =
      drained_is (before ++ calls p (publish e) r ∷ []) es (q ++ e ∷ []) (after_one before (calls p (publish e) r) q h) l.1 d
  drained_is before (calls p (redeliver e) r ∷ es) q h l d =
      drained_is (before ++ calls p (redeliver e) r ∷ []) es (q ++ e ∷ []) (after_one before (calls p (redeliver e) r) q h) l.1 d
  drained_is before (calls p take None ∷ es) [] h l d = drained_is (before ++ calls p take None ∷ []) es [] (after_one before (calls p take None) [] h) l.1 d
  drained_is before (calls p take None ∷ es) (x ∷ q) h l d = absurd (no_answer x (l.0.1 ∙ ap (λ s. answer_of s take) h))
  drained_is before (calls p take (Some e) ∷ es) [] h l d = absurd (no_answer e (sym (l.0.1 ∙ ap (λ s. answer_of s take) h)))
  drained_is before (calls p take (Some e) ∷ es) (x ∷ q) h l d =
      let same : e ≡ x = same_some e x (l.0.1 ∙ ap (λ s. answer_of s take) h) in
      (q, ap (λ y. y ∷ q) (sym same), drained_is (before ++ calls p take (Some e) ∷ []) es q (after_one before (calls p take (Some e)) (x ∷ q) h) l.1 d)

-- ---- counts

add_both : {a b c d : ℕ} → a ≡ b → c ≡ d → a + c ≡ b + d
add_both e f = omega (arith, e, f)

-- one more that passes
more_pass : (r : ℕ → Bool) (m : ℕ) (ns : List ℕ) → r m ≡ false → count_by (λ x. if x == m then true else r x) ns ≡ count_by r ns + count_by (λ x. x == m) ns
more_pass r m [] h = refl
more_pass r m (n ∷ ns) h =
    let all = sum_by-cons (λ x. cond (if x == m then true else r x) 1 0) n ns in
    let some = sum_by-cons (λ x. cond (r x) 1 0) n ns in
    let here = sum_by-cons (λ x. cond (x == m) 1 0) n ns in
    all ∙ (go (n == m) refl (more_pass r m ns h) ∙ sym (add_both some here))
  where
    go : (b : Bool) → (n == m) ≡ b → count_by (λ x. if x == m then true else r x) ns ≡ count_by r ns + count_by (λ x. x == m) ns
        → ◌≡◌ {A = ℕ} (cond (if b then true else r n) 1 0 + count_by (λ x. if x == m then true else r x) ns)
        ((cond (r n) 1 0 + count_by r ns) + (cond b 1 0 + count_by (λ x. x == m) ns))
    go true e k = let none : r n ≡ false = ap r (eqb-true n m e) ∙ h in let zero : ◌≡◌ {A = ℕ} (cond (r n) 1 0) 0 = ap (λ c. cond c 1 0) none in
        omega (arith, k, zero)
    go false e k = omega (arith, k)

-- ---- the backend

module _ (l : Line) (plan_apart : Apart l) where
  abbrev pub table_of : Log → Results
  table_of log = replay no_results (reply_of (roster_of l)) next_of (MayCall (roster_of l)) log

  abbrev pub Rightly : Log → Log → Type 0
  Rightly before es = LegalFrom no_results (reply_of (roster_of l)) next_of (MayCall (roster_of l)) before es

  abbrev pub after_all : Results → Log → Results
  after_all s es = state_from no_results (reply_of (roster_of l)) next_of (MayCall (roster_of l)) s es

  after_call : (before : Log) (e : Entry TableCall TableReply) (s : Results) → table_of before ≡ s
      → table_of (before ++ e ∷ []) ≡ state_after no_results (reply_of (roster_of l)) next_of (MayCall (roster_of l)) s e
  after_call before e s h = state_append no_results (reply_of (roster_of l)) next_of (MayCall (roster_of l)) no_results before (e ∷ [])
      ∙ ap (λ s. state_after no_results (reply_of (roster_of l)) next_of (MayCall (roster_of l)) s e) h

  pub record Shows (s : Results) (os : List (ℕ × Outcome)) (ps : List (ℕ × ℕ)) : Type 0 where
    pub outcomes : (t : ℕ) → s.outcomes t ≡ look_up t os
    pub counts : (g : ℕ) → count_of (roster_of l) s g ≡ handed g ps
    pub there : (g m : ℕ) → In (g, m) ps → s.returned m ≡ true

  -- ---- a store

  was_same : (a b : _) → ◌≡◌ {A = TableReply} (was a) (was b) → a ≡ b
  was_same a b e = cc

  wins_first : (o : Option Outcome) → First ≡ first_or o → FirstWins o First
  wins_first None e = refl
  wins_first (Some o) e = absurd (cc)

  wins_again : (o : Option Outcome) → Again ≡ first_or o → FirstWins o Again
  wins_again None e = absurd (cc)
  wins_again (Some o) e = refl

  new_first : (s : Results) (t : ℕ) (o : Outcome) (os : List (ℕ × Outcome)) → ((x : ℕ) → s.outcomes x ≡ look_up x os) → FirstWins (look_up t os) First → (x : ℕ)
      → (next_of s (store t o)).outcomes x ≡ look_up x ((t, o) ∷ os)
  new_first s t o os h w x = go (x == t) refl
    where
      empty : (y : Option Outcome) → FirstWins y First → y ≡ None
      empty None w = refl
      empty (Some q) w = absurd (cc)

      go : (b : Bool) → (x == t) ≡ b → (if b then kept_or (s.outcomes x) o else s.outcomes x) ≡ cond (eqb t x) (Some o) (look_up x os)
      go true e =
          let same : x ≡ t = eqb-true x t e in
          let none : s.outcomes x ≡ None = h x ∙ (ap (λ y. look_up y os) same ∙ empty (look_up t os) w) in
          ap (λ y. kept_or y o) none ∙ sym (ap (λ b. cond b (Some o) (look_up x os)) (eq-eqb t x (sym same)))
      go false e = h x ∙ sym (ap (λ b. cond b (Some o) (look_up x os)) (ne_eqb t x (λ q. eqb-false x t e (sym q))))

  new_again : (s : Results) (t : ℕ) (o : Outcome) (os : List (ℕ × Outcome)) → ((x : ℕ) → s.outcomes x ≡ look_up x os) → FirstWins (look_up t os) Again → (x : ℕ)
      → (next_of s (store t o)).outcomes x ≡ look_up x os
  new_again s t o os h w x = go (x == t) refl
    where
      full : (y : Option Outcome) → FirstWins y Again → kept_or y o ≡ y
      full None w = absurd (cc)
      full (Some q) w = refl

      go : (b : Bool) → (x == t) ≡ b → (if b then kept_or (s.outcomes x) o else s.outcomes x) ≡ look_up x os
      go true e =
          let same : x ≡ t = eqb-true x t e in
          ap (λ y. kept_or y o) (h x ∙ ap (λ y. look_up y os) same) ∙ (full (look_up t os) w ∙ sym (ap (λ y. look_up y os) same))
      go false e = h x

  -- ---- a part

  counted_same : (n m : ℕ) → ◌≡◌ {A = TableReply} (count n) (count m) → n ≡ m
  counted_same n m e = cc

  true_false : true ≡ false → ⊥
  true_false e = cc

  member_once : (g m h : ℕ) → times l m g ≢ 0 → times l m h ≡ cond (eqb g h) 1 0
  member_once g m h some = go (eqb g h) refl
    where
      there : 0 < times l m g
      there = omega (arith, some)

      go : (b : Bool) → eqb g h ≡ b → times l m h ≡ cond b 1 0
      go true e = subst (λ k. times l m k ≡ 1) (eqb-true g h e) (plan_apart g m there).0
      go false e = elim (cases_zero (times l m h)) [
        | inl z ↦ z
        | inr z ↦ absurd (eqb-false g h e (sym ((plan_apart g m there).1 h z)))
      ]
        where
          cases_zero : (n : ℕ) → (n ≡ 0) ⊎ (0 < n)
          cases_zero n = elim (cases_Bool (n == 0)) [
            | inl e ↦ inl (eqb-true n 0 e)
            | inr e ↦ inr (positive n (eqb-false n 0 e))
          ]
            where
              positive : (n : ℕ) → (n ≡ 0 → ⊥) → 0 < n
              positive n f = omega arith

  new_part : (s : Results) (g m : ℕ) (os : List (ℕ × Outcome)) (ps : List (ℕ × ℕ)) → Shows s os ps → times l m g ≢ 0 → s.returned m ≡ false
      → Shows (next_of s (part g m)) os ((g, m) ∷ ps)
  new_part s g m os ps k some free =
      record {
        outcomes = k.outcomes;
        counts = λ h. more_pass s.returned m (members l h) free ∙ (ap (λ n. count_of (roster_of l) s h + n) (member_once g m h some) ∙ counts h (eqb g h));
        there = λ h n i. there h n i (n == m) refl;
      }
    where
      counts : (h : ℕ) (b : Bool) → count_of (roster_of l) s h + cond b 1 0 ≡ cond b (suc (handed h ps)) (handed h ps)
      counts h true = omega (arith, k.counts h)
      counts h false = omega (arith, k.counts h)

      there : (h n : ℕ) → In (h, n) ((g, m) ∷ ps) → (b : Bool) → (n == m) ≡ b → (if b then true else s.returned n) ≡ true
      there h n i true e = refl
      there h n (inl q) false e = absurd (eqb-false n m e (ap (λ u. u.1) q))
      there h n (inr i) false e = k.there h n i

  -- ---- the whole

  same_read : (x y : Option Outcome) → ◌≡◌ {A = TableReply} (found x) (found y) → x ≡ y
  same_read x y e = cc

  pub table_is : (before es : Log) (s : Results) (os : List (ℕ × Outcome)) (ps : List (ℕ × ℕ)) → table_of before ≡ s → Shows s os ps → Rightly before es
      → IsTable os ps (seconds (answered_calls es))
  table_is before [] s os ps h k r = tt
  table_is before (split p q ∷ es) s os ps h k r = table_is (before ++ split p q ∷ []) es s os ps (after_call before (split p q) s h) k r.1
  table_is before (join p q ∷ es) s os ps h k r = table_is (before ++ join p q ∷ []) es s os ps (after_call before (join p q) s h) k r.1
  table_is before (calls p (store t o) (was First) ∷ es) s os ps h k r =
      let reply : First ≡ first_or (s.outcomes t) = was_same First (first_or (s.outcomes t)) (r.0.1 ∙ ap (λ s. reply_of (roster_of l) s (store t o)) h) in
      let wins : FirstWins (look_up t os) First = wins_first (look_up t os) (reply ∙ ap first_or (k.outcomes t)) in (
        wins,
        table_is (before ++ calls p (store t o) (was First) ∷ []) es (next_of s (store t o)) ((t, o) ∷ os) ps
            (after_call before (calls p (store t o) (was First)) s h)
            (record { outcomes = new_first s t o os k.outcomes wins; counts = k.counts; there = k.there }) r.1,
      )
  table_is before (calls p (store t o) (was Again) ∷ es) s os ps h k r =
      let reply : Again ≡ first_or (s.outcomes t) = was_same Again (first_or (s.outcomes t)) (r.0.1 ∙ ap (λ s. reply_of (roster_of l) s (store t o)) h) in
      let wins : FirstWins (look_up t os) Again = wins_again (look_up t os) (reply ∙ ap first_or (k.outcomes t)) in (
        wins,
        table_is (before ++ calls p (store t o) (was Again) ∷ []) es (next_of s (store t o)) os ps (after_call before (calls p (store t o) (was Again)) s h)
            (record { outcomes = new_again s t o os k.outcomes wins; counts = k.counts; there = k.there }) r.1,
      )
  table_is before (calls p (part g m) (count n) ∷ es) s os ps h k r =
      let reply : n ≡ count_of (roster_of l) s g = counted_same n (count_of (roster_of l) s g) (r.0.1 ∙ ap (λ s. reply_of (roster_of l) s (part g m)) h) in
      let free : s.returned m ≡ false = ap (λ s. s.returned m) (sym h) ∙ r.0.2.3 in (
        reply ∙ k.counts g,
        λ i. true_false (sym (k.there g m i) ∙ free),
        table_is (before ++ calls p (part g m) (count n) ∷ []) es (next_of s (part g m)) os ((g, m) ∷ ps) (after_call before (calls p (part g m) (count n)) s h)
            (new_part s g m os ps k ((member_test m (members l g)).0 r.0.2.1) free) r.1,
      )
  table_is before (calls p (read t) (found x) ∷ es) s os ps h k r = (
    same_read x (s.outcomes t) (r.0.1 ∙ ap (λ s. reply_of (roster_of l) s (read t)) h) ∙ k.outcomes t,
    table_is (before ++ calls p (read t) (found x) ∷ []) es s os ps (after_call before (calls p (read t) (found x)) s h) k r.1,
  )
  table_is before (calls p c a ∷ es) s os ps h k r = absurd (cc_reply (r.0.1))
    where
      cc_reply : a ≡ reply_of (roster_of l) (table_of before) c → ⊥
      cc_reply e = cc

  none_handed : (ns : List ℕ) → count_by no_results.returned ns ≡ 0
  none_handed [] = refl
  none_handed (n ∷ ns) =
      let more : count_by no_results.returned (n ∷ ns) ≡ 0 + count_by no_results.returned ns = sum_by-cons (λ x. cond (no_results.returned x) 1 0) n ns in
      omega (arith, more, none_handed ns)

  pub table_starts : Shows no_results [] []
  table_starts = record { outcomes = λ t. refl; counts = λ g. none_handed (members l g); there = λ g m i. elim i [ ] }

  -- ---- what stays

  pub stays : (t : ℕ) (q : Outcome) (es : Log) (s : Results) → s.outcomes t ≡ Some q → (after_all s es).outcomes t ≡ Some q
  stays t q [] s h = h
  stays t q (split p r ∷ es) s h = stays t q es s h
  stays t q (join p r ∷ es) s h = stays t q es s h
  stays t q (calls p (store u o) a ∷ es) s h = stays t q es (next_of s (store u o)) (go (t == u))
    where
      go : (b : Bool) → (if b then kept_or (s.outcomes t) o else s.outcomes t) ≡ Some q
      go true = ap (λ y. kept_or y o) h
      go false = h
  stays t q (calls p (part g m) a ∷ es) s h = stays t q es (next_of s (part g m)) h
  stays t q (calls p (read u) a ∷ es) s h = stays t q es s h

  just_stored : (t u : ℕ) (w : Outcome) (es : Log) (s : Results) → t ≡ u → (q : Outcome) × ((after_all (next_of s (store u w)) es).outcomes t ≡ Some q)
  just_stored t u w es s same =
      let k = kept (s.outcomes t) in
      (k.0, stays t k.0 es (next_of s (store u w)) (ap (λ b. if b then kept_or (s.outcomes t) w else s.outcomes t) (eq-eqb t u same) ∙ k.1))
    where
      kept : (y : Option Outcome) → (q : Outcome) × (kept_or y w ≡ Some q)
      kept None = (w, refl)
      kept (Some q) = (q, refl)

  -- what was stored has an outcome
  pub stored_stays : (t : ℕ) (o : Outcome) (b : Stored) (es : Log) (s : Results) → In (store t o, was b) (seconds (answered_calls es))
      → (q : Outcome) × ((after_all s es).outcomes t ≡ Some q)
  stored_stays t o b [] s i = elim i [ ]
  stored_stays t o b (split p r ∷ es) s i = stored_stays t o b es s i
  stored_stays t o b (join p r ∷ es) s i = stored_stays t o b es s i
  stored_stays t o b (calls p (store u w) a ∷ es) s (inl e) =
      let call : store t o ≡ store u w = ap (λ (c : TableAnswered). c.0) e in let same : t ≡ u = cc in just_stored t u w es s same
  stored_stays t o b (calls p c a ∷ es) s (inl e) = let call : store t o ≡ c = ap (λ (c : TableAnswered). c.0) e in absurd cc
  stored_stays t o b (calls p c a ∷ es) s (inr i) = stored_stays t o b es (next_of s c) i

  -- and what has an outcome was stored, and answered first
  pub was_stored : (t : ℕ) (o : Outcome) (before es : Log) (s : Results) → table_of before ≡ s → Rightly before es → (after_all s es).outcomes t ≡ Some o
      → (s.outcomes t ≡ Some o) ⊎ In (store t o, was First) (seconds (answered_calls es))
  was_stored t o before [] s h r e = inl e
  was_stored t o before (split p q ∷ es) s h r e = was_stored t o (before ++ split p q ∷ []) es s (after_call before (split p q) s h) r.1 e
  was_stored t o before (join p q ∷ es) s h r e = was_stored t o (before ++ join p q ∷ []) es s (after_call before (join p q) s h) r.1 e
  was_stored t o before (calls p (store u w) (was First) ∷ es) s h r e =
      ⊎_elim (λ k. now (t == u) refl k) (λ i. inr (inr i))
      (was_stored t o (before ++ calls p (store u w) (was First) ∷ []) es (next_of s (store u w))
      (after_call before (calls p (store u w) (was First)) s h) r.1 e)
    where
      empty : (y : Option Outcome) → First ≡ first_or y → kept_or y w ≡ Some o → w ≡ o
      empty None f k = cc
      empty (Some q) f k = absurd (cc)

      reply : First ≡ first_or (s.outcomes u)
      reply = was_same First (first_or (s.outcomes u)) (r.0.1 ∙ ap (λ s. reply_of (roster_of l) s (store u w)) h)

      now : (b : Bool) → (t == u) ≡ b → (if b then kept_or (s.outcomes t) w else s.outcomes t) ≡ Some o
          → (s.outcomes t ≡ Some o) ⊎ In (store t o, was First) ((store u w, was First) ∷ seconds (answered_calls es))
      now true f k =
          let same : t ≡ u = eqb-true t u f in
          let outs : w ≡ o = empty (s.outcomes t) (reply ∙ ap (λ y. first_or (s.outcomes y)) (sym same)) k in
          inr (inl (λ i. (store (same i) (sym outs i), was First)))
      now false f k = inl k
  was_stored t o before (calls p (store u w) (was Again) ∷ es) s h r e =
      ⊎_elim (λ k. now (t == u) refl k) (λ i. inr (inr i))
      (was_stored t o (before ++ calls p (store u w) (was Again) ∷ []) es (next_of s (store u w))
      (after_call before (calls p (store u w) (was Again)) s h) r.1 e)
    where
      full : (y : Option Outcome) → Again ≡ first_or y → kept_or y w ≡ Some o → y ≡ Some o
      full None f k = absurd (cc)
      full (Some q) f k = k

      reply : Again ≡ first_or (s.outcomes u)
      reply = was_same Again (first_or (s.outcomes u)) (r.0.1 ∙ ap (λ s. reply_of (roster_of l) s (store u w)) h)

      now : (b : Bool) → (t == u) ≡ b → (if b then kept_or (s.outcomes t) w else s.outcomes t) ≡ Some o
          → (s.outcomes t ≡ Some o) ⊎ In (store t o, was First) ((store u w, was Again) ∷ seconds (answered_calls es))
      now true f k = inl (full (s.outcomes t) (reply ∙ ap (λ y. first_or (s.outcomes y)) (sym (eqb-true t u f))) k)
      now false f k = inl k
  was_stored t o before (calls p (part g m) (count n) ∷ es) s h r e =
      ⊎_elim (λ k. inl k) (λ i. inr (inr i))
      (was_stored t o (before ++ calls p (part g m) (count n) ∷ []) es (next_of s (part g m)) (after_call before (calls p (part g m) (count n)) s h) r.1 e)
  was_stored t o before (calls p (read u) (found x) ∷ es) s h r e =
      ⊎_elim (λ k. inl k) (λ i. inr (inr i))
      (was_stored t o (before ++ calls p (read u) (found x) ∷ []) es s (after_call before (calls p (read u) (found x)) s h) r.1 e)
  was_stored t o before (calls p c a ∷ es) s h r e = absurd (cc_reply (r.0.1))
    where
      cc_reply : a ≡ reply_of (roster_of l) (table_of before) c → ⊥
      cc_reply e = cc

-- ---- callers have a greatest number

pub callers_below : {A : Type 0} (es : List (ℕ × A)) → Each (λ e. e.0 ≤ total (λ e. e.0) es) es
callers_below [] = tt
callers_below (e ∷ es) = (omega arith, each_weaker (λ x h. omega arith) es (callers_below es))
