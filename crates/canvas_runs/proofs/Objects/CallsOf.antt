-- The calls of a history with their answers, and of the queue's, where takes that found nothing are left aside.
use Rattle.std.proofs.Common.{◌≡◌, ℕ, Bool, true, false, cond, eqb, List, [], ◌∷◌, ◌++◌, ◌==◌, Option, Some, None, refl, sym, ap, ap₂, subst, ◌∙◌, inl, inr, ⊎_elim, arith}
use Rattle.std.specs.Prelude.{filter}
use Rattle.std.proofs.lemmas.Bool.{eqb-true, cases_Bool}
use Rattle.canvas_history.specs.Answers.{answered_calls, entries_by, splits_of, joins_of}
use Rattle.canvas_history.specs.History.{Entry, split, join, calls, by_of, made_by}
use Rattle.canvas_history.proofs.Histories.{made_here, made_off}
use Rattle.canvas_history.specs.Lists.{In, by, total, seconds}
use Rattle.canvas_history.specs.Queue as queue
use Rattle.canvas_runs.specs.Core.{Ask, Reply, to_queue, from_queue}
use Rattle.canvas_runs.specs.Calls.{QueueAnswered, CoreCall, FollowsScripts, scripts_all, scripts_publish, scripts_list_take, scripts_core_take, scripts_again, scripts_ack, broker_call, takes_one}
use Rattle.canvas_runs.specs.Logs.{has_found, queue_calls}
use Rattle.canvas_runs.specs.Run.{published_all}

-- ---- lists with a key

abbrev pub tag : {A : Type 0} → ℕ → List A → List (ℕ × A)
tag p [] = []
tag p (c ∷ cs) = (p, c) ∷ tag p cs

seconds_tag : {A : Type 0} (p : ℕ) (cs : List A) → seconds (tag p cs) ≡ cs
seconds_tag p [] = refl
seconds_tag p (c ∷ cs) = ap (λ l. c ∷ l) (seconds_tag p cs)

pub by_tag : {A : Type 0} (p q : ℕ) (cs : List A) → by q (tag p cs) ≡ cond (eqb p q) cs []
by_tag {A} p q cs = go (eqb p q) refl
  where
    here : (ds : List A) → eqb p q ≡ true → by q (tag p ds) ≡ ds
    here [] e = refl
    here (d ∷ ds) e = ap (λ b. cond b (d ∷ by q (tag p ds)) (by q (tag p ds))) e ∙ ap (λ l. d ∷ l) (here ds e)

    off : (ds : List A) → eqb p q ≡ false → by q (tag p ds) ≡ []
    off [] e = refl
    off (d ∷ ds) e = ap (λ b. cond b (d ∷ by q (tag p ds)) (by q (tag p ds))) e ∙ off ds e

    go : (b : Bool) → eqb p q ≡ b → by q (tag p cs) ≡ cond b cs []
    go true e = here cs e
    go false e = off cs e

pub seconds-append : {A B : Type 0} (xs ys : List (A × B)) → seconds (xs ++ ys) ≡ seconds xs ++ seconds ys
seconds-append [] ys = refl
seconds-append (x ∷ xs) ys = ap (λ l. x.1 ∷ l) (seconds-append xs ys)

pub seconds_in : {A B : Type 0} (es : List (A × B)) (x : A × B) → In x es → In x.1 (seconds es)
seconds_in [] x i = elim i [ ]
seconds_in {A} {B} (y ∷ es) x (inl e) = inl (ap (λ (z : A × B). z.1) e)
seconds_in (y ∷ es) x (inr i) = inr (seconds_in es x i)

module _ {X : Type 0} where
  by_here : (p a : ℕ) (c : X) (es : List (ℕ × X)) → eqb a p ≡ true → by p ((a, c) ∷ es) ≡ c ∷ by p es
  by_here p a c es h = ap (λ b. cond b (c ∷ by p es) (by p es)) h

  by_off : (p a : ℕ) (c : X) (es : List (ℕ × X)) → eqb a p ≡ false → by p ((a, c) ∷ es) ≡ by p es
  by_off p a c es h = ap (λ b. cond b (c ∷ by p es) (by p es)) h

module _ {X : Type 0} (f : X → Bool) where
  abbrev keyed : List (ℕ × X) → List (ℕ × X)
  keyed es = filter (λ x. f x.1) es

  filter_more : (xs ys : List (ℕ × X)) → keyed (xs ++ ys) ≡ keyed xs ++ keyed ys
  filter_more [] ys = refl
  filter_more (x ∷ xs) ys = go (f x.1) (filter_more xs ys)
    where
      go : (b : Bool) → keyed (xs ++ ys) ≡ keyed xs ++ keyed ys
          → cond b (x ∷ keyed (xs ++ ys)) (keyed (xs ++ ys)) ≡ cond b (x ∷ keyed xs) (keyed xs) ++ keyed ys
      go true k = ap (λ l. x ∷ l) k
      go false k = k

  filter_by : (p : ℕ) (es : List (ℕ × X)) → by p (keyed es) ≡ filter f (by p es)
  filter_by p [] = refl
  filter_by p (x ∷ es) = go (f x.1) refl (eqb x.0 p) refl (filter_by p es)
    where
      go : (b : Bool) → f x.1 ≡ b → (d : Bool) → eqb x.0 p ≡ d → by p (keyed es) ≡ filter f (by p es)
          → by p (cond b (x ∷ keyed es) (keyed es)) ≡ filter f (cond d (x.1 ∷ by p es) (by p es))
      go true e true d k = by_here p x.0 x.1 (keyed es) d ∙ (ap (λ l. x.1 ∷ l) k ∙ sym (ap (λ b. cond b (x.1 ∷ filter f (by p es)) (filter f (by p es))) e))
      go true e false d k = by_off p x.0 x.1 (keyed es) d ∙ k
      go false e true d k = k ∙ sym (ap (λ b. cond b (x.1 ∷ filter f (by p es)) (filter f (by p es))) e)
      go false e false d k = k

  filter_tag : (p : ℕ) (cs : List X) → keyed (tag p cs) ≡ tag p (filter f cs)
  filter_tag p [] = refl
  filter_tag p (c ∷ cs) = go (f c) (filter_tag p cs)
    where
      go : (b : Bool) → keyed (tag p cs) ≡ tag p (filter f cs) → cond b ((p, c) ∷ keyed (tag p cs)) (keyed (tag p cs))
          ≡ tag p (cond b (c ∷ filter f cs) (filter f cs))
      go true k = ap (λ l. (p, c) ∷ l) k
      go false k = k

  filter_in : (y : ℕ × X) → f y.1 ≡ true → (es : List (ℕ × X)) → In y es → In y (keyed es)
  filter_in y h [] i = elim i [ ]
  filter_in y h (x ∷ es) (inl e) = subst (λ b. In y (cond b (x ∷ keyed es) (keyed es))) (sym (ap (λ (z : ℕ × X). f z.1) (sym e) ∙ h)) (inl e)
  filter_in y h (x ∷ es) (inr i) = go (f x.1) (filter_in y h es i)
    where
      go : (b : Bool) → In y (keyed es) → In y (cond b (x ∷ keyed es) (keyed es))
      go true k = inr k
      go false k = k

-- ---- of any object

module _ {C R : Type 0} where
  pub calls_append : (xs ys : List (Entry C R)) → answered_calls (xs ++ ys) ≡ answered_calls xs ++ answered_calls ys
  calls_append [] ys = refl
  calls_append (split a b ∷ es) ys = calls_append es ys
  calls_append (join a b ∷ es) ys = calls_append es ys
  calls_append (calls a c r ∷ es) ys = ap (λ l. (a, (c, r)) ∷ l) (calls_append es ys)

  pub calls_splits : (qs : List ℕ) → answered_calls {C = C} {R = R} (splits_of qs) ≡ []
  calls_splits [] = refl
  calls_splits (q ∷ qs) = calls_splits qs

  pub calls_joins : (qs : List ℕ) → answered_calls {C = C} {R = R} (joins_of qs) ≡ []
  calls_joins [] = refl
  calls_joins (q ∷ qs) = calls_joins qs

  pub calls_entries : (p : ℕ) (cs : List (C × R)) → answered_calls (entries_by p cs) ≡ tag p cs
  calls_entries p [] = refl
  calls_entries p (c ∷ cs) = ap (λ l. (p, c) ∷ l) (calls_entries p cs)

  -- an entry that is no call
  aside : (p : ℕ) (e : Entry C R) (es : List (Entry C R)) → ((ys : List (Entry C R)) → answered_calls (e ∷ ys) ≡ answered_calls ys)
      → seconds (answered_calls (made_by p (e ∷ es))) ≡ seconds (answered_calls (made_by p es))
  aside p e es shape =
      ⊎_elim (λ (h : (by_of e == p) ≡ true). ap (λ l. seconds (answered_calls l)) (made_here p e es (eqb-true (by_of e) p h))
      ∙ ap (λ l. seconds l) (shape (made_by p es)))
      (λ (h : (by_of e == p) ≡ false). ap (λ l. seconds (answered_calls l)) (made_off p e es h)) (cases_Bool (by_of e == p))

  -- those of one caller's own entries
  pub calls_by : (p : ℕ) (log : List (Entry C R)) → by p (answered_calls log) ≡ seconds (answered_calls (made_by p log))
  calls_by p [] = refl
  calls_by p (split a b ∷ es) = calls_by p es ∙ sym (aside p (split a b) es (λ _. refl))
  calls_by p (join a b ∷ es) = calls_by p es ∙ sym (aside p (join a b) es (λ _. refl))
  calls_by p (calls a c r ∷ es) =
      ⊎_elim (λ (h : (a == p) ≡ true). by_here p a (c, r) (answered_calls es) h
      ∙ (ap (λ l. (c, r) ∷ l) (calls_by p es) ∙ sym (ap (λ l. seconds (answered_calls l)) (made_here p (calls a c r) es (eqb-true a p h)))))
      (λ (h : (a == p) ≡ false). by_off p a (c, r) (answered_calls es) h
      ∙ (calls_by p es ∙ sym (ap (λ l. seconds (answered_calls l)) (made_off p (calls a c r) es h)))) (cases_Bool (a == p))

  -- calls after entries that are none
  behind : (p : ℕ) (xs : List (Entry C R)) (cs : List (C × R)) → answered_calls xs ≡ [] → answered_calls (xs ++ entries_by p cs) ≡ tag p cs
  behind p xs cs none = calls_append xs (entries_by p cs) ∙ (ap (λ l. l ++ answered_calls (entries_by p cs)) none ∙ calls_entries p cs)

  -- where a caller's own entries are these
  pub own_calls : (p : ℕ) (log xs : List (Entry C R)) (cs : List (C × R)) → answered_calls xs ≡ [] → made_by p log ≡ xs ++ entries_by p cs
      → by p (answered_calls log) ≡ cs
  own_calls p log xs cs none own = calls_by p log
      ∙ (ap (λ l. seconds (answered_calls l)) own ∙ (ap (λ l. seconds l) (behind p xs cs none) ∙ seconds_tag p cs))

  pub own_both : (p : ℕ) (log xs ys : List (Entry C R)) (bs cs : List (C × R)) → answered_calls xs ≡ [] → answered_calls ys ≡ []
      → made_by p log ≡ (xs ++ entries_by p bs) ++ (ys ++ entries_by p cs) → by p (answered_calls log) ≡ bs ++ cs
  own_both p log xs ys bs cs none also own = calls_by p log
      ∙ (ap (λ l. seconds (answered_calls l)) own ∙ (ap (λ l. seconds l) (calls_append (xs ++ entries_by p bs) (ys ++ entries_by p cs)
      ∙ ap₂ (λ k l. k ++ l) (behind p xs bs none) (behind p ys cs also))
      ∙ (seconds-append (tag p bs) (tag p cs) ∙ ap₂ (λ k l. k ++ l) (seconds_tag p bs) (seconds_tag p cs))))

  -- an entry that is a call is among them, and they are entries
  pub call_in : (es : List (Entry C R)) (p : ℕ) (c : C) (r : R) → In (calls p c r) es → In (p, (c, r)) (answered_calls es)
  call_in [] p c r i = elim i [ ]
  call_in (split a b ∷ es) p c r (inl s) = absurd cc
  call_in (split a b ∷ es) p c r (inr i) = call_in es p c r i
  call_in (join a b ∷ es) p c r (inl s) = absurd cc
  call_in (join a b ∷ es) p c r (inr i) = call_in es p c r i
  call_in (calls a d q ∷ es) p c r (inl s) = let who : p ≡ a = cc in let call : c ≡ d = cc in let reply : r ≡ q = cc in
      inl (λ i. (who i, (call i, reply i)))
  call_in (calls a d q ∷ es) p c r (inr i) = inr (call_in es p c r i)

  pub entry_in : (es : List (Entry C R)) (x : ℕ × (C × R)) → In x (answered_calls es) → In (calls x.0 x.1.0 x.1.1) es
  entry_in [] x i = elim i [ ]
  entry_in (split a b ∷ es) x i = inr (entry_in es x i)
  entry_in (join a b ∷ es) x i = inr (entry_in es x i)
  entry_in (calls a d q ∷ es) x (inl s) = inl (ap (λ (y : ℕ × (C × R)). calls y.0 y.1.0 y.1.1) s)
  entry_in (calls a d q ∷ es) x (inr i) = inr (entry_in es x i)

-- ---- of the queue

module _ {E : Type 0} where
  pub queue_append : (xs ys : List (queue.QueueEntry E)) → queue_calls (xs ++ ys) ≡ queue_calls xs ++ queue_calls ys
  queue_append xs ys = ap (filter (λ (x : ℕ × QueueAnswered E). has_found x.1)) (calls_append xs ys)
      ∙ filter_more has_found (answered_calls xs) (answered_calls ys)

  pub queue_splits : (qs : List ℕ) → queue_calls {E = E} (splits_of qs) ≡ []
  queue_splits qs = ap (filter (λ (x : ℕ × QueueAnswered E). has_found x.1)) (calls_splits qs)

  pub queue_entries : (p : ℕ) (cs : List (QueueAnswered E)) → filter has_found cs ≡ cs → queue_calls (entries_by p cs) ≡ tag p cs
  queue_entries p cs e = ap (filter (λ (x : ℕ × QueueAnswered E). has_found x.1)) (calls_entries p cs) ∙ (filter_tag has_found p cs ∙ ap (tag p) e)

  pub queue_call_in : (es : List (queue.QueueEntry E)) (p : ℕ) (c : queue.QueueCall E) (r : Option E) → has_found (c, r) ≡ true → In (calls p c r) es
      → In (p, (c, r)) (queue_calls es)
  queue_call_in es p c r h i = filter_in has_found (p, (c, r)) h (answered_calls es) (call_in es p c r i)

  pub published_found : (es : List E) → filter has_found (published_all es) ≡ published_all es
  published_found [] = refl
  published_found (e ∷ es) = ap (λ l. (queue.publish e, None) ∷ l) (published_found es)

  -- and no take at all
  pub published_takes : (es : List E) → total takes_one (published_all es) ≡ 0
  published_takes [] = refl
  published_takes (e ∷ es) = let r = published_takes es in omega (arith, r)

  pub broker_found : (a : Ask E) (r : Reply E) → filter has_found (broker_call a r) ≡ broker_call a r
  broker_found (to_queue queue.take) (from_queue None) = refl
  broker_found (to_queue queue.take) (from_queue (Some e)) = refl
  broker_found (to_queue c) (from_queue x) = refl
  broker_found a r = refl

  -- what follows a core run has no take that found nothing
  follows_found : {h : Option E} {ts : List E} {cs : List (CoreCall E)} {ls : List (QueueAnswered E)} → FollowsScripts h ts cs ls → filter has_found ls ≡ ls
  follows_found scripts_all = refl
  follows_found (scripts_publish {e = e} f) = ap (λ l. (queue.publish e, None) ∷ l) (follows_found f)
  follows_found (scripts_list_take {t = t} f) = ap (λ l. (queue.take, Some t) ∷ l) (follows_found f)
  follows_found (scripts_core_take f) = follows_found f
  follows_found (scripts_again {e = e} f) = ap (λ l. (queue.redeliver e, None) ∷ l) (follows_found f)
  follows_found (scripts_ack f) = follows_found f

  -- so a caller whose calls follow one has just these
  pub queue_own : (p : ℕ) (log : List (queue.QueueEntry E)) {h : Option E} {ts : List E} {cs : List (CoreCall E)} (ls : List (QueueAnswered E))
      → FollowsScripts h ts cs ls → by p (answered_calls log) ≡ ls → by p (queue_calls log) ≡ ls
  queue_own p log ls f e = filter_by has_found p (answered_calls log) ∙ (ap (filter has_found) e ∙ follows_found f)
