-- A run goes on by one worker's further asks; and how many calls runs make that go on.
use Rattle.std.proofs.Common.{◌≡◌, ◌≢◌, ◌⊎◌, ℕ, zero, suc, ◌+◌, ◌≤◌, Bool, true, false, cond, eqb, List, [], ◌∷◌, ◌++◌, map, length, Option, Some, None, refl, sym, ap, ap₂, ◌∙◌, subst, inl, inr, ⊎_elim, eq-eqb, ne_eqb, append_assoc, append-nil, arith}
use Rattle.std.specs.Prelude.{filter}
use Rattle.std.proofs.lemmas.Bool.{eqb-true, cases_eq, false≢true}
use Rattle.std.proofs.lemmas.List.{length-append}
use Rattle.canvas_task.specs.Apply.{Behaviour}
use Rattle.canvas_history.specs.Answers.{answered_calls, entries_by}
use Rattle.canvas_history.specs.History.{Entry, among, live, live_from}
use Rattle.canvas_history.proofs.Histories.{live_append}
use Rattle.canvas_semantics.specs.Line.{Line}
use Rattle.canvas_rewrite.specs.Planned.{IsPlan}
use Rattle.canvas_envelope.specs.declared.envelope.Envelope.{Envelope}
use Rattle.canvas_history.specs.Table as table
use Rattle.canvas_history.specs.Roster.{roster_of}
use Rattle.canvas_history.specs.Queue as queue
use Rattle.canvas_runs.specs.Calls.{QueueAnswered, TableAnswered, CoreCall, makes, acknowledges, FollowsScripts, scripts_all, scripts_publish, scripts_list_take, scripts_core_take, scripts_again, scripts_ack, AskedAndAnswered, broker_call, core_call, backend_call, broker_calls, core_calls, backend_calls, of_scripts, takes_one}
use Rattle.canvas_runs.specs.Core.{Ask, Reply, to_queue, from_queue, ack, acked, taking, over, failed, answered, left_after, IsCoreRun, Between, Doing}
use Rattle.canvas_history.specs.Lists.{by, total, seconds}
use Rattle.canvas_runs.specs.Logs.{has_found, queue_calls}
use Rattle.canvas_runs.specs.Progress.{calls_made, of_workers, redelivers_one, delivered_again, most_calls, left_of, CanGoOn, AtRest, UnderWay, GoesOn, Leads, leads_none, leads_on}
use Rattle.canvas_runs.specs.Protocol.{Protocol}
use Rattle.canvas_runs.specs.Run.{Run, published_all}
use Rattle.canvas_runs.specs.Worker.{worker, sealed}
use Rattle.canvas_runs.proofs.Objects.CallsOf.{tag, seconds-append, calls_append, calls_entries, queue_append, queue_entries, by_tag}
use Rattle.canvas_runs.proofs.Ends.FewCalls.{few_calls}
use Rattle.canvas_runs.proofs.Runs.MoreAsks.{by_append, asks_of_scripts}
use Rattle.canvas_runs.proofs.Lists.Sums.{total-append}

-- ---- a list that follows scripts, and what is left of it

module _ {E : Type 0} where
  abbrev pub takes_in : List (CoreCall E) → ℕ
  takes_in [] = 0
  takes_in (makes c ∷ cs) = takes_one c + takes_in cs
  takes_in (acknowledges ∷ cs) = takes_in cs

  -- the takes that the list has and the core run does not, and how the two go on
  pub record Rest (h : Option E) (ts : List E) (cs : List (CoreCall E)) (ls : List (QueueAnswered E)) : Type 0 where
    pub opened : Option E
    pub held : List E
    pub further : (ds : List (CoreCall E)) (ms : List (QueueAnswered E)) → FollowsScripts opened held ds ms → FollowsScripts h ts (cs ++ ds) (ls ++ ms)
    pub as_many : length ts + total takes_one ls ≡ takes_in cs + length held

  pub rest_of : {h : Option E} {ts : List E} {cs : List (CoreCall E)} {ls : List (QueueAnswered E)} → FollowsScripts h ts cs ls → Rest h ts cs ls
  rest_of (scripts_all {h = h} {ts = ts}) = record { opened = h; held = ts; further = λ ds ms f. f; as_many = omega arith }
  rest_of (scripts_publish f) =
      let r = rest_of f in
      record { opened = r.opened; held = r.held; further = λ ds ms g. scripts_publish (r.further ds ms g); as_many = omega (arith, r.as_many) }
  rest_of (scripts_list_take {ts = ts} {t = t} f) =
      let r = rest_of f in
      record {
        opened = r.opened;
        held = r.held;
        further = λ ds ms g. scripts_list_take (r.further ds ms g);
        as_many = omega (arith, r.as_many, length-append ts (t ∷ []));
      }
  rest_of (scripts_core_take f) =
      let r = rest_of f in
      record { opened = r.opened; held = r.held; further = λ ds ms g. scripts_core_take (r.further ds ms g); as_many = omega (arith, r.as_many) }
  rest_of (scripts_again f) =
      let r = rest_of f in
      record { opened = r.opened; held = r.held; further = λ ds ms g. scripts_again (r.further ds ms g); as_many = omega (arith, r.as_many) }
  rest_of (scripts_ack f) =
      let r = rest_of f in
      record { opened = r.opened; held = r.held; further = λ ds ms g. scripts_ack (r.further ds ms g); as_many = omega (arith, r.as_many) }

  takes_append : (xs ys : List (CoreCall E)) → takes_in (xs ++ ys) ≡ takes_in xs + takes_in ys
  takes_append [] ys = omega arith
  takes_append (makes c ∷ xs) ys = let r = takes_append xs ys in omega (arith, r)
  takes_append (acknowledges ∷ xs) ys = takes_append xs ys

  takes_published : (b : Bool) (es : List E) → takes_in (map makes (cond b (published_all es) [])) ≡ 0
  takes_published false es = refl
  takes_published true [] = refl
  takes_published true (e ∷ es) = let r = takes_published true es in omega (arith, r)

  -- ---- lists of asks

  pub core_append : (xs ys : List (AskedAndAnswered E)) → core_calls (xs ++ ys) ≡ core_calls xs ++ core_calls ys
  core_append [] ys = refl
  core_append (x ∷ xs) ys =
      ap (λ l. core_call x.0 x.1 ++ l) (core_append xs ys) ∙ sym (append_assoc (core_call x.0 x.1) (core_calls xs) (core_calls ys))

  pub backend_append : (xs ys : List (AskedAndAnswered E)) → backend_calls (xs ++ ys) ≡ backend_calls xs ++ backend_calls ys
  backend_append [] ys = refl
  backend_append (x ∷ xs) ys =
      ap (λ l. backend_call x.0 x.1 ++ l) (backend_append xs ys) ∙ sym (append_assoc (backend_call x.0 x.1) (backend_calls xs) (backend_calls ys))

  broker_append : (xs ys : List (AskedAndAnswered E)) → broker_calls (xs ++ ys) ≡ broker_calls xs ++ broker_calls ys
  broker_append [] ys = refl
  broker_append (x ∷ xs) ys =
      ap (λ l. broker_call x.0 x.1 ++ l) (broker_append xs ys) ∙ sym (append_assoc (broker_call x.0 x.1) (broker_calls xs) (broker_calls ys))

  takes_call : (a : Ask E) (r : Reply E) → takes_in (core_call a r) ≡ total takes_one (broker_call a r)
  takes_call (to_queue queue.take) (from_queue None) = refl
  takes_call (to_queue c) (from_queue x) = refl
  takes_call ack acked = refl
  takes_call a r = refl

  pub takes_calls : (xs : List (AskedAndAnswered E)) → takes_in (core_calls xs) ≡ total takes_one (broker_calls xs)
  takes_calls [] = refl
  takes_calls (x ∷ xs) =
      takes_append (core_call x.0 x.1) (core_calls xs)
      ∙ (ap₂ (λ a b. a + b) (takes_call x.0 x.1) (takes_calls xs) ∙ sym (total-append takes_one (broker_call x.0 x.1) (broker_calls xs)))

module _ {E : Type 0} (Y : Protocol E) where
  pub run_append : (s : Doing Y) (xs ys : List (AskedAndAnswered E)) → IsCoreRun Y s xs → IsCoreRun Y (left_after Y s xs) ys → IsCoreRun Y s (xs ++ ys)
  run_append s [] ys a b = b
  run_append s (x ∷ xs) ys a b = (a.0, a.1, run_append (answered Y s x.1) xs ys a.2 b)

  pub left_append : (s : Doing Y) (xs ys : List (AskedAndAnswered E)) → left_after Y s (xs ++ ys) ≡ left_after Y (left_after Y s xs) ys
  left_append s [] ys = refl
  left_append s (x ∷ xs) ys = left_append (answered Y s x.1) xs ys

-- ---- a run that is longer

calls_live : {C R : Type 0} (ps : List ℕ) (p : ℕ) (cs : List (C × R)) → live_from ps (entries_by p cs) ≡ ps
calls_live ps p [] = refl
calls_live ps p (c ∷ cs) = calls_live ps p cs

pub still_live : {C R : Type 0} (log : List (Entry C R)) (p : ℕ) (cs : List (C × R)) → live (log ++ entries_by p cs) ≡ live log
still_live log p cs = live_append (0 ∷ []) log (entries_by p cs) ∙ calls_live (live log) p cs

module _ (behaviour : Behaviour) (l : Line) (r : Run behaviour l) where
  abbrev W : Protocol Envelope
  W = worker behaviour l

  abbrev opening_by : ℕ → List (CoreCall Envelope)
  opening_by p = map makes (cond (eqb p 0) (published_all (map sealed r.opening)) [])

  pub its_rest : (p : ℕ) → Rest None [] (opening_by p ++ core_calls (r.core p)) (by p (queue_calls r.queue))
  its_rest p = rest_of (r.follows p)

  pub as_held : (p : ℕ) → total takes_one (by p (queue_calls r.queue)) ≡ total takes_one (broker_calls (r.core p)) + length (its_rest p).held
  as_held p =
      let many = (its_rest p).as_many in
      let split = takes_append (opening_by p) (core_calls (r.core p)) in
      let none = takes_published (eqb p 0) (map sealed r.opening) in
      let some = takes_calls (r.core p) in
      omega (arith, many, split, none, some)

  -- a worker's further asks
  pub record Further (p : ℕ) : Type 0 where
    pub asks : List (AskedAndAnswered Envelope)
    pub new : List (QueueAnswered Envelope)
    pub core : IsCoreRun W (left_of behaviour l r p) asks
    pub one_call : calls_made asks ≡ 1
    pub found : filter has_found new ≡ new
    pub same : (new ≡ broker_calls asks) ⊎ (new ≡ [])
    pub follows : FollowsScripts (its_rest p).opened (its_rest p).held (core_calls asks) new
    pub queue : queue.IsLegal (r.queue ++ entries_by p new)
    pub table : table.IsLegal (roster_of l) (r.table ++ entries_by p (backend_calls asks))
    pub not_over : left_after W (left_of behaviour l r p) asks ≢ over
    pub not_failed : left_after W (left_of behaviour l r p) asks ≢ failed

  module _ (u : UnderWay behaviour l r) (p : ℕ) (goes : CanGoOn behaviour l r p) (f : Further p) where
    abbrev longer_queue : List (queue.QueueEntry Envelope)
    longer_queue = r.queue ++ entries_by p f.new

    abbrev longer_table : table.Log
    longer_table = r.table ++ entries_by p (backend_calls f.asks)

    abbrev longer_core : ℕ → List (AskedAndAnswered Envelope)
    longer_core q = cond (eqb q p) (r.core q ++ f.asks) (r.core q)

    pub core_own : longer_core p ≡ r.core p ++ f.asks
    core_own = ap (λ b. cond b (r.core p ++ f.asks) (r.core p)) (eq-eqb p p refl)

    pub core_other : (q : ℕ) → q ≢ p → longer_core q ≡ r.core q
    core_other q d = ap (λ b. cond b (r.core q ++ f.asks) (r.core q)) (ne_eqb q p d)

    pub core_is : (q : ℕ) → IsCoreRun W taking (longer_core q)
    core_is q = go (eqb q p) refl
      where
        go : (b : Bool) → eqb q p ≡ b → IsCoreRun W taking (cond b (r.core q ++ f.asks) (r.core q))
        go true e =
            run_append W taking (r.core q) f.asks (r.is_core q)
            (subst (λ v. IsCoreRun W (left_after W taking (r.core v)) f.asks) (sym (eqb-true q p e)) f.core)
        go false e = r.is_core q

    pub longer_calls : queue_calls longer_queue ≡ queue_calls r.queue ++ tag p f.new
    longer_calls = queue_append r.queue (entries_by p f.new) ∙ ap (λ g. queue_calls r.queue ++ g) (queue_entries p f.new f.found)

    queue_by : (q : ℕ) → by q (queue_calls longer_queue) ≡ by q (queue_calls r.queue) ++ cond (eqb p q) f.new []
    queue_by q = ap (by q) longer_calls
        ∙ (by_append q (queue_calls r.queue) (tag p f.new) ∙ ap (λ g. by q (queue_calls r.queue) ++ g) (by_tag p q f.new))

    table_by : (q : ℕ) → by q (answered_calls longer_table) ≡ by q (answered_calls r.table) ++ cond (eqb p q) (backend_calls f.asks) []
    table_by q = ap (by q) (calls_append r.table (entries_by p (backend_calls f.asks))
        ∙ ap (λ g. answered_calls r.table ++ g) (calls_entries p (backend_calls f.asks)))
        ∙ (by_append q (answered_calls r.table) (tag p (backend_calls f.asks))
        ∙ ap (λ g. by q (answered_calls r.table) ++ g) (by_tag p q (backend_calls f.asks)))

    -- ---- what the queue's list follows

    abbrev Follows : ℕ → Type 0
    Follows q = FollowsScripts None [] (opening_by q ++ core_calls (longer_core q)) (by q (queue_calls r.queue) ++ cond (eqb p q) f.new [])

    follows_own : Follows p
    follows_own =
        let cs : opening_by p ++ core_calls (longer_core p) ≡ (opening_by p ++ core_calls (r.core p)) ++ core_calls f.asks =
        ap (λ g. opening_by p ++ core_calls g) core_own
        ∙ (ap (λ g. opening_by p ++ g) (core_append (r.core p) f.asks) ∙ sym (append_assoc (opening_by p) (core_calls (r.core p)) (core_calls f.asks))) in
        let ls : by p (queue_calls r.queue) ++ cond (eqb p p) f.new [] ≡ by p (queue_calls r.queue) ++ f.new =
        ap (λ b. by p (queue_calls r.queue) ++ cond b f.new []) (eq-eqb p p refl) in
        subst (λ g. FollowsScripts None [] g (by p (queue_calls r.queue) ++ cond (eqb p p) f.new [])) (sym cs)
        (subst (λ g. FollowsScripts None [] ((opening_by p ++ core_calls (r.core p)) ++ core_calls f.asks) g) (sym ls)
        ((its_rest p).further (core_calls f.asks) f.new f.follows))

    follows_other : (q : ℕ) → q ≢ p → Follows q
    follows_other q d =
        let ls : by q (queue_calls r.queue) ++ cond (eqb p q) f.new [] ≡ by q (queue_calls r.queue) =
        ap (λ b. by q (queue_calls r.queue) ++ cond b f.new []) (ne_eqb p q (λ e. d (sym e))) ∙ append-nil (by q (queue_calls r.queue)) in
        subst (λ g. FollowsScripts None [] (opening_by q ++ core_calls g) (by q (queue_calls r.queue) ++ cond (eqb p q) f.new [])) (sym (core_other q d))
        (subst (λ g. FollowsScripts None [] (opening_by q ++ core_calls (r.core q)) g) (sym ls) (r.follows q))

    pub follows_all : (q : ℕ) → FollowsScripts None [] (opening_by q ++ core_calls (longer_core q)) (by q (queue_calls longer_queue))
    follows_all q = subst (λ g. FollowsScripts None [] (opening_by q ++ core_calls (longer_core q)) g) (sym (queue_by q))
        (⊎_elim (λ (e : q ≡ p). subst Follows (sym e) follows_own) (λ (d : q ≢ p). follows_other q d) (cases_eq q p))

    -- ---- the table's calls

    none_more : (cs : List TableAnswered) (b : Bool) → cs ++ cond b [] [] ≡ cs
    none_more cs true = append-nil cs
    none_more cs false = append-nil cs

    rows_were : (q : ℕ) → by q (answered_calls r.table) ≡ backend_calls (r.core q)
    rows_were q = r.keeps q ∙ (ap (λ cs. backend_calls (r.core q) ++ cond (eqb q 0) cs []) u.none_read ∙ none_more (backend_calls (r.core q)) (eqb q 0))

    abbrev Keeps : ℕ → Type 0
    Keeps q = by q (answered_calls r.table) ++ cond (eqb p q) (backend_calls f.asks) [] ≡ backend_calls (longer_core q)

    keeps_own : Keeps p
    keeps_own =
        ap (λ b. by p (answered_calls r.table) ++ cond b (backend_calls f.asks) []) (eq-eqb p p refl)
        ∙ (ap (λ g. g ++ backend_calls f.asks) (rows_were p) ∙ (sym (backend_append (r.core p) f.asks) ∙ ap backend_calls (sym core_own)))

    keeps_other : (q : ℕ) → q ≢ p → Keeps q
    keeps_other q d =
        ap (λ b. by q (answered_calls r.table) ++ cond b (backend_calls f.asks) []) (ne_eqb p q (λ e. d (sym e)))
        ∙ (append-nil (by q (answered_calls r.table)) ∙ (rows_were q ∙ ap backend_calls (sym (core_other q d))))

    pub keeps_all : (q : ℕ) → by q (answered_calls longer_table) ≡ backend_calls (longer_core q) ++ cond (eqb q 0) [] []
    keeps_all q =
        let mine : Keeps q = ⊎_elim (λ (e : q ≡ p). subst Keeps (sym e) keeps_own) (λ (d : q ≢ p). keeps_other q d) (cases_eq q p) in
        table_by q ∙ (mine ∙ sym (none_more (backend_calls (longer_core q)) (eqb q 0)))

    abbrev pub longer : Run behaviour l
    longer = record {
      queue = longer_queue;
      table = longer_table;
      queue_legal = f.queue;
      table_legal = f.table;
      core = longer_core;
      is_core = core_is;
      opening = r.opening;
      unsent = r.unsent;
      closing = [];
      opens = r.opens;
      opens_back = r.opens_back;
      closes = tt;
      follows = follows_all;
      keeps = keeps_all;
    }

    abbrev pub longer_goes : GoesOn behaviour l r p longer
    longer_goes = record {
      asks = f.asks;
      one_call = f.one_call;
      core = core_own;
      others = core_other;
      queue = ⊎_elim (λ e. inl (ap (λ g. r.queue ++ entries_by p g) e)) (λ e. inr (ap (λ g. r.queue ++ entries_by p g) e ∙ append-nil r.queue)) f.same;
      table = refl;
    }

    -- ---- it is under way

    left_other : (q : ℕ) → q ≢ p → left_after W taking (longer_core q) ≡ left_of behaviour l r q
    left_other q d = ap (left_after W taking) (core_other q d)

    left_own : left_after W taking (longer_core p) ≡ left_after W (left_of behaviour l r p) f.asks
    left_own = ap (left_after W taking) core_own ∙ left_append W taking (r.core p) f.asks

    alive : (q : ℕ) → CanGoOn behaviour l r q → (among q (live longer_queue) ≡ true) × (among q (live longer_table) ≡ true)
    alive q g = (
      ap (among q) (still_live r.queue p f.new) ∙ g.0,
      ap (among q) (still_live r.table p (backend_calls f.asks)) ∙ g.1,
    )

    pub goes_own : CanGoOn behaviour l longer p
    goes_own = let a = alive p goes in (a.0, a.1, λ e. f.not_over (sym left_own ∙ e), λ e. f.not_failed (sym left_own ∙ e))

    pub goes_other : (q : ℕ) → q ≢ p → CanGoOn behaviour l r q → CanGoOn behaviour l longer q
    goes_other q d g = let a = alive q g in (a.0, a.1, λ e. g.2 (sym (left_other q d) ∙ e), λ e. g.3 (sym (left_other q d) ∙ e))

    pub rests_other : (q : ℕ) → q ≢ p → AtRest behaviour l r q → AtRest behaviour l longer q
    rests_other q d a =
        let calls_same : by q (queue_calls longer_queue) ≡ by q (queue_calls r.queue) =
        queue_by q ∙ (ap (λ b. by q (queue_calls r.queue) ++ cond b f.new []) (ne_eqb p q (λ e. d (sym e))) ∙ append-nil (by q (queue_calls r.queue))) in (
          subst (λ z. Between z) (sym (left_other q d)) a.0,
          ap (total takes_one) calls_same ∙ (a.1 ∙ ap (λ g. total takes_one (broker_calls g)) (sym (core_other q d))),
        )

    pub goes_any : (q : ℕ) → CanGoOn behaviour l r q → CanGoOn behaviour l longer q
    goes_any q g = ⊎_elim (λ (e : q ≡ p). subst (CanGoOn behaviour l longer) (sym e) goes_own) (λ (d : q ≢ p). goes_other q d g) (cases_eq q p)

    abbrev pub longer_way : UnderWay behaviour l longer
    longer_way = record {
      all_sent = u.all_sent;
      none_read = refl;
      each = λ q.
          ⊎_elim (λ (e : q ≡ p). inl (subst (CanGoOn behaviour l longer) (sym e) goes_own))
          (λ (d : q ≢ p). ⊎_elim (λ g. inl (goes_other q d g)) (λ a. inr (rests_other q d a)) (u.each q)) (cases_eq q p);
      one = u.one;
      goes = goes_any u.one u.goes;
    }

-- ---- one more call

sum_same : (n : ℕ) (f g : ℕ → ℕ) → ((q : ℕ) → q ≤ n → g q ≡ f q) → of_workers n g ≡ of_workers n f
sum_same zero f g h = h 0 (omega arith)
sum_same (suc n) f g h = let r = sum_same n f g (λ q b. h q (omega (arith, b))) in let s = h (suc n) (omega arith) in omega (arith, r, s)

sum_more : (n w : ℕ) (f g : ℕ → ℕ) → w ≤ n → g w ≡ suc (f w) → ((q : ℕ) → q ≢ w → g q ≡ f q) → of_workers n g ≡ suc (of_workers n f)
sum_more zero w f g b h others = let here : w ≡ 0 = omega (arith, b) in subst (λ v. g v ≡ suc (f v)) here h
sum_more (suc n) w f g b h others = elim (cases_eq w (suc n)) [
  | inl e ↦ let s : g (suc n) ≡ suc (f (suc n)) = subst (λ v. g v ≡ suc (f v)) e h in let r = sum_same n f g (λ q c. others q (λ k. omega (arith, e, c, k))) in
      omega (arith, s, r)
  | inr d ↦ let s = others (suc n) (λ k. d (sym k)) in let r = sum_more n w f g (omega (arith, b, d)) h others in omega (arith, s, r)
]

module _ (behaviour : Behaviour) (l : Line) where
  abbrev pub all_calls : ℕ → Run behaviour l → ℕ
  all_calls n r = of_workers n (λ p. calls_made (r.core p))

  calls_append_made : (xs ys : List (AskedAndAnswered Envelope)) → calls_made (xs ++ ys) ≡ calls_made xs + calls_made ys
  calls_append_made xs ys =
      let a : length (core_calls (xs ++ ys)) ≡ length (core_calls xs) + length (core_calls ys) =
      ap length (core_append xs ys) ∙ length-append (core_calls xs) (core_calls ys) in
      let b : length (backend_calls (xs ++ ys)) ≡ length (backend_calls xs) + length (backend_calls ys) =
      ap length (backend_append xs ys) ∙ length-append (backend_calls xs) (backend_calls ys) in
      omega (arith, a, b)

  pub one_more : (r : Run behaviour l) (p : ℕ) (s : Run behaviour l) → GoesOn behaviour l r p s → (n : ℕ) → p ≤ n → all_calls n s ≡ suc (all_calls n r)
  one_more r p s g n b =
      sum_more n p (λ p. calls_made (r.core p)) (λ p. calls_made (s.core p)) b own (λ q d. ap calls_made (g.others q d))
    where
      own : calls_made (s.core p) ≡ suc (calls_made (r.core p))
      own = let a : calls_made (s.core p) ≡ calls_made (r.core p ++ g.asks) = ap calls_made g.core in
          omega (arith, a, calls_append_made (r.core p) g.asks, g.one_call)

  -- no worker asks for a redelivery in its core run
  plain_call : (a : Ask Envelope) (y : Reply Envelope) → of_scripts a ≡ true → total redelivers_one (broker_call a y) ≡ 0
  plain_call (to_queue (queue.redeliver e)) y h = absurd (false≢true h)
  plain_call (to_queue queue.take) (from_queue None) h = refl
  plain_call (to_queue queue.take) (from_queue (Some e)) h = refl
  plain_call (to_queue (queue.publish e)) (from_queue x) h = refl
  plain_call a y h = refl

  plain_run : (s : Doing (worker behaviour l)) (ys : List (AskedAndAnswered Envelope)) → IsCoreRun (worker behaviour l) s ys
      → total redelivers_one (broker_calls ys) ≡ 0
  plain_run s [] c = refl
  plain_run s (y ∷ ys) c =
      let here = plain_call y.0 y.1 (ap of_scripts c.0 ∙ asks_of_scripts (worker behaviour l) s) in
      let later = plain_run (answered (worker behaviour l) s y.1) ys c.2 in
      omega (arith, here, later, total-append redelivers_one (broker_call y.0 y.1) (broker_calls ys))

  again_entries : (p : ℕ) (cs : List (QueueAnswered Envelope)) → delivered_again (entries_by p cs) ≡ total redelivers_one cs
  again_entries p [] = refl
  again_entries p ((queue.take, None) ∷ cs) = let r = again_entries p cs in omega (arith, r)
  again_entries p (c ∷ cs) = let r = again_entries p cs in omega (arith, r)

  again_append : (xs ys : List (queue.QueueEntry Envelope)) → delivered_again (xs ++ ys) ≡ delivered_again xs + delivered_again ys
  again_append xs ys =
      ap (λ g. total redelivers_one (seconds g)) (queue_append xs ys)
      ∙ (ap (total redelivers_one) (seconds-append (queue_calls xs) (queue_calls ys))
      ∙ total-append redelivers_one (seconds (queue_calls xs)) (seconds (queue_calls ys)))

  pub again_same : (r : Run behaviour l) (p : ℕ) (s : Run behaviour l) → GoesOn behaviour l r p s → delivered_again s.queue ≡ delivered_again r.queue
  again_same r p s g = ⊎_elim longer_by (λ e. ap delivered_again e) g.queue
    where
      none : total redelivers_one (broker_calls g.asks) ≡ 0
      none =
          let whole = plain_run taking (s.core p) (s.is_core p) in
          let parts : total redelivers_one (broker_calls (s.core p)) ≡ total redelivers_one (broker_calls (r.core p))
          + total redelivers_one (broker_calls g.asks) =
          ap (λ xs. total redelivers_one (broker_calls xs)) g.core
          ∙ (ap (total redelivers_one) (broker_append (r.core p) g.asks) ∙ total-append redelivers_one (broker_calls (r.core p)) (broker_calls g.asks)) in
          omega (arith, whole, parts)

      longer_by : s.queue ≡ r.queue ++ entries_by p (broker_calls g.asks) → delivered_again s.queue ≡ delivered_again r.queue
      longer_by e =
          let a : delivered_again s.queue ≡ delivered_again r.queue + delivered_again (entries_by p (broker_calls g.asks)) =
          ap delivered_again e ∙ again_append r.queue (entries_by p (broker_calls g.asks)) in
          omega (arith, a, again_entries p (broker_calls g.asks), none)

  -- ---- any number of calls

  agains : {r s : Run behaviour l} {k : ℕ} → Leads behaviour l r s k → delivered_again s.queue ≡ delivered_again r.queue
  agains leads_none = refl
  agains (leads_on {r = r} {s = s} {p = p} g ls) = agains ls ∙ again_same r p s g

  chain : {r s : Run behaviour l} {k : ℕ} → Leads behaviour l r s k → (least : ℕ) × ((n : ℕ) → least ≤ n → all_calls n s ≡ k + all_calls n r)
  chain leads_none = (0, λ n b. omega arith)
  chain (leads_on {r = r} {s = s} {p = p} g ls) =
      let later = chain ls in
      (p + later.0, λ n b. let a = one_more r p s g n (omega (arith, b)) in let c = later.1 n (omega (arith, b)) in omega (arith, a, c))

  pub few_steps : IsPlan l → (r s : Run behaviour l) (k : ℕ) → Leads behaviour l r s k → k ≤ most_calls l (delivered_again r.queue)
  few_steps plan r s k leads =
      let c = chain leads in
      let few = few_calls behaviour l plan s c.0 in
      let many = c.1 c.0 (omega arith) in
      let again = agains leads in
      omega (arith, few, many, again)
