-- A worker publishes the messages that a body starts with after its return of the part that completes the header.
use Rattle.std.proofs.Common.{◌≡◌, ℕ, suc, ◌≤◌, Bool, true, false, cond, eqb, List, [], ◌∷◌, ◌++◌, map, length, append-nil, Option, Some, None, refl, sym, ap, ap₂, subst, ◌∙◌, ◌⊎◌, inl, inr, ⊎_elim, arith}
use Rattle.std.proofs.lemmas.Bool.{eqb-true, eq-eqb}
use Rattle.canvas_task.specs.Apply.{Behaviour}
use Rattle.canvas_history.specs.Answers.{answered_calls}
use Rattle.canvas_history.specs.History.{split, join, calls}
use Rattle.canvas_semantics.specs.Bodies.{bodies}
use Rattle.canvas_semantics.specs.Line.{Line, members}
use Rattle.canvas_rewrite.specs.Planned.{IsPlan}
use Rattle.canvas_history.specs.Lists.{In, Each, by, total}
use Rattle.canvas_envelope.specs.Content.{Content, number_of}
use Rattle.canvas_envelope.specs.declared.envelope.Envelope.{Envelope}
use Rattle.canvas_effects.specs.Events.{Event, start, completion, DoesIn}
use Rattle.canvas_effects.specs.Job as job
use Rattle.canvas_history.specs.Table.{part, count, store, was}
use Rattle.canvas_history.specs.declared.stored.Stored.TheVariants.{First}
use Rattle.canvas_history.specs.TableLaws.{IsCompleting}
use Rattle.canvas_history.specs.Roster.{roster_of}
use Rattle.canvas_history.specs.Queue.{QueueEntry, publish, take, redeliver}
use Rattle.canvas_runs.specs.Book.{book_of}
use Rattle.canvas_runs.specs.Calls.{QueueAnswered, TableAnswered, AskedAndAnswered, CoreCall, makes, acknowledges, FollowsScripts, scripts_all, scripts_publish, scripts_list_take, scripts_core_take, scripts_again, scripts_ack, broker_call, core_call, backend_call, broker_calls, core_calls, backend_calls}
use Rattle.canvas_runs.specs.Core.{Ask, Reply, to_queue, to_table, ack, from_queue, from_table, acked, taking, IsCoreRun, answered}
use Rattle.canvas_runs.specs.ProgramOrder.{ProgramOrder, sent_in, called_in, published_in, step_of, steps, program_order}
use Rattle.canvas_runs.specs.Logs.{queue_calls}
use Rattle.canvas_runs.specs.Run.{Run, published_all}
use Rattle.canvas_runs.specs.Worker.{sealed, opened}
use Rattle.canvas_runs.proofs.Laws.Bodies.{body_by_completion}
use Rattle.canvas_runs.proofs.Laws.Facts.{X, form, Does, order, value}
use Rattle.canvas_runs.proofs.Laws.FactsOnce.{once}
use Rattle.canvas_runs.proofs.Laws.FirstLaw.{inner_run}
use Rattle.canvas_runs.proofs.Runs.GoodRuns.{GoodAnswer}
use Rattle.canvas_runs.proofs.Runs.OnceEach.{core_run, shows, publishes_task, of_opened}
use Rattle.canvas_runs.proofs.Runs.Right.{right_goods, answers_right}
use Rattle.canvas_runs.proofs.Lists.Sums.{find_heavy, in_total}
use Rattle.canvas_runs.proofs.Lists.Words.{each_left}

-- ---- the course of a core run

abbrev Asked : Type 0
Asked = AskedAndAnswered Envelope

sent_both : (xs ys : ProgramOrder) → sent_in (xs ++ ys) ≡ sent_in xs ++ sent_in ys
sent_both [] ys = refl
sent_both (inl e ∷ xs) ys = ap (λ es. e ∷ es) (sent_both xs ys)
sent_both (inr c ∷ xs) ys = sent_both xs ys

called_both : (xs ys : ProgramOrder) → called_in (xs ++ ys) ≡ called_in xs ++ called_in ys
called_both [] ys = refl
called_both (inl e ∷ xs) ys = called_both xs ys
called_both (inr c ∷ xs) ys = ap (λ cs. c ∷ cs) (called_both xs ys)

abbrev sends : List Envelope → ProgramOrder
sends es = map inl es

abbrev called : List TableAnswered → ProgramOrder
called cs = map inr cs

sent_sends : (es : List Envelope) → sent_in (sends es) ≡ es
sent_sends [] = refl
sent_sends (e ∷ es) = ap (λ xs. e ∷ xs) (sent_sends es)

sent_called : (cs : List TableAnswered) → sent_in (called cs) ≡ []
sent_called [] = refl
sent_called (c ∷ cs) = sent_called cs

called_sends : (es : List Envelope) → called_in (sends es) ≡ []
called_sends [] = refl
called_sends (e ∷ es) = called_sends es

called_called : (cs : List TableAnswered) → called_in (called cs) ≡ cs
called_called [] = refl
called_called (c ∷ cs) = ap (λ xs. c ∷ xs) (called_called cs)

called_step : (a : Ask Envelope) (r : Reply Envelope) → called_in (step_of a r) ≡ backend_call a r
called_step (to_queue (publish e)) (from_queue x) = refl
called_step (to_table c) (from_table r) = refl
called_step a r = refl

called_steps : (xs : List Asked) → called_in (steps xs) ≡ backend_calls xs
called_steps [] = refl
called_steps (x ∷ xs) = called_both (step_of x.0 x.1) (steps xs) ∙ ap₂ (λ a b. a ++ b) (called_step x.0 x.1) (called_steps xs)

-- ---- what is published

abbrev sends_of : List (CoreCall Envelope) → List Envelope
sends_of [] = []
sends_of (makes (publish e, r) ∷ cs) = e ∷ sends_of cs
sends_of (c ∷ cs) = sends_of cs

abbrev listed : List (QueueAnswered Envelope) → List Envelope
listed [] = []
listed ((publish e, r) ∷ cs) = e ∷ listed cs
listed (c ∷ cs) = listed cs

sends_both : (xs ys : List (CoreCall Envelope)) → sends_of (xs ++ ys) ≡ sends_of xs ++ sends_of ys
sends_both [] ys = refl
sends_both (makes (publish e, r) ∷ xs) ys = ap (λ es. e ∷ es) (sends_both xs ys)
sends_both (makes (take, r) ∷ xs) ys = sends_both xs ys
sends_both (makes (redeliver e, r) ∷ xs) ys = sends_both xs ys
sends_both (acknowledges ∷ xs) ys = sends_both xs ys

sent_step : (a : Ask Envelope) (r : Reply Envelope) → sent_in (step_of a r) ≡ sends_of (core_call a r)
sent_step (to_queue (publish e)) (from_queue x) = refl
sent_step (to_queue take) (from_queue None) = refl
sent_step (to_queue take) (from_queue (Some e)) = refl
sent_step (to_queue (redeliver e)) (from_queue x) = refl
sent_step (to_table c) (from_table r) = refl
sent_step ack acked = refl
sent_step a r = refl

sent_steps : (xs : List Asked) → sent_in (steps xs) ≡ sends_of (core_calls xs)
sent_steps [] = refl
sent_steps (x ∷ xs) =
    sent_both (step_of x.0 x.1) (steps xs) ∙ (ap₂ (λ a b. a ++ b) (sent_step x.0 x.1) (sent_steps xs) ∙ sym (sends_both (core_call x.0 x.1) (core_calls xs)))

follows_sends : {h : Option Envelope} {ts : List Envelope} {cs : List (CoreCall Envelope)} {ls : List (QueueAnswered Envelope)} → FollowsScripts h ts cs ls
    → sends_of cs ≡ listed ls
follows_sends scripts_all = refl
follows_sends (scripts_publish {e = e} f) = ap (λ es. e ∷ es) (follows_sends f)
follows_sends (scripts_list_take f) = follows_sends f
follows_sends (scripts_core_take f) = follows_sends f
follows_sends (scripts_again f) = follows_sends f
follows_sends (scripts_ack f) = follows_sends f

sends_all : (es : List Envelope) → sends_of (map makes (published_all es)) ≡ es
sends_all [] = refl
sends_all (e ∷ es) = ap (λ xs. e ∷ xs) (sends_all es)

listed_by : (p : ℕ) (es : List (QueueEntry Envelope)) → listed (by p (queue_calls es)) ≡ by p (published_in es)
listed_by p [] = refl
listed_by p (split a b ∷ es) = listed_by p es
listed_by p (join a b ∷ es) = listed_by p es
listed_by p (calls q take None ∷ es) = listed_by p es
listed_by p (calls q take (Some e) ∷ es) = go (eqb q p) (listed_by p es)
  where
    go : (b : Bool) → listed (by p (queue_calls es)) ≡ by p (published_in es)
        → listed (cond b ((take, Some e) ∷ by p (queue_calls es)) (by p (queue_calls es))) ≡ by p (published_in es)
    go true h = h
    go false h = h
listed_by p (calls q (redeliver e) a ∷ es) = go (eqb q p) (listed_by p es)
  where
    go : (b : Bool) → listed (by p (queue_calls es)) ≡ by p (published_in es)
        → listed (cond b ((redeliver e, a) ∷ by p (queue_calls es)) (by p (queue_calls es))) ≡ by p (published_in es)
    go true h = h
    go false h = h
listed_by p (calls q (publish e) a ∷ es) = go (eqb q p) (listed_by p es)
  where
    go : (b : Bool) → listed (by p (queue_calls es)) ≡ by p (published_in es)
        → listed (cond b ((publish e, a) ∷ by p (queue_calls es)) (by p (queue_calls es))) ≡ cond b (e ∷ by p (published_in es)) (by p (published_in es))
    go true h = ap (λ xs. e ∷ xs) h
    go false h = h

-- ---- where a publish is in a course

heads : {A : Type 0} {x y : A} {xs ys : List A} → ◌≡◌ {A = List A} (x ∷ xs) (y ∷ ys) → x ≡ y
heads e = cc

tails : {A : Type 0} {x y : A} {xs ys : List A} → ◌≡◌ {A = List A} (x ∷ xs) (y ∷ ys) → xs ≡ ys
tails e = cc

not_both : {e : Envelope} {c : TableAnswered} → ◌≡◌ {A = Envelope ⊎ TableAnswered} (inr c) (inl e) → ⊥
not_both x = cc

same_left : {d e : Envelope} → ◌≡◌ {A = Envelope ⊎ TableAnswered} (inl d) (inl e) → d ≡ e
same_left x = cc

none_called : (cs : List TableAnswered) (before : ProgramOrder) (e : Envelope) (after : ProgramOrder) → called cs ≡ before ++ inl e ∷ after → ⊥
none_called [] [] e after h = absurd (cc)
none_called [] (b ∷ before) e after h = absurd (cc)
none_called (c ∷ cs) [] e after h = not_both (heads h)
none_called (c ∷ cs) (b ∷ before) e after h = none_called cs before e after (tails h)

-- it is one of the core run, and the calls of the table that the core run has before it are before it
pub record Stands (xs : List Asked) (before : ProgramOrder) (e : Envelope) : Type 0 where
  pub first : List Asked
  pub last : List Asked
  pub answer : Option Envelope
  pub is : xs ≡ (first ++ (to_queue (publish e), from_queue answer) ∷ []) ++ last
  pub all : (c : TableAnswered) → In c (backend_calls first) → In (inr c) before

stands_behind : (x : Asked) (xs : List Asked) (before : ProgramOrder) (e : Envelope) → backend_call x.0 x.1 ≡ [] → Stands xs before e → Stands (x ∷ xs) before e
stands_behind x xs before e none s = record {
  first = x ∷ s.first;
  last = s.last;
  answer = s.answer;
  is = ap (λ ys. x ∷ ys) s.is;
  all = λ c i. s.all c (subst (λ cs. In c (cs ++ backend_calls s.first)) none i);
}

stands_more : (x : Asked) (xs : List Asked) (b : Envelope ⊎ TableAnswered) (before : ProgramOrder) (e : Envelope)
    → ((c : TableAnswered) → In c (backend_call x.0 x.1) → inr c ≡ b)
    → ((ys : List Asked) (c : TableAnswered) → In c (backend_calls (x ∷ ys)) → In c (backend_call x.0 x.1) ⊎ In c (backend_calls ys))
    → Stands xs before e → Stands (x ∷ xs) (b ∷ before) e
stands_more x xs b before e same cases s = record {
  first = x ∷ s.first;
  last = s.last;
  answer = s.answer;
  is = ap (λ ys. x ∷ ys) s.is;
  all = λ c i. ⊎_elim (λ j. inl (same c j)) (λ j. inr (s.all c j)) (cases s.first c i);
}

stands_in : (xs : List Asked) (cs : List TableAnswered) (before : ProgramOrder) (e : Envelope) (after : ProgramOrder)
    → steps xs ++ called cs ≡ before ++ inl e ∷ after
    → Stands xs before e
stands_in [] cs before e after h = absurd (none_called cs before e after h)
stands_in ((to_queue (publish d), from_queue r) ∷ xs) cs [] e after h =
    let same : d ≡ e = same_left (heads h) in
    record {
      first = [];
      last = xs;
      answer = r;
      is = ap (λ x. (to_queue (publish x), from_queue r) ∷ xs) same;
      all = λ c i. elim i [ ];
    }
stands_in ((to_queue (publish d), from_queue r) ∷ xs) cs (b ∷ before) e after h =
    stands_more (to_queue (publish d), from_queue r) xs b before e (λ c i. elim i [ ]) (λ ys c i. inr i) (stands_in xs cs before e after (tails h))
stands_in ((to_table c, from_table r) ∷ xs) cs [] e after h = absurd (not_both (heads h))
stands_in ((to_table c, from_table r) ∷ xs) cs (b ∷ before) e after h =
    stands_more (to_table c, from_table r) xs b before e
    (λ d i. elim i [ inl s ↦ ap inr s ∙ heads h | inr n ↦ absurd n ])
    (λ ys d i. elim i [ inl s ↦ inl (inl s) | inr j ↦ inr j ])
    (stands_in xs cs before e after (tails h))
stands_in ((a, r) ∷ xs) cs before e after h = stands_behind (a, r) xs before e refl (stands_in xs cs before e after h)

-- or one of the first messages
placed : (os : List Envelope) (xs : List Asked) (cs : List TableAnswered) (before : ProgramOrder) (e : Envelope) (after : ProgramOrder)
    → sends os ++ (steps xs ++ called cs) ≡ before ++ inl e ∷ after → In e os ⊎ Stands xs before e
placed [] xs cs before e after h = inr (stands_in xs cs before e after h)
placed (o ∷ os) xs cs [] e after h = inl (inl (sym (same_left (heads h))))
placed (o ∷ os) xs cs (b ∷ before) e after h =
    ⊎_elim (λ i. inl (inr i))
    (λ s. inr (record { first = s.first; last = s.last; answer = s.answer; is = s.is; all = λ c i. inr (s.all c i) }))
    (placed os xs cs before e after (tails h))

-- ---- a part of a core run

core_left : {E : Type 0} (Y : _) (s : _) (xs ys : List (AskedAndAnswered E)) → IsCoreRun Y s (xs ++ ys) → IsCoreRun Y s xs
core_left Y s [] ys h = tt
core_left Y s (x ∷ xs) ys h = (h.0, h.1, core_left Y (answered Y s x.1) xs ys h.2)

calls_before : (xs : List Asked) (e : Envelope) (r : Option Envelope) → backend_calls (xs ++ (to_queue (publish e), from_queue r) ∷ []) ≡ backend_calls xs
calls_before [] e r = refl
calls_before (x ∷ xs) e r = ap (λ cs. backend_call x.0 x.1 ++ cs) (calls_before xs e r)

in_behind : {A : Type 0} (xs ys : List A) (x : A) → In x ys → In x (xs ++ ys)
in_behind [] ys x i = i
in_behind (y ∷ xs) ys x i = inr (in_behind xs ys x i)

made_last : (xs : List Asked) (e : Envelope) (r : Option Envelope) → In (publish e, r) (broker_calls (xs ++ (to_queue (publish e), from_queue r) ∷ []))
made_last [] e r = inl refl
made_last (x ∷ xs) e r = in_behind (broker_call x.0 x.1) _ (publish e, r) (made_last xs e r)

module _ (behaviour : Behaviour) (l : Line) (plan : IsPlan l) (r : Run behaviour l) where
  abbrev opening_of : ℕ → List Envelope
  opening_of p = cond (eqb p 0) (map sealed r.opening) []

  abbrev closing_of : ℕ → List TableAnswered
  closing_of p = cond (eqb p 0) r.closing []

  opening_sent : (b : Bool) → sends_of (map makes (cond b (published_all (map sealed r.opening)) [])) ≡ cond b (map sealed r.opening) []
  opening_sent true = sends_all (map sealed r.opening)
  opening_sent false = refl

  pub order_sends : (p : ℕ) → sent_in (program_order r p) ≡ by p (published_in r.queue)
  order_sends p =
      sent_both (sends (opening_of p)) (steps (r.core p) ++ called (closing_of p))
      ∙ (ap₂ (λ a b. a ++ b) (sent_sends (opening_of p) ∙ sym (opening_sent (eqb p 0)))
      (sent_both (steps (r.core p)) (called (closing_of p)) ∙ (ap₂ (λ a b. a ++ b) (sent_steps (r.core p)) (sent_called (closing_of p))
      ∙ append-nil (sends_of (core_calls (r.core p)))))
      ∙ (sym (sends_both (map makes (cond (eqb p 0) (published_all (map sealed r.opening)) [])) (core_calls (r.core p)))
      ∙ (follows_sends (r.follows p) ∙ listed_by p r.queue)))

  pub order_calls : (p : ℕ) → called_in (program_order r p) ≡ by p (answered_calls r.table)
  order_calls p =
      called_both (sends (opening_of p)) (steps (r.core p) ++ called (closing_of p))
      ∙ (ap (λ a. a ++ called_in (steps (r.core p) ++ called (closing_of p))) (called_sends (opening_of p))
      ∙ (called_both (steps (r.core p)) (called (closing_of p))
      ∙ (ap₂ (λ a b. a ++ b) (called_steps (r.core p)) (called_called (closing_of p)) ∙ sym (r.keeps p))))

  -- ---- the completing part is before the publish

  abbrev Completing : ℕ → ProgramOrder → Type 0
  Completing g before = (t n : ℕ) × In {X = Envelope ⊎ TableAnswered} (inr (part g t, count n)) before × IsCompleting (roster_of l) g n

  shown : (g : ℕ) (before : ProgramOrder) (c : TableAnswered) → (shows (X behaviour l plan) (form behaviour l plan) (completion g) c ≡ 0 → ⊥)
      → In {X = Envelope ⊎ TableAnswered} (inr c) before → Completing g before
  shown g before (store t o, was First) d i = absurd (d refl)
  shown g before (part h t, count n) d i = go (eqb (suc n) (length (members l h))) refl (eqb h g) refl d
    where
      go : (b : Bool) → eqb (suc n) (length (members l h)) ≡ b → (f : Bool) → eqb h g ≡ f → (◌≡◌ {A = ℕ} (cond b (cond f 1 0) 0) 0 → ⊥) → Completing g before
      go false e f q d = absurd (d refl)
      go true e false q d = absurd (d refl)
      go true e true q d =
          let same : h ≡ g = eqb-true h g q in (
            t,
            n,
            subst (λ k. In {X = Envelope ⊎ TableAnswered} (inr (part k t, count n)) before) same i,
            subst (λ k. suc n ≡ length (members l k)) same (eqb-true (suc n) (length (members l h)) e),
          )
  shown g before c d i = absurd (d refl)

  first_opened : (ms : List Content) → Each (λ m. DoesIn behaviour l start (job.publish m)) ms → Each (X behaviour l plan).Back ms
      → Each (form behaviour l plan).Formed ms → (e : Envelope) → In e (map sealed ms)
      → (c : Content) × (opened (book_of l) e ≡ Some c) × DoesIn behaviour l start (job.publish c)
  first_opened [] d b f e i = elim i [ ]
  first_opened (m ∷ ms) d b f e (inl s) = (m, ap (opened (book_of l)) s ∙ (order behaviour l plan).opened m f.0 b.0, d.0)
  first_opened (m ∷ ms) d b f e (inr i) = first_opened ms d.1 b.1 f.1 e i

  in_opening : (b : Bool) (e : Envelope) → In e (cond b (map sealed r.opening) []) → In e (map sealed r.opening)
  in_opening true e i = i
  in_opening false e i = elim i [ ]

  same_message : (c d : Content) → ◌≡◌ {A = Option Content} (Some c) (Some d) → c ≡ d
  same_message c d e = cc

  pub completed_before : (g p : ℕ) (e : Envelope) (before after : ProgramOrder) (c : Content) (v : Event) → program_order r p ≡ before ++ inl e ∷ after
      → opened (book_of l) e ≡ Some c → DoesIn behaviour l v (job.publish c) → In {X = ℕ × ℕ} (g, number_of c.own) (bodies l) → Completing g before
  completed_before g p e before after c v is opens does i =
      ⊎_elim (λ j. absurd (not_first (in_opening (eqb p 0) e j))) (λ s. in_core s)
      (placed (opening_of p) (r.core p) (closing_of p) before e after is)
    where
      cause : v ≡ completion g
      cause = body_by_completion behaviour l plan g v c i does

      not_first : In e (map sealed r.opening) → ⊥
      not_first j =
          let f = first_opened r.opening
          (each_left (λ m. DoesIn behaviour l start (job.publish m)) r.opening r.unsent
          (subst (Each (λ m. DoesIn behaviour l start (job.publish m))) r.opens (value behaviour l plan).first))
          r.opens_back
          (each_left (form behaviour l plan).Formed r.opening r.unsent
          (subst (Each (form behaviour l plan).Formed) r.opens (order behaviour l plan).first)) e j in
          let same : f.0 ≡ c = same_message f.0 c (sym f.1 ∙ opens) in
          let by_start : start ≡ completion g = (once behaviour l plan).event start v f.0 c f.2 does (ap (λ (d : Content). number_of d.own) same) ∙ cause in
          cc

      in_core : Stands (r.core p) before e → Completing g before
      in_core s =
          let k : ℕ = number_of c.own in
          let xs : List Asked = s.first ++ (to_queue (publish e), from_queue s.answer) ∷ [] in
          let core : IsCoreRun (X behaviour l plan) taking xs = core_left (X behaviour l plan) taking xs s.last
          (subst (IsCoreRun (X behaviour l plan) taking) s.is (r.is_core p)) in
          let good = each_left (λ x. GoodAnswer (X behaviour l plan) (right_goods (X behaviour l plan) (form behaviour l plan) (Does behaviour l plan)) x.0 x.1)
          xs s.last
          (subst (Each (λ x. GoodAnswer (X behaviour l plan) (right_goods (X behaviour l plan) (form behaviour l plan) (Does behaviour l plan)) x.0 x.1)) s.is
          (answers_right (X behaviour l plan) (form behaviour l plan) (Does behaviour l plan) (order behaviour l plan) (value behaviour l plan)
          (inner_run behaviour l plan r) p)) in
          let bound = core_run (X behaviour l plan) (form behaviour l plan) (Does behaviour l plan) (order behaviour l plan) (value behaviour l plan)
          (once behaviour l plan) k v (λ w m other q. (once behaviour l plan).event w v m c other does q) taking xs tt core good in
          let weight : publishes_task (X behaviour l plan) k (publish e, s.answer) ≡ 1 =
          ap (λ x. of_opened (X behaviour l plan) k x) opens ∙ ap (λ b. cond b 1 0) (eq-eqb k k refl) in
          let some : publishes_task (X behaviour l plan) k (publish e, s.answer) ≤ total (publishes_task (X behaviour l plan) k) (broker_calls xs) =
          in_total (publishes_task (X behaviour l plan) k) (broker_calls xs) (publish e, s.answer) (made_last s.first e s.answer) in
          let before_it : total (shows (X behaviour l plan) (form behaviour l plan) v) (backend_calls xs)
          ≡ total (shows (X behaviour l plan) (form behaviour l plan) (completion g)) (backend_calls s.first) =
          ap₂ (λ w cs. total (shows (X behaviour l plan) (form behaviour l plan) w) cs) cause (calls_before s.first e s.answer) in
          ⊎_elim (λ z. absurd (omega (arith, weight, some, bound, before_it, z)))
          (λ h. shown g before h.0 h.2 (s.all h.0 h.1))
          (find_heavy (shows (X behaviour l plan) (form behaviour l plan) (completion g)) (backend_calls s.first))
