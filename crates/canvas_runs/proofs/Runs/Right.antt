-- In every run, each message published is that of a task that is run, and each outcome stored is the task's.
use Rattle.std.proofs.Common.{◌≡◌, ℕ, zero, suc, ◌+◌, ◌*◌, ◌<◌, Bool, true, false, cond, eqb, List, [], ◌∷◌, ◌++◌, map, Some, None, refl, sym, ap, subst, ◌∙◌, arith}
use Rattle.canvas_task.specs.declared.outcome.Outcome.{Outcome}
use Rattle.canvas_history.specs.Lists.{In, Each, by, seconds, firsts}
use Rattle.canvas_history.specs.declared.stored.Stored.TheVariants.{First}
use Rattle.canvas_history.specs.Table as table
use Rattle.canvas_history.specs.Queue as queue
use Rattle.canvas_effects.specs.Job as job
use Rattle.canvas_runs.specs.Core as core
use Rattle.canvas_runs.specs.Protocol.{Protocol}
use Rattle.canvas_runs.specs.Core.{to_queue, to_table, ack, acked, from_queue, from_table, refused, rested, taking, Doing, Asked, Answer, answered, Suits, IsCoreRun}
use Rattle.canvas_effects.specs.Events.{Event, start, running, end_of_line, completion}
use Rattle.canvas_runs.proofs.Runs.Meaning.{JobOf, Form, After, Beyond, Ordered, RunsNone, Has, IsRun, IsSkipped, IsReturned, Evaluates}
use Rattle.canvas_runs.specs.Calls.{QueueAnswered, TableAnswered, broker_call, backend_call, broker_calls, backend_calls}
use Rattle.canvas_runs.proofs.Runs.Run.{Run}
use Rattle.canvas_runs.specs.Run.{IsRead, published_all}
use Rattle.canvas_runs.proofs.Lists.Words.{each_append, each_left, each_right, each_weaker, each_from_in, in_each}
use Rattle.canvas_runs.proofs.Runs.GoodRuns.{Goods, GoodJob, GoodAnswer, GoodAsk, Careful, Closed, keeps, goods_from_careful}
use Rattle.canvas_runs.proofs.Objects.Histories.{GoodPublish, GoodTake, CarefulCalls, follows_careful, follows_takes, follows_publishes, queue_takes, GoodAgain, queue_agains, all_careful, each_by, each_from_by, each_seconds, each_entry, GoodFirst, GoodRead, table_reads}

module _ {E : Type 0} (X : Protocol E) where
  AllSuit : List (Asked X × Answer X) → Type 0
  AllSuit xs = Each (λ x. Suits x.0 x.1) xs

  suits_from_run : (s : Doing X) (xs : List (Asked X × Answer X)) → IsCoreRun X s xs → AllSuit xs
  unfolding AllSuit
  suits_from_run s [] r = tt
  suits_from_run s (x ∷ xs) r = (r.1.0, suits_from_run (answered X s x.1) xs r.2)

  -- from a core run to its calls
  module _ (Y : Goods X) (Good : E → Type 0) (sends : (e : E) → GoodAsk X Y (to_queue (queue.publish e)) → Good e) (takes : (e : E) → Good e
      → GoodAnswer X Y (to_queue queue.take) (from_queue (Some e))) where
    careful_step : (a : Asked X) (r : Answer X) (rest : List (QueueAnswered E)) → Suits a r → ((t : ℕ) (o : Outcome) → Y.Found t o) →
        GoodAsk X Y a → (GoodAnswer X Y a r → CarefulCalls Good rest) → CarefulCalls Good (broker_call a r ++ rest)
    careful_step (to_queue queue.take) (from_queue None) rest s f g k = k tt
    careful_step (to_queue queue.take) (from_queue (Some e)) rest s f g k = λ good. k (takes e good)
    careful_step (to_queue (queue.publish e)) (from_queue None) rest s f g k = (sends e g, k tt)
    careful_step (to_queue (queue.publish e)) refused rest s f g k = k tt
    careful_step (to_table (table.store t o)) (from_table (table.was b)) rest s f g k = k tt
    careful_step (to_table (table.part n t)) (from_table (table.count i)) rest s f g k = k tt
    careful_step (to_table (table.read t)) (from_table (table.found None)) rest s f g k = k tt
    careful_step (to_table (table.read t)) (from_table (table.found (Some o))) rest s f g k = k (f t o)
    careful_step core.rest (rested b) more s f g k = k tt
    careful_step ack acked more s f g k = k tt
    careful_step a r rest s f g k = elim s [ ]

    careful_calls : (xs : List (Asked X × Answer X)) → AllSuit xs → ((t : ℕ) (o : Outcome) → Y.Found t o) → Careful X Y xs
        → CarefulCalls Good (broker_calls xs)
    unfolding AllSuit
    careful_calls [] s f k = tt
    careful_calls (x ∷ xs) s f k = careful_step x.0 x.1 (broker_calls xs) s.0 f k.0 (λ g. careful_calls xs s.1 f (k.1 g))

  -- good takes and good reads make good answers
  module _ (Y : Goods X) (Good : E → Type 0) (takes : (e : E) → Good e → GoodAnswer X Y (to_queue queue.take) (from_queue (Some e))) where
    answer_step : (a : Asked X) (r : Answer X) → Suits a r → Each (GoodTake Good) (broker_call a r) → Each (GoodRead Y.Found) (backend_call a r)
        → GoodAnswer X Y a r
    answer_step (to_queue queue.take) (from_queue None) s g k = tt
    answer_step (to_queue queue.take) (from_queue (Some e)) s g k = takes e g.0
    answer_step (to_table (table.read t)) (from_table (table.found None)) s g k = tt
    answer_step (to_table (table.read t)) (from_table (table.found (Some o))) s g k = k.0
    answer_step (to_queue (queue.publish e)) (from_queue None) s g k = tt
    answer_step (to_queue (queue.publish e)) refused s g k = tt
    answer_step (to_table (table.store t o)) (from_table (table.was b)) s g k = tt
    answer_step (to_table (table.part n t)) (from_table (table.count i)) s g k = tt
    answer_step core.rest (rested b) s g k = tt
    answer_step ack acked s g k = tt
    answer_step a r s g k = elim s [ ]

    good_answers : (xs : List (Asked X × Answer X)) → AllSuit xs → Each (GoodTake Good) (broker_calls xs) → Each (GoodRead Y.Found) (backend_calls xs)
        → Each (λ x. GoodAnswer X Y x.0 x.1) xs
    unfolding AllSuit
    good_answers [] s g k = tt
    good_answers (x ∷ xs) s g k = (
      answer_step x.0 x.1 s.0 (each_left (GoodTake Good) _ _ g) (each_left (GoodRead Y.Found) _ _ k),
      good_answers xs s.1 (each_right (GoodTake Good) _ _ g) (each_right (GoodRead Y.Found) _ _ k),
    )

  module _ (Y : Goods X) (Good : E → Type 0) (sends : (e : E) → GoodAsk X Y (to_queue (queue.publish e)) → Good e) where
    publish_step : (a : Asked X) (r : Answer X) → GoodAsk X Y a → Each (GoodPublish Good) (broker_call a r)
    publish_step (to_queue (queue.publish e)) (from_queue x) g = (sends e g, tt)
    publish_step (to_queue queue.take) (from_queue (Some e)) g = (tt, tt)
    publish_step (to_queue (queue.redeliver e)) (from_queue x) g = (tt, tt)
    publish_step a r g = tt

    good_publishes : (xs : List (Asked X × Answer X)) → Each (λ x. GoodAsk X Y x.0) xs → Each (GoodPublish Good) (broker_calls xs)
    good_publishes [] g = tt
    good_publishes (x ∷ xs) g = each_append (GoodPublish Good) _ _ (publish_step x.0 x.1 g.0) (good_publishes xs g.1)

  module _ (Y : Goods X) where
    first_step : (a : Asked X) (r : Answer X) → GoodAsk X Y a → Each (GoodFirst Y.Kept) (backend_call a r)
    first_step (to_table (table.store t o)) (from_table (table.was First)) g = (g, tt)
    first_step (to_table c) (from_table r) g = (tt, tt)
    first_step a r g = tt

    good_firsts : (xs : List (Asked X × Answer X)) → Each (λ x. GoodAsk X Y x.0) xs → Each (GoodFirst Y.Kept) (backend_calls xs)
    good_firsts [] g = tt
    good_firsts (x ∷ xs) g = each_append (GoodFirst Y.Kept) _ _ (first_step x.0 x.1 g.0) (good_firsts xs g.1)

-- all that is right of a plan
abbrev pub right_goods : {E : Type 0} (X : Protocol E) (F : Form X) (Does : Event → JobOf X → Type 0) → Goods X
right_goods X F Does = record {
  Taken = λ m. F.Formed m × IsRun X Does m;
  Found = Has X Does;
  Sent = λ m. F.Formed m × IsRun X Does m;
  Kept = Has X Does;
  Skipped = IsSkipped X Does;
  Part = λ g t c. F.FormedPart g t c × IsReturned X Does g t c;
  members = F.members;
}

module _ {E : Type 0} (X : Protocol E) (F : Form X) (Does : Event → JobOf X → Type 0) (order : Ordered X F) (value : Evaluates X Does F) where
  ended_right : (j : ℕ) (e : Event) (x : JobOf X) → RunsNone e → After X F j x → Does e x → GoodJob X (right_goods X F Does) x
  ended_right j e (job.store t o) n a d = (e, n, d)
  ended_right j e (job.publish m) n a d = (a.1, (e, d))
  ended_right j e (job.part g t c) n a d = (a.1, (e, d))

  completed_right : (g : ℕ) (e : Event) (x : JobOf X) → RunsNone e → Beyond X F g x → Does e x → GoodJob X (right_goods X F Does) x
  completed_right g e (job.store t o) n a d = (e, n, d)
  completed_right g e (job.publish m) n a d = (a.1, (e, d))
  completed_right g e (job.part h t c) n a d = (a.1, (e, d))

  pub right_closed : Closed X (right_goods X F Does)
  right_closed = record {
    own = λ m f. (running (X.no m), value.own m f.1);
    skipped = λ t o s. (s.0, s.2);
    ended = λ m f. each_from_in _ (λ x i. ended_right (X.no m) (end_of_line (X.no m)) x tt
        (in_each (After X F (X.no m)) _ (order.ended m (X.outcome m) f.0) x i)
        (in_each (Does (end_of_line (X.no m))) _ (value.ended m f.0 f.1) x i));
    completed = λ g t c fs p e all. each_from_in _ (λ x i. completed_right g (completion g) x tt
        (in_each (Beyond X F g) _ (order.completed g t c fs p.0 e) x i)
        (in_each (Does (completion g)) _ (value.completed g t c fs p.0 p.1 e all) x i));
    size = λ g t c p. order.size g t c p.0;
    place = order.place;
  }

module _ {E : Type 0} (X : Protocol E) (F : Form X) (Does : Event → JobOf X → Type 0) (order : Ordered X F) (value : Evaluates X Does F) (run : Run X F) where
  abbrev Calls : ℕ → List (QueueAnswered E)
  Calls p = cond (eqb p 0) (published_all (map X.sealed run.opening)) [] ++ broker_calls (run.core p)

  all_suit : (p : ℕ) → AllSuit X (run.core p)
  all_suit p = suits_from_run X taking (run.core p) (run.is_core p)

  -- only by form
  abbrev formed_goods : Goods X
  formed_goods = record {
    Taken = F.Formed;
    Found = λ t o. Unit;
    Sent = F.Formed;
    Kept = λ t o. Unit;
    Skipped = λ t o.
        Unit;
    Part = F.FormedPart;
    members = F.members;
  }

  after_good : (j : ℕ) (x : JobOf X) → After X F j x → GoodJob X formed_goods x
  after_good j (job.store t o) a = tt
  after_good j (job.publish m) a = a.1
  after_good j (job.part g t c) a = a.1

  beyond_good : (g : ℕ) (x : JobOf X) → Beyond X F g x → GoodJob X formed_goods x
  beyond_good j (job.store t o) a = tt
  beyond_good j (job.publish m) a = a.1
  beyond_good j (job.part g t c) a = a.1

  formed_closed : Closed X formed_goods
  formed_closed = record {
    own = λ m f. tt;
    skipped = λ t o s. tt;
    ended = λ m f. each_weaker (after_good (X.no m)) _ (order.ended m (X.outcome m) f);
    completed = λ g t c fs p e all. each_weaker (beyond_good g) _ (order.completed g t c fs p e);
    size = order.size;
    place = order.place;
  }

  -- what is known of an envelope on the queue, with P of its message
  abbrev Sealed : (X.Message → Type 0) → E → Type 0
  Sealed P e = (m : X.Message) × (e ≡ X.sealed m) × X.Back m × P m

  some_same : {A : Type 0} (a b : A) → Some a ≡ Some b → a ≡ b
  some_same a b e = cc

  opened_message : (P : X.Message → Type 0) → ((m : X.Message) → P m → F.Formed m) → (e : E) → Sealed P e → (m : X.Message) → X.opened e ≡ Some m → P m
  opened_message P formed e (n, same, back, p) m eq =
      subst P (some_same n m (sym (order.opened n (formed n p) back) ∙ (ap X.opened (sym same) ∙ eq))) p

  opening_good : (P : X.Message → Type 0) (ms : List X.Message) → Each X.Back ms → Each P ms → Each (GoodPublish (Sealed P)) (published_all (map X.sealed ms))
  opening_good P [] b g = tt
  opening_good P (m ∷ ms) b g = ((m, refl, b.0, g.0), opening_good P ms b.1 g.1)

  opening_careful : (P : X.Message → Type 0) (ms : List X.Message) (cs : List (QueueAnswered E)) → Each X.Back ms → Each P ms
      → CarefulCalls (Sealed P) cs
      → CarefulCalls (Sealed P) (published_all (map X.sealed ms) ++ cs)
  opening_careful P [] cs b g k = k
  opening_careful P (m ∷ ms) cs b g k = ((m, refl, b.0, g.0), opening_careful P ms cs b.1 g.1 k)

  opening_each : (P : X.Message → Type 0) → Each P F.first → Each P run.opening
  opening_each P g = each_left P run.opening run.unsent (subst (Each P) run.opens g)

  with_opening : (b : Bool) (cs : List (QueueAnswered E)) → CarefulCalls (Sealed F.Formed) cs
      → CarefulCalls (Sealed F.Formed) (cond b (published_all (map X.sealed run.opening)) [] ++ cs)
  with_opening true cs k = opening_careful F.Formed run.opening cs run.opens_back (opening_each F.Formed order.first) k
  with_opening false cs k = k

  formed_calls : (p : ℕ) → CarefulCalls (Sealed F.Formed) (Calls p)
  formed_calls p = with_opening (eqb p 0) _
      (careful_calls X formed_goods (Sealed F.Formed) (λ e g. g) (λ e g m q. opened_message F.Formed (λ n f. f) e g m q) (run.core p) (all_suit p) (λ t o. tt)
      (keeps X formed_goods formed_closed taking (run.core p) tt (run.is_core p)))

  -- each publish is of a well formed message
  pub formed : Each (λ x. GoodPublish (Sealed F.Formed) x.1) run.broker
  formed = all_careful (Sealed F.Formed) [] [] run.broker run.queue tt tt (λ p. follows_careful (Sealed F.Formed) (run.follows p) tt (formed_calls p))

  -- with rank 2 k for the message of task k and 2 k + 1 for its outcome: what comes before rank r is right, so what comes at it is
  abbrev TakenBelow : ℕ → X.Message → Type 0
  TakenBelow r m = F.Formed m × (2 * X.no m < r → IsRun X Does m)

  abbrev HasBelow : ℕ → ℕ → Outcome → Type 0
  HasBelow r t o = 2 * t + 1 < r → Has X Does t o

  abbrev goods : ℕ → Goods X
  goods r = record {
    Taken = TakenBelow r;
    Found = HasBelow r;
    Sent = TakenBelow (suc r);
    Kept = HasBelow (suc r);
    Skipped = HasBelow (suc r);
    Part = λ g t c. F.FormedPart g t c × (2 * t + 1 < r → IsReturned X Does g t c);
    members = F.members;
  }

  ended_job : (r j : ℕ) (e : Event) (x : JobOf X) → After X F j x → (2 * j < r → Does e x) → GoodJob X (goods r) x
  ended_job r j e (job.store t o) a d = λ b. (e, d (omega arith))
  ended_job r j e (job.publish m) a d = (a.1, λ b. (e, d (omega (arith, a.0))))
  ended_job r j e (job.part g t c) a d = (a.1, λ b. (e, d (omega (arith, a.0))))

  completed_job : (r g : ℕ) (e : Event) (x : JobOf X) → Beyond X F g x → ((n : ℕ) → Each (λ u. u < n) (F.members g) → 2 * n < suc r → Does e x)
      → GoodJob X (goods r) x
  completed_job r g e (job.store t o) a d = λ b. (e, d t a (omega arith))
  completed_job r g e (job.publish m) a d = (a.1, λ b. (e, d (X.no m) a.0 b))
  completed_job r g e (job.part h t c) a d = (a.1, λ b. (e, d t a.0 (omega arith)))

  found_below : (r n : ℕ) (fs : List (ℕ × Outcome)) → 2 * n < suc r → Each (λ u. u < n) (firsts fs) → Each (λ f. HasBelow r f.0 f.1) fs
      → Each (λ f. Has X Does f.0 f.1) fs
  found_below r n [] b u g = tt
  found_below r n (f ∷ fs) b u g = (g.0 (omega (arith, u.0)), found_below r n fs b u.1 g.1)

  goods_closed : (r : ℕ) → Closed X (goods r)
  goods_closed r = record {
    own = λ m f b. (running (X.no m), value.own m (f.1 (omega arith)));
    skipped = λ t o s. s;
    ended = λ m f. each_from_in _ (λ x i. ended_job r (X.no m) (end_of_line (X.no m)) x
        (in_each (After X F (X.no m)) _ (order.ended m (X.outcome m) f.0) x i)
        (λ b. in_each (Does (end_of_line (X.no m))) _ (value.ended m f.0 (f.1 b)) x i));
    completed = λ g t c fs p e all. each_from_in _ (λ x i. completed_job r g (completion g) x
        (in_each (Beyond X F g) _ (order.completed g t c fs p.0 e) x i)
        (λ n u b. in_each (Does (completion g)) _
        (value.completed g t c fs p.0 (p.1 (before_member r n t (F.members g) (order.member g t c p.0) u b)) e
        (found_below r n fs b (subst (Each (λ u. u < n)) (sym e) u) all)) x i));
    size = λ g t c p. order.size g t c p.0;
    place = order.place;
  }
    where
      before_member : (r n t : ℕ) (us : List ℕ) → In t us → Each (λ u. u < n) us → 2 * n < suc r → 2 * t + 1 < r
      before_member r n t us i u b = let less : t < n = in_each (λ u. u < n) us u t i in omega arith

  abbrev RightBelow : ℕ → Type 0
  RightBelow r = Each (λ x. GoodPublish (Sealed (TakenBelow r)) x.1) run.broker × Each (GoodFirst (HasBelow r)) (seconds run.backend)

  -- the takes and the reads of one caller
  takes_good : (r : ℕ) (p : ℕ) → RightBelow r → Each (GoodTake (Sealed (TakenBelow r))) (broker_calls (run.core p))
  takes_good r p k =
      let all : Each (GoodTake (Sealed (TakenBelow r))) (seconds run.broker) =
      queue_takes (Sealed (TakenBelow r)) [] [] (seconds run.broker) run.queue tt tt (each_seconds (GoodPublish (Sealed (TakenBelow r))) run.broker k.0) in
      each_right (GoodTake (Sealed (TakenBelow r))) (cond (eqb p 0) (published_all (map X.sealed run.opening)) []) _
      (follows_takes (Sealed (TakenBelow r)) (run.follows p) tt (each_by (GoodTake (Sealed (TakenBelow r))) p run.broker all))

  reads_good : (r : ℕ) (p : ℕ) → RightBelow r → Each (GoodRead (HasBelow r)) (backend_calls (run.core p))
  reads_good r p k =
      each_left (GoodRead (HasBelow r)) _ _ (subst (Each (GoodRead (HasBelow r))) (run.keeps p)
      (each_by (GoodRead (HasBelow r)) p run.backend (table_reads (HasBelow r) [] [] (seconds run.backend) run.table tt k.1)))

  asks_below : (r : ℕ) (p : ℕ) → RightBelow r → Each (λ x. GoodAsk X (goods r) x.0) (run.core p)
  asks_below r p k = goods_from_careful X (goods r) (run.core p)
      (keeps X (goods r) (goods_closed r) taking (run.core p) tt (run.is_core p))
      (good_answers X (goods r) (Sealed (TakenBelow r)) (λ e g m q. opened_message (TakenBelow r) (λ n f. f.0) e g m q)
      (run.core p) (all_suit p) (takes_good r p k) (reads_good r p k))

  opening_below : (r : ℕ) (b : Bool) → Each (GoodPublish (Sealed (TakenBelow r))) (cond b (published_all (map X.sealed run.opening)) [])
  opening_below r true = opening_good (TakenBelow r) run.opening run.opens_back (opening_each (TakenBelow r) (firsts_below F.first order.first value.first))
    where
      firsts_below : (ms : List X.Message) → Each F.Formed ms → Each (λ m. Does start (job.publish m)) ms → Each (TakenBelow r) ms
      firsts_below [] f d = tt
      firsts_below (m ∷ ms) f d = ((f.0, λ b. (start, d.0)), firsts_below ms f.1 d.1)
  opening_below r false = tt

  closing_below : (r : ℕ) (b : Bool) → Each (GoodFirst (HasBelow r)) (cond b run.closing [])
  closing_below r true = each_weaker only_reads run.closing run.closes
    where
      only_reads : (c : TableAnswered) → IsRead c → GoodFirst (HasBelow r) c
      only_reads (table.read t, table.found o) i = tt
      only_reads c i = elim i [ ]
  closing_below r false = tt

  publishes_below : (r : ℕ) (p : ℕ) → RightBelow r → Each (GoodPublish (Sealed (TakenBelow (suc r)))) (by p run.broker)
  publishes_below r p k = follows_publishes (Sealed (TakenBelow (suc r))) (run.follows p)
      (each_append (GoodPublish (Sealed (TakenBelow (suc r)))) (cond (eqb p 0) (published_all (map X.sealed run.opening)) []) _
      (opening_below (suc r) (eqb p 0))
      (good_publishes X (goods r) (Sealed (TakenBelow (suc r))) (λ e g. g) (run.core p) (asks_below r p k)))

  one_rank : (r : ℕ) → RightBelow r → RightBelow (suc r)
  one_rank r k = (
    each_entry (GoodPublish (Sealed (TakenBelow (suc r)))) run.broker
        (each_from_by (GoodPublish (Sealed (TakenBelow (suc r)))) run.broker (λ p. publishes_below r p k)),
    each_from_by (GoodFirst (HasBelow (suc r))) run.backend (λ p. subst (Each (GoodFirst (HasBelow (suc r)))) (sym (run.keeps p))
        (each_append (GoodFirst (HasBelow (suc r))) (backend_calls (run.core p)) _
        (good_firsts X (goods r) (run.core p) (asks_below r p k)) (closing_below (suc r) (eqb p 0)))),
  )

  -- for every rank
  right_below : (r : ℕ) → RightBelow r
  right_below zero =
      (each_weaker weaker run.broker formed, each_first (seconds run.backend))
    where
      weaker : (x : ℕ × QueueAnswered E) → GoodPublish (Sealed F.Formed) x.1 → GoodPublish (Sealed (TakenBelow 0)) x.1
      weaker (p, (queue.publish e, r)) (m, same, back, f) = (m, same, back, (f, λ b. absurd (omega arith)))
      weaker x g = tt

      each_first : (cs : List TableAnswered) → Each (GoodFirst (HasBelow 0)) cs
      each_first [] = tt
      each_first ((table.store t o, table.was First) ∷ cs) = (λ b. absurd (omega arith), each_first cs)
      each_first (c ∷ cs) = (tt, each_first cs)
  right_below (suc r) = one_rank r (right_below r)

  each_all : {A : Type 0} (P : ℕ → A → Type 0) (xs : List A) → ((r : ℕ) → Each (P r) xs) → Each (λ x. (r : ℕ) → P r x) xs
  each_all P [] f = tt
  each_all P (x ∷ xs) f = (λ r. (f r).0, each_all P xs (λ r. (f r).1))

  -- the message of a task that is run, sealed
  abbrev pub IsRunSealed : E → Type 0
  IsRunSealed e = (m : X.Message) × (e ≡ X.sealed m) × X.Back m × F.Formed m × IsRun X Does m

  run_sealed : (e : E) → ((r : ℕ) → Sealed (TakenBelow r) e) → IsRunSealed e
  run_sealed e all =
      let m : X.Message = (all 0).0 in
      let high : TakenBelow (suc (2 * X.no m)) m =
      opened_message (TakenBelow (suc (2 * X.no m))) (λ n f. f.0) e (all (suc (2 * X.no m))) m (ap X.opened (all 0).1 ∙ order.opened m (all 0).3.0 (all 0).2) in
      (m, (all 0).1, (all 0).2, high.0, high.1 (omega arith))

  -- each publish is the sealed message of a task that is run
  pub publishes_right : Each (λ x. GoodPublish IsRunSealed x.1) run.broker
  publishes_right = each_weaker whole run.broker (each_all (λ r x. GoodPublish (Sealed (TakenBelow r)) x.1) run.broker (λ r. (right_below r).0))
    where
      whole : (x : ℕ × QueueAnswered E) → ((r : ℕ) → GoodPublish (Sealed (TakenBelow r)) x.1) → GoodPublish IsRunSealed x.1
      whole (p, (queue.publish e, r)) all = run_sealed e all
      whole x all = tt

  -- and so is each envelope that is delivered again
  pub agains_right : Each (GoodAgain IsRunSealed) (seconds run.broker)
  agains_right = queue_agains IsRunSealed [] [] (seconds run.broker) run.queue tt tt (each_seconds (GoodPublish IsRunSealed) run.broker publishes_right)

  -- each outcome stored first is the task's
  pub firsts_right : Each (GoodFirst (Has X Does)) (seconds run.backend)
  firsts_right = each_weaker whole (seconds run.backend) (each_all (λ r c. GoodFirst (HasBelow r) c) (seconds run.backend) (λ r. (right_below r).1))
    where
      whole : (c : TableAnswered) → ((r : ℕ) → GoodFirst (HasBelow r) c) → GoodFirst (Has X Does) c
      whole (table.store t o, table.was First) all = all (2 * t + 2) (omega arith)
      whole c all = tt

  -- what each caller takes and reads is right
  pub answers_right : (p : ℕ) → Each (λ x. GoodAnswer X (right_goods X F Does) x.0 x.1) (run.core p)
  answers_right p =
      good_answers X (right_goods X F Does) IsRunSealed
      (λ e g m q. opened_message (λ n. F.Formed n × IsRun X Does n) (λ n f. f.0) e (g.0, g.1, g.2, (g.3, g.4)) m q)
      (run.core p) (all_suit p)
      (each_right (GoodTake IsRunSealed) (cond (eqb p 0) (published_all (map X.sealed run.opening)) []) _
      (follows_takes IsRunSealed (run.follows p) tt (each_by (GoodTake IsRunSealed) p run.broker
      (queue_takes IsRunSealed [] [] (seconds run.broker) run.queue tt tt (each_seconds (GoodPublish IsRunSealed) run.broker publishes_right)))))
      (each_left (GoodRead (Has X Does)) _ _ (subst (Each (GoodRead (Has X Does))) (run.keeps p)
      (each_by (GoodRead (Has X Does)) p run.backend (table_reads (Has X Does) [] [] (seconds run.backend) run.table tt firsts_right))))

  abbrev pub CallRight : TableAnswered → Type 0
  CallRight (table.store t o, table.was b) = Has X Does t o
  CallRight (table.part g t, table.count n) = (c : X.Carried) × IsReturned X Does g t c
  CallRight c = Unit

  return_step : (a : Asked X) (r : Answer X) → GoodAsk X (right_goods X F Does) a → Each CallRight (backend_call a r)
  return_step (to_table (table.store t o)) (from_table (table.was b)) g = (g, tt)
  return_step (to_table (table.part n t)) (from_table (table.count i)) g = ((g.0, g.1.1), tt)
  return_step (to_table c) (from_table r) g = (tt, tt)
  return_step a r g = tt

  return_steps : (xs : List (Asked X × Answer X)) → Each (λ x. GoodAsk X (right_goods X F Does) x.0) xs → Each CallRight (backend_calls xs)
  return_steps [] g = tt
  return_steps (x ∷ xs) g = each_append CallRight _ _ (return_step x.0 x.1 g.0) (return_steps xs g.1)

  closing_returned : (b : Bool) → Each CallRight (cond b run.closing [])
  closing_returned true = each_weaker only_reads run.closing run.closes
    where
      only_reads : (c : TableAnswered) → IsRead c → CallRight c
      only_reads (table.read t, table.found o) i = tt
      only_reads c i = elim i [ ]
  closing_returned false = tt

  -- each outcome stored, First or Again, is the task's, and each part returned is one of the plan's
  pub calls_right : Each CallRight (seconds run.backend)
  calls_right = each_from_by CallRight run.backend (λ p. subst (Each CallRight) (sym (run.keeps p))
      (each_append CallRight (backend_calls (run.core p)) _
      (return_steps (run.core p) (goods_from_careful X (right_goods X F Does) (run.core p)
      (keeps X (right_goods X F Does) (right_closed X F Does order value) taking (run.core p) tt (run.is_core p)) (answers_right p)))
      (closing_returned (eqb p 0))))
