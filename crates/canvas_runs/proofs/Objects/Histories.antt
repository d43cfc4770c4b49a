-- What the broker's list and the backend's list give to each caller.
use Rattle.std.proofs.Common.{◌≡◌, ℕ, Bool, true, false, cond, eqb, List, [], ◌∷◌, ◌++◌, Option, Some, None, refl, sym, subst}
use Rattle.std.proofs.lemmas.Bool.{eqb-true, eq-eqb}
use Rattle.canvas_task.specs.declared.outcome.Outcome.{Outcome}
use Rattle.canvas_history.specs.declared.stored.Stored.TheVariants.{First, Again}
use Rattle.canvas_history.specs.Table as table
use Rattle.canvas_history.specs.Queue as queue
use Rattle.canvas_history.specs.Lists.{Each, by, seconds}
use Rattle.canvas_runs.specs.Calls.{QueueAnswered, TableAnswered}
use Rattle.canvas_runs.proofs.Objects.Accords.{FollowsCore, follows_all, follows_publish, follows_list_take, follows_core_take, follows_again}
use Rattle.canvas_runs.proofs.Objects.Replay.{IsQueue, IsTable, look_up}
use Rattle.canvas_runs.proofs.Lists.Words.{each_append, in_each}

module _ {E : Type 0} (Good : E → Type 0) where
  abbrev pub GoodPublish : QueueAnswered E → Type 0
  GoodPublish (queue.publish e, r) = Good e
  GoodPublish c = Unit

  abbrev pub GoodTake : QueueAnswered E → Type 0
  GoodTake (queue.take, Some e) = Good e
  GoodTake c = Unit

  -- each publish is good, as long as the takes before it are
  abbrev pub CarefulCalls : List (QueueAnswered E) → Type 0
  CarefulCalls [] = Unit
  CarefulCalls ((queue.publish e, r) ∷ cs) = Good e × CarefulCalls cs
  CarefulCalls ((queue.take, Some e) ∷ cs) = Good e → CarefulCalls cs
  CarefulCalls (c ∷ cs) = CarefulCalls cs

  pub follows_careful : {ts : List E} {cs ls : List (QueueAnswered E)} → FollowsCore ts cs ls → Each Good ts → CarefulCalls cs → CarefulCalls ls
  follows_careful follows_all g k = tt
  follows_careful (follows_publish f) g k = (k.0, follows_careful f g k.1)
  follows_careful (follows_list_take {ts = ts} f) g k = λ good. follows_careful f (each_append Good ts _ g (good, tt)) k
  follows_careful (follows_core_take f) g k = follows_careful f g.1 (k g.0)
  follows_careful (follows_again f) g k = follows_careful f g k

  pub follows_takes : {ts : List E} {cs ls : List (QueueAnswered E)} → FollowsCore ts cs ls → Each Good ts → Each GoodTake ls → Each GoodTake cs
  follows_takes follows_all g k = tt
  follows_takes (follows_publish f) g k = (tt, follows_takes f g k.1)
  follows_takes (follows_list_take {ts = ts} f) g k = follows_takes f (each_append Good ts _ g (k.0, tt)) k.1
  follows_takes (follows_core_take f) g k = (g.0, follows_takes f g.1 k)
  follows_takes (follows_again f) g k = follows_takes f g k.1

  pub follows_publishes : {ts : List E} {cs ls : List (QueueAnswered E)} → FollowsCore ts cs ls → Each GoodPublish cs → Each GoodPublish ls
  follows_publishes follows_all k = tt
  follows_publishes (follows_publish f) k = (k.0, follows_publishes f k.1)
  follows_publishes (follows_list_take f) k = (tt, follows_publishes f k)
  follows_publishes (follows_core_take f) k = follows_publishes f k.1
  follows_publishes (follows_again f) k = (tt, follows_publishes f k)

  pub queue_takes : (ts q : List E) (cs : List (QueueAnswered E)) → IsQueue ts q cs → Each Good ts → Each Good q → Each GoodPublish cs → Each GoodTake cs
  queue_takes ts q [] l h g k = tt
  queue_takes ts q ((queue.publish e, r) ∷ cs) l h g k = (tt, queue_takes ts (q ++ e ∷ []) cs l h (each_append Good q _ g (k.0, tt)) k.1)
  queue_takes ts q ((queue.take, Some e) ∷ cs) (rest, e', l) h g k =
      let parts : Each Good (e ∷ rest) = subst (Each Good) e' g in
      (parts.0, queue_takes (e ∷ ts) rest cs l (parts.0, h) parts.1 k.1)
  queue_takes ts q ((queue.redeliver e, r) ∷ cs) l h g k =
      (tt, queue_takes ts (q ++ e ∷ []) cs l.1 h (each_append Good q _ g (in_each Good ts h e l.0, tt)) k.1)
  queue_takes ts q (c ∷ cs) l h g k = elim l [ ]

  -- what is delivered again
  abbrev pub GoodAgain : QueueAnswered E → Type 0
  GoodAgain (queue.redeliver e, r) = Good e
  GoodAgain c = Unit

  pub queue_agains : (ts q : List E) (cs : List (QueueAnswered E)) → IsQueue ts q cs → Each Good ts → Each Good q → Each GoodPublish cs → Each GoodAgain cs
  queue_agains ts q [] l h g k = tt
  queue_agains ts q ((queue.publish e, r) ∷ cs) l h g k = (tt, queue_agains ts (q ++ e ∷ []) cs l h (each_append Good q _ g (k.0, tt)) k.1)
  queue_agains ts q ((queue.take, Some e) ∷ cs) (rest, e', l) h g k =
      let parts : Each Good (e ∷ rest) = subst (Each Good) e' g in
      (tt, queue_agains (e ∷ ts) rest cs l (parts.0, h) parts.1 k.1)
  queue_agains ts q ((queue.redeliver e, r) ∷ cs) l h g k =
      let good : Good e = in_each Good ts h e l.0 in
      (good, queue_agains ts (q ++ e ∷ []) cs l.1 h (each_append Good q _ g (good, tt)) k.1)
  queue_agains ts q (c ∷ cs) l h g k = elim l [ ]

  -- an entry by another caller leaves this caller's list
  others_careful : (x : ℕ × QueueAnswered E) (es : List (ℕ × QueueAnswered E)) → GoodTake x.1 → (p : ℕ) → CarefulCalls (by p (x ∷ es)) → CarefulCalls (by p es)
  others_careful x es good p k = go (eqb x.0 p) x.1 good k
    where
      go : (b : Bool) (c : QueueAnswered E) → GoodTake c → CarefulCalls (cond b (c ∷ by p es) (by p es)) → CarefulCalls (by p es)
      go true (queue.publish e, r) good k = k.1
      go true (queue.take, Some t) good k = k good
      go true (queue.redeliver e, r) good k = k
      go true (queue.take, None) good k = k
      go false c good k = k

  -- where each caller is careful, each publish is good
  pub all_careful : (ts q : List E) (es : List (ℕ × QueueAnswered E)) → IsQueue ts q (seconds es) → Each Good ts → Each Good q
      → ((p : ℕ) → CarefulCalls (by p es))
      → Each (λ x. GoodPublish x.1) es
  all_careful ts q [] l h g k = tt
  all_careful ts q ((p, (queue.publish e, a)) ∷ es) l h g k =
      let mine : CarefulCalls ((queue.publish e, a) ∷ by p es) =
      subst (λ b. CarefulCalls (cond b ((queue.publish e, a) ∷ by p es) (by p es))) (eq-eqb p p refl) (k p) in
      (mine.0, all_careful ts (q ++ e ∷ []) es l h (each_append Good q _ g (mine.0, tt)) (λ r. others_careful (p, (queue.publish e, a)) es tt r (k r)))
  all_careful ts q ((p, (queue.redeliver e, a)) ∷ es) l h g k = (
    tt,
    all_careful ts (q ++ e ∷ []) es l.1 h (each_append Good q _ g (in_each Good ts h e l.0, tt)) (λ r. others_careful (
      p,
      (queue.redeliver e, a),
    ) es tt r (k r)),
  )
  all_careful ts q ((p, (queue.take, Some e)) ∷ es) (rest, e', l) h g k =
      let parts : Each Good (e ∷ rest) = subst (Each Good) e' g in
      (tt, all_careful (e ∷ ts) rest es l (parts.0, h) parts.1 (λ r. others_careful (p, (queue.take, Some e)) es parts.0 r (k r)))
  all_careful ts q (x ∷ es) l h g k = elim l [ ]

module _ {X : Type 0} (P : X → Type 0) where
  pub each_by : (p : ℕ) (es : List (ℕ × X)) → Each P (seconds es) → Each P (by p es)
  each_by p [] k = tt
  each_by p (e ∷ es) k = go (eqb e.0 p) (each_by p es k.1)
    where
      go : (b : Bool) → Each P (by p es) → Each P (cond b (e.1 ∷ by p es) (by p es))
      go true r = (k.0, r)
      go false r = r

  drop_by : (p : ℕ) (e : ℕ × X) (es : List (ℕ × X)) → Each P (by p (e ∷ es)) → Each P (by p es)
  drop_by p e es k = go (eqb e.0 p) k
    where
      go : (b : Bool) → Each P (cond b (e.1 ∷ by p es) (by p es)) → Each P (by p es)
      go true k = k.1
      go false k = k

  pub each_from_by : (es : List (ℕ × X)) → ((p : ℕ) → Each P (by p es)) → Each P (seconds es)
  each_from_by [] k = tt
  each_from_by (e ∷ es) k =
      let mine : Each P (e.1 ∷ by e.0 es) = subst (λ b. Each P (cond b (e.1 ∷ by e.0 es) (by e.0 es))) (eq-eqb e.0 e.0 refl) (k e.0) in
      (mine.0, each_from_by es (λ p. drop_by p e es (k p)))

  pub each_entry : (es : List (ℕ × X)) → Each P (seconds es) → Each (λ x. P x.1) es
  each_entry [] k = tt
  each_entry (e ∷ es) k = (k.0, each_entry es k.1)

  pub each_seconds : (es : List (ℕ × X)) → Each (λ x. P x.1) es → Each P (seconds es)
  each_seconds [] k = tt
  each_seconds (e ∷ es) k = (k.0, each_seconds es k.1)

module _ (Good : ℕ → Outcome → Type 0) where
  abbrev pub GoodFirst : TableAnswered → Type 0
  GoodFirst (table.store t o, table.was First) = Good t o
  GoodFirst c = Unit

  abbrev pub GoodFound : ℕ → Option Outcome → Type 0
  GoodFound t None = Unit
  GoodFound t (Some o) = Good t o

  abbrev pub GoodRead : TableAnswered → Type 0
  GoodRead (table.read t, table.found o) = GoodFound t o
  GoodRead c = Unit

  looked_up : (t : ℕ) (os : List (ℕ × Outcome)) → Each (λ x. Good x.0 x.1) os → GoodFound t (look_up t os)
  looked_up t [] g = tt
  looked_up t (x ∷ os) g = go (eqb x.0 t) refl (looked_up t os g.1)
    where
      go : (b : Bool) → eqb x.0 t ≡ b → GoodFound t (look_up t os) → GoodFound t (cond b (Some x.1) (look_up t os))
      go true e r = subst (λ u. Good u x.1) (eqb-true _ _ e) g.0
      go false e r = r

  pub table_reads : (os : List (ℕ × Outcome)) (ps : List (ℕ × ℕ)) (cs : List TableAnswered) → IsTable os ps cs → Each (λ x. Good x.0 x.1) os → Each GoodFirst cs
      → Each GoodRead cs
  table_reads os ps [] l g k = tt
  table_reads os ps ((table.store t o, table.was First) ∷ cs) l g k = (tt, table_reads ((t, o) ∷ os) ps cs l.1 (k.0, g) k.1)
  table_reads os ps ((table.store t o, table.was Again) ∷ cs) l g k = (tt, table_reads os ps cs l.1 g k.1)
  table_reads os ps ((table.part n m, table.count i) ∷ cs) l g k = (tt, table_reads os ((n, m) ∷ ps) cs l.2 g k.1)
  table_reads os ps ((table.read t, table.found o) ∷ cs) l g k = (subst (GoodFound t) (sym l.0) (looked_up t os g), table_reads os ps cs l.1 g k.1)
  table_reads os ps (c ∷ cs) l g k = elim l [ ]
