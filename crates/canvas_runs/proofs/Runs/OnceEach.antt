-- In every run each task's message is published at most once.
use Rattle.std.proofs.Common.{pred, ⊎_elim, ◌≡◌, ℕ, suc, ◌+◌, ◌<◌, ◌≤◌, Bool, true, false, cond, eqb, List, [], ◌∷◌, map, length, Option, Some, None, refl, sym, ap, subst, ◌∙◌, arith}
use Rattle.std.proofs.lemmas.Bool.{eqb-true, eq-eqb}
use Rattle.canvas_task.specs.declared.outcome.Outcome.{Outcome}
use Rattle.canvas_history.specs.declared.stored.Stored.{Stored}
use Rattle.canvas_history.specs.declared.stored.Stored.TheVariants.{First, Again}
use Rattle.canvas_history.specs.Table as table
use Rattle.canvas_history.specs.Queue as queue
use Rattle.canvas_history.specs.Lists.{Each, total, by, seconds}
use Rattle.canvas_effects.specs.Job as job
use Rattle.canvas_effects.specs.Job.{store, publish}
use Rattle.canvas_runs.specs.Protocol.{Protocol}
use Rattle.canvas_runs.specs.Core.{from_queue, from_table, refused, rested, acked, taking, resting, owning, doing, reading, acking, Jobs, Doing, Asked, Answer, is_due, settled, opens, reads_next, all_read, ask, answered, ReadsBack, IsCoreRun}
use Rattle.canvas_effects.specs.Events.{Event, start, running, end_of_line, completion}
use Rattle.canvas_runs.proofs.Runs.MoreAsks.{reads_cases}
use Rattle.canvas_runs.proofs.Runs.Meaning.{JobOf, Form, names, publishes, Ordered, Evaluates, Once}
use Rattle.canvas_runs.specs.Calls.{QueueAnswered, TableAnswered, broker_call, backend_call, broker_calls, backend_calls}
use Rattle.canvas_runs.proofs.Objects.Accords.{FollowsCore, follows_all, follows_publish, follows_list_take, follows_core_take, follows_again}
use Rattle.canvas_runs.proofs.Objects.Replay.{IsTable, FirstWins, kept_first, handed, look_up}
use Rattle.canvas_runs.proofs.Runs.Run.{Run}
use Rattle.canvas_runs.specs.Law.{firsts_one}
use Rattle.canvas_runs.specs.Run.{published_all}
use Rattle.canvas_runs.proofs.Lists.Words.{each_left, in_each, cond_cases}
use Rattle.canvas_runs.proofs.Runs.GoodRuns.{GoodAnswer, GoodSoFar, GoodState, next_good, more_found, all_found}
use Rattle.canvas_runs.proofs.Objects.Histories.{GoodPublish, each_seconds}
use Rattle.canvas_runs.proofs.Runs.Right.{right_goods, right_closed, IsRunSealed, publishes_right, answers_right}
use Rattle.canvas_runs.proofs.Lists.Sums.{total-append, sum_to-le, sum_to-both, total_by, at_zero, total-le, total-zero, find_heavy}

-- the table

-- 1 where this call returns a part of chord g whose reply is n
abbrev pub part_at : ℕ → ℕ → TableAnswered → ℕ
part_at g n (table.part h m, table.count i) = cond (eqb h g) (cond (eqb i n) 1 0) 0
part_at g n c = 0

-- 1 where there is none, 0 where there is one
abbrev missing : Option Outcome → ℕ
missing None = 1
missing (Some o) = 0

pub one_first : (j : ℕ) (os : List (ℕ × Outcome)) (ps : List (ℕ × ℕ)) (cs : List TableAnswered) → IsTable os ps cs
    → total (firsts_one j) cs ≤ missing (look_up j os)
one_first j os ps [] l = omega arith
one_first j os ps ((table.store t o, table.was First) ∷ cs) l = go (eqb t j) refl (look_up t os) refl l.0 (one_first j ((t, o) ∷ os) ps cs l.1)
  where
    go : (b : Bool) → eqb t j ≡ b → (x : Option Outcome) → look_up t os ≡ x → FirstWins x First
        → total (firsts_one j) cs ≤ missing (cond b (Some o) (look_up j os)) →
        cond b 1 0 + total (firsts_one j) cs ≤ missing (look_up j os)
    go true e None none w r = subst (λ y. 1 + total (firsts_one j) cs ≤ missing y) (sym (subst (λ u. look_up u os ≡ None) (eqb-true _ _ e) none)) (omega arith)
    go true e (Some y) none w r = absurd (cc)
    go false e x none w r = omega arith
one_first j os ps ((table.store t o, table.was Again) ∷ cs) l = let r = one_first j os ps cs l.1 in omega arith
one_first j os ps ((table.part g m, table.count n) ∷ cs) l = let r = one_first j os ((g, m) ∷ ps) cs l.2 in omega arith
one_first j os ps ((table.read t, table.found o) ∷ cs) l = let r = one_first j os ps cs l.1 in omega arith
one_first j os ps (c ∷ cs) l = elim l [ ]

-- a count passes each number at most once
pub one_part : (g n : ℕ) (os : List (ℕ × Outcome)) (ps : List (ℕ × ℕ)) (cs : List TableAnswered) → IsTable os ps cs
    → (total (part_at g n) cs ≤ 1) × (n < handed g ps → total (part_at g n) cs ≡ 0)
one_part g n os ps [] l = (omega arith, λ b. refl)
one_part g n os ps ((table.store t o, table.was b) ∷ cs) l = let r = one_part g n (kept_first b t o os) ps cs l.1 in
    (omega (arith, r.0), λ p. ap (λ i. 0 + i) (r.1 p))
one_part g n os ps ((table.read t, table.found o) ∷ cs) l = let r = one_part g n os ps cs l.1 in (omega (arith, r.0), λ p. ap (λ i. 0 + i) (r.1 p))
one_part g n os ps ((table.part h m, table.count i) ∷ cs) l = go (eqb h g) refl (eqb i n) refl (one_part g n os ((h, m) ∷ ps) cs l.2)
  where
    go : (b : Bool) → eqb h g ≡ b → (d : Bool) → eqb i n ≡ d →
        (total (part_at g n) cs ≤ 1) × (n < cond b (suc (handed g ps)) (handed g ps) → total (part_at g n) cs ≡ 0) →
        (cond b (cond d 1 0) 0 + total (part_at g n) cs ≤ 1) × (n < handed g ps → cond b (cond d 1 0) 0 + total (part_at g n) cs ≡ 0)
    go true e true f r =
        let same : i ≡ handed g ps = subst (λ u. i ≡ handed u ps) (eqb-true _ _ e) l.0 in
        let at_n : i ≡ n = eqb-true _ _ f in
        let none : total (part_at g n) cs ≡ 0 = r.1 (omega arith) in
        (omega arith, λ b. absurd (omega arith))
    go true e false f r = (omega (arith, r.0), λ b. let z = r.1 (omega arith) in omega arith)
    go false e d f r = (omega (arith, r.0), λ b. let z = r.1 b in omega arith)
one_part g n os ps (c ∷ cs) l = elim l [ ]

-- events by number

abbrev pub same_event : Event → Event → Bool
same_event start start = true
same_event (running i) (running j) = eqb i j
same_event (end_of_line i) (end_of_line j) = eqb i j
same_event (completion i) (completion j) = eqb i j
same_event e f = false

abbrev pub is_running : Event → ℕ
is_running start = 0
is_running (running k) = 1
is_running (end_of_line k) = 0
is_running (completion g) = 0

-- 1 where the events are the same
abbrev pub is_event : Event → Event → ℕ
is_event e f = cond (same_event e f) 1 0

pub same_event-itself : (e : Event) → same_event e e ≡ true
same_event-itself start = refl
same_event-itself (running i) = eq-eqb i i refl
same_event-itself (end_of_line i) = eq-eqb i i refl
same_event-itself (completion i) = eq-eqb i i refl

module _ {E : Type 0} (X : Protocol E) where
  abbrev pub of_opened : ℕ → Option X.Message → ℕ
  of_opened k None = 0
  of_opened k (Some m) = names X k m

  -- 1 where the call publishes the message of task k
  abbrev pub publishes_task : ℕ → QueueAnswered E → ℕ
  publishes_task k (queue.publish e, r) = of_opened k (X.opened e)
  publishes_task k c = 0

  -- 1 where the call shows the event: the first store of a task for its end, the completing part for a completion
  abbrev pub shows : Form X → Event → TableAnswered → ℕ
  shows F v (table.store t o, table.was First) = is_event (end_of_line t) v
  shows F v (table.part g m, table.count n) = cond (eqb (suc n) (length (F.members g))) (is_event (completion g) v) 0
  shows F v c = 0

  module _ (F : Form X) (Does : Event → JobOf X → Type 0) (order : Ordered X F) (value : Evaluates X Does F) (once : Once X Does F)
      (k : ℕ) (v : Event) (cause : (e : Event) (m : X.Message) → Does e (publish m) → X.no m ≡ k → e ≡ v) where
    -- jobs of another event publish no message of task k
    none_elsewhere : (e : Event) → same_event e v ≡ false → (js : Jobs X) → Each (Does e) js → total (publishes X k) js ≡ 0
    none_elsewhere e d [] a = refl
    none_elsewhere e d (store t o ∷ js) a = let r = none_elsewhere e d js a.1 in omega arith
    none_elsewhere e d (job.part g t c ∷ js) a = let r = none_elsewhere e d js a.1 in omega arith
    none_elsewhere e d (publish m ∷ js) a = go (eqb (X.no m) k) refl (none_elsewhere e d js a.1)
      where
        differ : e ≡ v → ⊥
        differ s = let both : same_event e v ≡ true = subst (λ w. same_event e w ≡ true) s (same_event-itself e) in cc

        go : (b : Bool) → eqb (X.no m) k ≡ b → total (publishes X k) js ≡ 0 → cond b 1 0 + total (publishes X k) js ≡ 0
        go true q r = absurd (differ (cause e m a.0 (eqb-true _ _ q)))
        go false q r = omega arith

    within : (e : Event) (js : Jobs X) → Each (Does e) js → total (publishes X k) js ≤ 1 → total (publishes X k) js ≤ is_event e v
    within e js a l = go (same_event e v) refl
      where
        go : (b : Bool) → same_event e v ≡ b → total (publishes X k) js ≤ cond b 1 0
        go true q = l
        go false q = let z = none_elsewhere e q js a in omega arith

    -- how often the state can still publish the message of task k with no further event
    abbrev debt : Doing X → ℕ
    debt (doing js b) = total (publishes X k) js
    debt (reading g c t fs) = is_event (completion g) v
    debt s = 0

    debt_settled : (js : Jobs X) (b : Stored) → debt (settled X js b) ≤ total (publishes X k) js
    debt_settled [] b = omega arith
    debt_settled (store t o ∷ js) First = omega arith
    debt_settled (store t o ∷ js) Again = omega arith
    debt_settled (publish m ∷ js) First = omega arith
    debt_settled (publish m ∷ js) Again = omega arith
    debt_settled (job.part g t c ∷ js) First = omega arith
    debt_settled (job.part g t c ∷ js) Again = omega arith

    abbrev sends_in : Asked X → Answer X → ℕ
    sends_in a r = total (publishes_task k) (broker_call a r)

    abbrev shows_in : Asked X → Answer X → ℕ
    shows_in a r = total (shows F v) (backend_call a r)

    debt_next : (g : ℕ) (c : X.Carried) (fs : List (ℕ × Outcome)) → debt (reads_next X g c fs) ≤ is_event (completion g) v
    debt_next g c fs = reads_cases X (λ s. debt s ≤ is_event (completion g) v) g c fs (λ e. omega arith) (λ t e. omega arith)

    read_step : (g : ℕ) (c : X.Carried) (fs : List (ℕ × Outcome)) → GoodSoFar X (right_goods X F Does) g c fs
        → 0 + debt (all_read X g c fs) ≤ is_event (completion g) v + 0
    read_step g c fs state = go (eqb (length fs) (X.size c)) refl
      where
        go : (d : Bool) → eqb (length fs) (X.size c) ≡ d
            → 0 + debt (cond d (settled X (X.completed c fs) Again) (reads_next X g c fs)) ≤ is_event (completion g) v + 0
        go true full =
            let left = debt_settled (X.completed c fs) Again in
            let part = state.1 in
            let whole = all_found X (right_goods X F Does) (right_closed X F Does order value) g c fs state full in
            let small = within (completion g) _ (value.completed g state.0 c fs part.0 part.1 whole state.4)
            (once.at_completion k g state.0 c fs part.0 whole) in
            omega arith
        go false more = let left = debt_next g c fs in omega arith

    one_step : (s : Doing X) (r : Answer X) → GoodState X (right_goods X F Does) s → GoodAnswer X (right_goods X F Does) (ask X s) r
        → ReadsBack X s →
        sends_in (ask X s) r + debt (answered X s r) ≤ debt s + shows_in (ask X s) r
    one_step taking (from_queue None) p g y = omega arith
    one_step taking (from_queue (Some e)) p g y = go (X.opened e)
      where
        go : (x : Option X.Message) → 0 + 0 + debt (opens X x) ≤ 0 + 0
        go None = omega arith
        go (Some m) = omega arith
    one_step resting (rested true) p g y = omega arith
    one_step (owning m) (from_table (table.was First)) p g y =
        let small = within (end_of_line (X.no m)) _ (value.ended m p.0 p.1) (once.at_end k m p.0) in
        let left = debt_settled (X.ended m (X.outcome m)) First in omega arith
    one_step (owning m) (from_table (table.was Again)) p g y = omega arith
    one_step (doing (store t o ∷ js) b) (from_table (table.was a)) p g y = let left = debt_settled js (cond (is_due t js) a b) in omega arith
    one_step (doing (publish m ∷ js) b) (from_queue None) p g y =
        let left = debt_settled js b in
        let mine : of_opened k (X.opened (X.sealed m)) ≡ names X k m = ap (of_opened k) (order.opened m p.0.0 y) in omega (arith, mine)
    one_step (doing (publish m ∷ js) b) (from_queue (Some e)) p g y =
        let mine : of_opened k (X.opened (X.sealed m)) ≡ names X k m = ap (of_opened k) (order.opened m p.0.0 y) in omega (arith, mine)
    one_step (doing (publish m ∷ js) b) refused p g y = omega arith
    one_step (doing (job.part n t c ∷ js) b) (from_table (table.count i)) p g y =
        go (eqb (suc i) (X.size c)) (eqb (suc i) (length (F.members n))) (ap (eqb (suc i)) (order.size n t c p.0.0))
      where
        go : (d f : Bool) → d ≡ f → 0 + debt (cond d (reads_next X n c []) acking) ≤ 0 + total (publishes X k) js + (cond f (is_event (completion n) v) 0 + 0)
        go true true e = let left = debt_next n c [] in omega arith
        go true false e = absurd (cc)
        go false f e = omega arith
    one_step (reading n c t fs) (from_table (table.found (Some o))) p g y =
        read_step n c _ (more_found X (right_goods X F Does) (right_closed X F Does order value) n c fs t o p.0 p.1 g)
    one_step (reading n c t fs) (from_table (table.found None)) p g y = omega arith
    one_step acking acked p g y = omega arith
    one_step s r p g y = omega arith

    -- the calls of a core run publish the message of task k at most as often as they show its event
    pub core_run : (s : Doing X) (xs : List (Asked X × Answer X)) → GoodState X (right_goods X F Does) s → IsCoreRun X s xs
        → Each (λ x. GoodAnswer X (right_goods X F Does) x.0 x.1) xs →
        total (publishes_task k) (broker_calls xs) ≤ debt s + total (shows F v) (backend_calls xs)
    core_run s [] p l g = omega arith
    core_run s (x ∷ xs) p l g =
        let good : GoodAnswer X (right_goods X F Does) (ask X s) x.1 = subst (λ a. GoodAnswer X (right_goods X F Does) a x.1) l.0 g.0 in
        let later = core_run (answered X s x.1) xs (next_good X (right_goods X F Does) (right_closed X F Does order value) s x.1 p good) l.2 g.1 in
        let now : sends_in x.0 x.1 + debt (answered X s x.1) ≤ debt s + shows_in x.0 x.1 =
        subst (λ a. sends_in a x.1 + debt (answered X s x.1) ≤ debt s + shows_in a x.1) (sym l.0) (one_step s x.1 p good l.1.1) in
        omega (
          arith,
          total-append (publishes_task k) (broker_call x.0 x.1) (broker_calls xs),
          total-append (shows F v) (backend_call x.0 x.1) (backend_calls xs),
        )

    none_at_start : same_event start v ≡ false → (ms : List X.Message) → Each (λ m. Does start (publish m)) ms → total (names X k) ms ≡ 0
    none_at_start d [] a = refl
    none_at_start d (m ∷ ms) a = go (eqb (X.no m) k) refl (none_at_start d ms a.1)
      where
        differ : start ≡ v → ⊥
        differ s = let both : same_event start v ≡ true = subst (λ w. same_event start w ≡ true) s refl in cc

        go : (b : Bool) → eqb (X.no m) k ≡ b → total (names X k) ms ≡ 0 → cond b 1 0 + total (names X k) ms ≡ 0
        go true q r = absurd (differ (cause start m a.0 (eqb-true _ _ q)))
        go false q r = omega arith

    opening_within : (ms : List X.Message) → Each (λ m. Does start (publish m)) ms → total (names X k) ms ≤ 1 → total (names X k) ms ≤ is_event start v
    opening_within ms d l = go (same_event start v) refl
      where
        go : (b : Bool) → same_event start v ≡ b → total (names X k) ms ≤ cond b 1 0
        go true q = l
        go false q = let z = none_at_start q ms d in omega arith

  follows_total : {ts : List E} {cs ls : List (QueueAnswered E)} (k : ℕ) → FollowsCore ts cs ls
      → total (publishes_task k) ls ≡ total (publishes_task k) cs
  follows_total k follows_all = refl
  follows_total k (follows_publish {e = e} f) = ap (λ n. of_opened k (X.opened e) + n) (follows_total k f)
  follows_total k (follows_list_take f) = let r = follows_total k f in omega arith
  follows_total k (follows_core_take f) = let r = follows_total k f in omega arith
  follows_total k (follows_again f) = let r = follows_total k f in omega arith

  -- an event is shown at most once by a table
  pub shows_once : (F : Form X) (v : Event) (cs : List TableAnswered) → IsTable [] [] cs
      → total (shows F v) cs + (is_event start v + is_running v) ≤ 1
  shows_once F start cs l = let z = total-zero (shows F start) none cs in omega arith
    where
      none : (c : TableAnswered) → shows F start c ≡ 0
      none (table.store t o, table.was First) = refl
      none (table.part g m, table.count n) = cond_cases (λ i. i ≡ 0) (eqb (suc n) (length (F.members g))) 0 0 (λ e. refl) (λ e. refl)
      none c = refl
  shows_once F (running j) cs l = let z = total-zero (shows F (running j)) none cs in omega arith
    where
      none : (c : TableAnswered) → shows F (running j) c ≡ 0
      none (table.store t o, table.was First) = refl
      none (table.part g m, table.count n) = cond_cases (λ i. i ≡ 0) (eqb (suc n) (length (F.members g))) 0 0 (λ e. refl) (λ e. refl)
      none c = refl
  shows_once F (end_of_line j) cs l = let z = total-le (shows F (end_of_line j)) (firsts_one j) less cs in let o = one_first j [] [] cs l in omega arith
    where
      less : (c : TableAnswered) → shows F (end_of_line j) c ≤ firsts_one j c
      less (table.store t o, table.was First) = omega arith
      less (table.part g m, table.count n) = cond_cases (λ i. i ≤ 0) (eqb (suc n) (length (F.members g))) 0 0 (λ e. omega arith) (λ e. omega arith)
      less c = omega arith
  shows_once F (completion g) cs l = let z = total-le (shows F (completion g)) (part_at g (pred (length (F.members g)))) less cs in let o =
      (one_part g (pred (length (F.members g))) [] [] cs l).0 in omega arith
    where
      less : (c : TableAnswered) → shows F (completion g) c ≤ part_at g (pred (length (F.members g))) c
      less (table.store t o, table.was First) = omega arith
      less (table.part h m, table.count n) = go (eqb (suc n) (length (F.members h))) refl (eqb h g) refl
        where
          go : (b : Bool) → eqb (suc n) (length (F.members h)) ≡ b → (d : Bool) → eqb h g ≡ d →
              cond b (cond d 1 0) 0 ≤ cond d (cond (eqb n (pred (length (F.members g)))) 1 0) 0
          go false e d f = omega arith
          go true e false f = omega arith
          go true e true f =
              let count : suc n ≡ length (F.members g) = subst (λ u. suc n ≡ length (F.members u)) (eqb-true _ _ f) (eqb-true _ _ e) in
              let same : n ≡ pred (length (F.members g)) = omega arith in
              subst (λ b. 1 ≤ cond b 1 0) (sym (eq-eqb _ _ same)) (omega arith)
      less c = omega arith

  module _ (F : Form X) (Does : Event → JobOf X → Type 0) (order : Ordered X F) (value : Evaluates X Does F) (once : Once X Does F) (run : Run X F) where
    module _ (k : ℕ) (v : Event) (cause : (e : Event) (m : X.Message) → Does e (publish m) → X.no m ≡ k → e ≡ v) where
      abbrev pub opened_by : ℕ → ℕ
      opened_by p = cond (eqb p 0) (is_event start v) 0

      sealed_total : (ms : List X.Message) → Each X.Back ms → Each F.Formed ms
          → total (publishes_task k) (published_all (map X.sealed ms)) ≡ total (names X k) ms
      sealed_total [] b f = refl
      sealed_total (m ∷ ms) b f =
          let head : of_opened k (X.opened (X.sealed m)) ≡ names X k m = ap (of_opened k) (order.opened m f.0 b.0) in
          let more = sealed_total ms b.1 f.1 in omega arith

      opening_total : total (publishes_task k) (published_all (map X.sealed run.opening)) ≤ is_event start v
      opening_total =
          let formed : Each F.Formed run.opening = each_left F.Formed run.opening run.unsent (subst (Each F.Formed) run.opens order.first) in
          let does : Each (λ m. Does start (publish m)) run.opening =
          each_left (λ m. Does start (publish m)) run.opening run.unsent (subst (Each (λ m. Does start (publish m))) run.opens value.first) in
          let all : total (names X k) run.opening + total (names X k) run.unsent ≤ 1 =
          subst (λ n. n ≤ 1) (ap (total (names X k)) run.opens ∙ total-append (names X k) run.opening run.unsent) (once.at_start k) in
          let small = opening_within F Does order value once k v cause run.opening does (omega arith) in
          let same = sealed_total run.opening run.opens_back formed in
          omega arith

      start_by : (p : ℕ) (b : Bool) → total (publishes_task k) (cond b (published_all (map X.sealed run.opening)) []) ≤ cond b (is_event start v) 0
      start_by p true = opening_total
      start_by p false = omega arith

      pub one_caller : (p : ℕ) → total (publishes_task k) (by p run.broker) ≤ opened_by p + total (shows F v) (by p run.backend)
      one_caller p =
          let same = follows_total k (run.follows p) in
          let parts = total-append (publishes_task k) (cond (eqb p 0) (published_all (map X.sealed run.opening)) []) (broker_calls (run.core p)) in
          let first = start_by p (eqb p 0) in
          let core = core_run F Does order value once k v cause taking (run.core p) tt (run.is_core p)
          (answers_right X F Does order value run p) in
          let backend : total (shows F v) (by p run.backend) ≡ total (shows F v) (backend_calls (run.core p))
          + total (shows F v) (cond (eqb p 0) run.closing []) =
          ap (total (shows F v)) (run.keeps p) ∙ total-append (shows F v) (backend_calls (run.core p)) (cond (eqb p 0) run.closing []) in
          omega arith

      caused_once : total (publishes_task k) (seconds run.broker) ≤ 1
      caused_once =
          let broker = total_by (publishes_task k) run.workers run.broker run.broker_callers in
          let backend = total_by (shows F v) run.workers run.backend run.backend_callers in
          let each = sum_to-le run.workers (λ p. total (publishes_task k) (by p run.broker))
          (λ p. opened_by p + total (shows F v) (by p run.backend)) one_caller in
          let split = sum_to-both run.workers opened_by (λ p. total (shows F v) (by p run.backend)) in
          let opening = at_zero run.workers (is_event start v) in
          let shown = shows_once F v (seconds run.backend) run.table in
          omega arith

    -- the message of each task is published at most once
    pub published_once : (k : ℕ) → total (publishes_task k) (seconds run.broker) ≤ 1
    published_once k = ⊎_elim (λ z. omega arith)
        (λ h. heavy h.0 h.2 (in_each (GoodPublish (IsRunSealed X F Does order value run)) (seconds run.broker)
        (each_seconds (GoodPublish (IsRunSealed X F Does order value run)) run.broker (publishes_right X F Does order value run)) h.0 h.1))
        (find_heavy (publishes_task k) (seconds run.broker))
      where
        named : (m : X.Message) (b : Bool) → eqb (X.no m) k ≡ b → (◌≡◌ {A = ℕ} (cond b 1 0) 0 → ⊥) → X.no m ≡ k
        named m true e d = eqb-true _ _ e
        named m false e d = absurd (d refl)

        heavy : (c : QueueAnswered E) → (publishes_task k c ≡ 0 → ⊥) → GoodPublish (IsRunSealed X F Does order value run) c
            → total (publishes_task k) (seconds run.broker) ≤ 1
        heavy (queue.publish e, r) d (m, same, back, f, (v, does)) =
            let of_m : X.opened e ≡ Some m = ap X.opened same ∙ order.opened m f back in
            let no_is : X.no m ≡ k = named m (eqb (X.no m) k) refl (subst (λ x. of_opened k x ≡ 0 → ⊥) of_m d) in
            caused_once k v (λ w n other q. once.event w v n m other does (q ∙ sym no_is))
        heavy c d g = absurd (d refl)
