-- In a closed run each take of a message is followed by a store of its task, First or Again.
use Rattle.std.proofs.Common.{◌≡◌, ℕ, ◌+◌, ◌≤◌, Bool, true, false, cond, eqb, List, [], ◌∷◌, ◌++◌, map, Option, Some, None, refl, sym, ap, subst, ◌∙◌, arith}
use Rattle.canvas_history.specs.Table as table
use Rattle.canvas_history.specs.Queue as queue
use Rattle.canvas_runs.proofs.Objects.CallsOf.{published_takes}
use Rattle.canvas_history.specs.Lists.{total, by, seconds}
use Rattle.canvas_effects.specs.Job.{store, publish, part}
use Rattle.canvas_runs.specs.Protocol.{Protocol}
use Rattle.canvas_runs.specs.Core.{from_queue, from_table, refused, rested, acked, taking, resting, over, owning, doing, reading, acking, Doing, Asked, Answer, opens, ask, answered, Suits, IsCoreRun, left_after, Between}
use Rattle.canvas_runs.specs.Calls.{QueueAnswered, takes_one, broker_call, backend_call, broker_calls, backend_calls}
use Rattle.canvas_runs.specs.Run.{published_all}
use Rattle.canvas_runs.proofs.Objects.Accords.{FollowsCore, follows_all, follows_publish, follows_list_take, follows_core_take, follows_again}
use Rattle.canvas_runs.proofs.Runs.Meaning.{names, Form}
use Rattle.canvas_runs.proofs.Runs.Run.{Run}
use Rattle.canvas_runs.proofs.Runs.OnceEach.{of_opened}
use Rattle.canvas_runs.proofs.Runs.StoredOnce.{takes_task, stores_task, taken_total, taken_total-append}
use Rattle.canvas_runs.proofs.Lists.Sums.{total-append, sum_to-le, total_by}

module _ {E : Type 0} (X : Protocol E) (k : ℕ) where
  -- a message taken and not stored yet
  abbrev due : Doing X → ℕ
  due (owning m) = names X k m
  due s = 0

  due_step : (s : Doing X) (r : Answer X) → Suits (ask X s) r
      → total (takes_task X k) (broker_call (ask X s) r) + due s ≤ total (stores_task X k) (backend_call (ask X s) r) + due (answered X s r)
  due_step taking (from_queue None) u = omega arith
  due_step taking (from_queue (Some e)) u = go (X.opened e)
    where
      go : (x : Option X.Message) → of_opened X k x + 0 + 0 ≤ 0 + due (opens X x)
      go None = omega arith
      go (Some m) = omega arith
  due_step resting (rested b) u = omega arith
  due_step (owning m) (from_table (table.was b)) u = omega arith
  due_step (doing (store t o ∷ js) b) (from_table (table.was a)) u = omega arith
  due_step (doing (publish m ∷ js) b) (from_queue None) u = omega arith
  due_step (doing (publish m ∷ js) b) refused u = omega arith
  due_step (doing (part g t c ∷ js) b) (from_table (table.count i)) u = omega arith
  due_step (reading g c t fs) (from_table (table.found x)) u = omega arith
  due_step acking acked u = omega arith
  due_step s r u = elim u [ ]

  none_due : (s : Doing X) → Between s → due s ≡ 0
  none_due taking b = refl
  none_due resting b = refl
  none_due over b = refl
  none_due s b = elim b [ ]

  run_stored : (s : Doing X) (xs : List (Asked X × Answer X)) → IsCoreRun X s xs → Between (left_after X s xs)
      → total (takes_task X k) (broker_calls xs) + due s ≤ total (stores_task X k) (backend_calls xs)
  run_stored s [] l e = let z = none_due s e in omega arith
  run_stored s (x ∷ xs) l e =
      let now : total (takes_task X k) (broker_call x.0 x.1) + due s ≤ total (stores_task X k) (backend_call x.0 x.1) + due (answered X s x.1) =
      subst (λ a. total (takes_task X k) (broker_call a x.1) + due s ≤ total (stores_task X k) (backend_call a x.1) + due (answered X s x.1)) (sym l.0)
      (due_step s x.1 (subst (λ a. Suits a x.1) l.0 l.1.0)) in
      let later = run_stored (answered X s x.1) xs l.2 e in
      omega (
        arith,
        total-append (takes_task X k) (broker_call x.0 x.1) (broker_calls xs),
        total-append (stores_task X k) (backend_call x.0 x.1) (backend_calls xs),
      )

  abbrev one_of : E → ℕ
  one_of e = takes_one (queue.take, Some e)

  one_at_most : (e : E) → takes_task X k (queue.take, Some e) ≤ one_of e
  one_at_most e = go (X.opened e)
    where
      go : (x : Option X.Message) → of_opened X k x ≤ 1
      go None = omega arith
      go (Some m) = less (eqb (X.no m) k)
        where
          less : (b : Bool) → cond b 1 0 ≤ 1
          less true = omega arith
          less false = omega arith

  all_at_most : (ts : List E) → taken_total X k ts ≤ total one_of ts
  all_at_most [] = omega arith
  all_at_most (t ∷ ts) = let r = all_at_most ts in let h = one_at_most t in omega arith

  -- where as many are taken in the core run as in the list, those of the task are too
  follows_used : {ts : List E} {cs ls : List (QueueAnswered E)} → FollowsCore ts cs ls
      → total takes_one cs ≡ total one_of ts + total takes_one ls → taken_total X k ts + total (takes_task X k) ls ≤ total (takes_task X k) cs
  follows_used (follows_all {ts = ts}) n = let h = all_at_most ts in omega (arith, h, n)
  follows_used (follows_publish f) n = let r = follows_used f (omega (arith, n)) in omega arith
  follows_used (follows_list_take {ts = ts} {t = t} f) n = let r = follows_used f (omega (arith, n, total-append one_of ts (t ∷ []))) in
      omega (arith, taken_total-append X k ts t)
  follows_used (follows_core_take f) n = let r = follows_used f (omega (arith, n)) in omega arith
  follows_used (follows_again f) n = let r = follows_used f (omega (arith, n)) in omega arith

  published_none : (es : List E) → total (takes_task X k) (published_all es) ≡ 0
  published_none [] = refl
  published_none (e ∷ es) = let r = published_none es in omega (arith, r)

  module _ (F : Form X) (run : Run X F) (all_used : (c : ℕ) → total takes_one (by c run.broker) ≡ total takes_one (broker_calls (run.core c)))
      (all_ended : (c : ℕ) → Between (left_after X taking (run.core c))) where
    opening_none : (b : Bool) → (total (takes_task X k) (cond b (published_all (map X.sealed run.opening)) []) ≡ 0)
        × (total takes_one (cond b (published_all (map X.sealed run.opening)) []) ≡ 0)
    opening_none true = (published_none (map X.sealed run.opening), published_takes (map X.sealed run.opening))
    opening_none false = (refl, refl)

    caller_stored : (p : ℕ) → total (takes_task X k) (by p run.broker) ≤ total (stores_task X k) (by p run.backend)
    caller_stored p =
        let opening : List (QueueAnswered E) = cond (eqb p 0) (published_all (map X.sealed run.opening)) [] in
        let none = opening_none (eqb p 0) in
        let as_many : total takes_one (opening ++ broker_calls (run.core p)) ≡ 0 + total takes_one (by p run.broker) =
        omega (arith, total-append takes_one opening (broker_calls (run.core p)), none.1, all_used p) in
        let mine = follows_used (run.follows p) as_many in
        let both = total-append (takes_task X k) opening (broker_calls (run.core p)) in
        let core = run_stored taking (run.core p) (run.is_core p) (all_ended p) in
        let stores : total (stores_task X k) (by p run.backend) ≡ total (stores_task X k) (backend_calls (run.core p))
        + total (stores_task X k) (cond (eqb p 0) run.closing []) =
        ap (total (stores_task X k)) (run.keeps p) ∙ total-append (stores_task X k) (backend_calls (run.core p)) _ in
        omega (arith, none.0)

    pub taken_stored : total (takes_task X k) (seconds run.broker) ≤ total (stores_task X k) (seconds run.backend)
    taken_stored =
        let takes = total_by (takes_task X k) run.workers run.broker run.broker_callers in
        let stores = total_by (stores_task X k) run.workers run.backend run.backend_callers in
        let each = sum_to-le run.workers (λ p. total (takes_task X k) (by p run.broker)) (λ p. total (stores_task X k) (by p run.backend)) caller_stored in
        omega arith
