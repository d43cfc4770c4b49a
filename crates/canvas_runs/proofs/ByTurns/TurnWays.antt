-- A run by turns is under way at any time: its workers are live, and one that has ended has nothing left to do.
use Rattle.std.proofs.Common.{◌≡◌, ◌≢◌, ◌⊎◌, ℕ, ◌≤◌, ◌<◌, Bool, true, false, cond, eqb, List, [], ◌∷◌, ◌++◌, refl, sym, ap, ◌∙◌, subst, inl, inr, ⊎_elim, ne_eqb, arith}
use Rattle.std.proofs.lemmas.Bool.{cases_eq, cases_lt}
use Rattle.canvas_task.specs.Apply.{Behaviour}
use Rattle.canvas_rewrite.specs.FrozenView.{PCarried}
use Rattle.canvas_envelope.specs.Content.{Content}
use Rattle.canvas_envelope.specs.declared.envelope.Envelope.{Envelope}
use Rattle.canvas_semantics.specs.Line.{Line}
use Rattle.canvas_runs.specs.Calls.{broker_calls, takes_one, scripts_of}
use Rattle.canvas_runs.specs.Core.{CoreState, taking, resting, over, failed, owning, doing, reading, acking, left_after, Between, Doing}
use Rattle.canvas_history.specs.Lists.{Each, by, total}
use Rattle.canvas_runs.specs.Logs.{queue_calls}
use Rattle.canvas_runs.specs.Progress.{CanGoOn, AtRest, UnderWay}
use Rattle.canvas_runs.specs.Run.{Run, published_all}
use Rattle.canvas_runs.specs.Worker.{worker}
use Rattle.canvas_runs.proofs.Objects.CallsOf.{published_takes}
use Rattle.canvas_runs.proofs.Lists.Sums.{total-append}
use Rattle.canvas_runs.specs.TurnLaws.{ByTurns, RunOf}
use Rattle.canvas_runs.specs.TurnWays.{TurnsUnderWay}
use Rattle.canvas_runs.specs.Turns.{Step, IsWorker, left}
use Rattle.canvas_runs.proofs.ByTurns.TurnLaw.{holds, the_run, the_closed}
use Rattle.canvas_runs.proofs.ByTurns.TurnLogs.{worker_lives, first_lives}
use Rattle.canvas_runs.proofs.ByTurns.TurnRuns.{firsts, queue_log, table_log, queue_made, table_made, opened_by, queue_by, takes_scripts}
use Rattle.canvas_runs.proofs.ByTurns.TurnStates.{Ready}

none_by : {A : Type 0} (P : ℕ → Type 0) (p : ℕ) (xs : List (ℕ × A)) → Each (λ x. P x.0) xs → (P p → ⊥) → by p xs ≡ []
none_by P p [] a f = refl
none_by P p (x ∷ xs) a f = ap (λ b. cond b (x.1 ∷ by p xs) (by p xs)) (ne_eqb x.0 p (λ e. f (subst P e a.0))) ∙ none_by P p xs a.1 f

none_taken : (es : List Envelope) (b : Bool) → total takes_one (cond b (published_all es) []) ≡ 0
none_taken es true = published_takes es
none_taken es false = refl

module _ (behaviour : Behaviour) (l : Line) (n : ℕ) (us : List ℕ) (xs : List Step) (t : ByTurns behaviour l n us xs) where
  abbrev R : Run behaviour l
  R = the_run behaviour l n us xs t

  -- what is taken goes to the core run at once
  all_used : (p : ℕ) → total takes_one (by p (queue_calls R.queue)) ≡ total takes_one (broker_calls (R.core p))
  all_used p =
      let a : total takes_one (by p (queue_calls R.queue)) ≡ total takes_one (opened_by behaviour l p ++ broker_calls (by p xs)) =
      ap (total takes_one) (queue_by behaviour l n xs p) in
      let b = total-append takes_one (opened_by behaviour l p) (broker_calls (by p xs)) in
      let c : total takes_one (opened_by behaviour l p) ≡ 0 = none_taken (firsts behaviour l) (eqb p 0) in
      let d = takes_scripts (by p xs) in
      omega (arith, a, b, c, d)

  taking_over : ◌≡◌ {A = CoreState Content PCarried} taking over → ⊥
  taking_over e = cc

  taking_failed : ◌≡◌ {A = CoreState Content PCarried} taking failed → ⊥
  taking_failed e = cc

  -- ---- no worker

  no_asks : (p : ℕ) → (IsWorker n p → ⊥) → R.core p ≡ []
  no_asks p off = ap scripts_of (none_by (IsWorker n) p xs (holds behaviour l n us xs t).workers off)

  begun : (p : ℕ) → (IsWorker n p → ⊥) → left_after (worker behaviour l) taking (R.core p) ≡ taking
  begun p off = ap (left_after (worker behaviour l) taking) (no_asks p off)

  rests_off : (p : ℕ) → (IsWorker n p → ⊥) → AtRest behaviour l R p
  rests_off p off = (subst (λ s. Between s) (sym (begun p off)) tt, all_used p)

  first_goes : CanGoOn behaviour l R 0
  first_goes = (
    first_lives n (queue_log behaviour l n xs) (queue_made behaviour l n xs),
    first_lives n (table_log behaviour l n xs) (table_made behaviour l n xs),
    λ e. taking_over (sym (begun 0 none) ∙ e),
    λ e. taking_failed (sym (begun 0 none) ∙ e),
  )
    where
      none : IsWorker n 0 → ⊥
      none w = omega (arith, w.0)

  -- ---- a worker

  abbrev Way : ℕ → Type 0
  Way p = CanGoOn behaviour l R p ⊎ AtRest behaviour l R p

  goes : (p : ℕ) → IsWorker n p → (s : Doing (worker behaviour l)) → left behaviour l xs p ≡ s → (s ≢ over) → (s ≢ failed) → Way p
  goes p w s e a b = inl (
    worker_lives n p (queue_log behaviour l n xs) (queue_made behaviour l n xs) w,
    worker_lives n p (table_log behaviour l n xs) (table_made behaviour l n xs) w,
    λ o. a (sym e ∙ o),
    λ o. b (sym e ∙ o),
  )

  by_state : (p : ℕ) → IsWorker n p → (s : Doing (worker behaviour l)) → left behaviour l xs p ≡ s → Ready behaviour l t.plan n xs p s → Way p
  by_state p w over e k = inr (subst (λ s. Between s) (sym e) tt, all_used p)
  by_state p w failed e k = absurd k
  by_state p w taking e k = goes p w taking e (λ o. cc) (λ o. cc)
  by_state p w resting e k = goes p w resting e (λ o. cc) (λ o. cc)
  by_state p w (owning m) e k = goes p w (owning m) e (λ o. cc) (λ o. cc)
  by_state p w (doing js b) e k = goes p w (doing js b) e (λ o. cc) (λ o. cc)
  by_state p w (reading g c u fs) e k = goes p w (reading g c u fs) e (λ o. cc) (λ o. cc)
  by_state p w acking e k = goes p w acking e (λ o. cc) (λ o. cc)

  way_of : (p : ℕ) → Way p
  way_of p = ⊎_elim (λ (e : p ≡ 0). inr (rests_off p (λ w. omega (arith, w.0, e))))
      (λ (d : p ≢ 0). ⊎_elim (λ (h : n < p). inr (rests_off p (λ w. omega (arith, w.1, h))))
      (λ (h : p ≤ n). let w : IsWorker n p = (omega (arith, d), h) in
      by_state p w (left behaviour l xs p) refl ((holds behaviour l n us xs t).ready p w)) (cases_lt n p)) (cases_eq p 0)

  under_way : (r : RunOf behaviour l n xs) × UnderWay behaviour l r.run
  under_way = (
    record {
      run = R;
      core = λ p. refl;
      opening = refl;
      closing = refl;
      queue = (holds behaviour l n us xs t).lawful.queue_is;
      table = (holds behaviour l n us xs t).lawful.table_is;
      closed = the_closed behaviour l n us xs t;
    },
    record { all_sent = refl; none_read = refl; each = way_of; one = 0; goes = first_goes },
  )

pub turns_under_way : TurnsUnderWay
turns_under_way behaviour l n us xs t = under_way behaviour l n us xs t
