-- Each outcome that a run stores is stored by the running of its own task, or by the caller that brought about the event that stores it.
use Rattle.std.proofs.Common.{◌≡◌, ◌⊎◌, ℕ, suc, Bool, true, false, cond, eqb, List, [], ◌∷◌, ◌++◌, length, Option, Some, None, refl, sym, ap, subst, ◌∙◌, inl, inr}
use Rattle.std.proofs.lemmas.Bool.{eqb-true, eq-eqb}
use Rattle.canvas_task.specs.Apply.{Behaviour}
use Rattle.canvas_task.specs.declared.outcome.Outcome.{Outcome}
use Rattle.canvas_semantics.specs.Line.{Line}
use Rattle.canvas_rewrite.specs.Planned.{IsPlan}
use Rattle.canvas_history.specs.Answers.{answered_calls}
use Rattle.canvas_history.specs.History.{calls}
use Rattle.canvas_history.specs.Lists.{In, Each, by}
use Rattle.canvas_history.specs.Table as table
use Rattle.canvas_history.specs.declared.stored.Stored.{Stored}
use Rattle.canvas_history.specs.declared.stored.Stored.TheVariants.{First, Again}
use Rattle.canvas_effects.specs.Events.{Event, running, end_of_line, completion, DoesIn}
use Rattle.canvas_effects.specs.Job as job
use Rattle.canvas_runs.specs.Calls.{TableAnswered, backend_call, backend_calls}
use Rattle.canvas_runs.specs.Causes.{Brought}
use Rattle.canvas_runs.specs.Core.{from_queue, from_table, rested, acked, taking, resting, over, failed, owning, doing, reading, acking, Jobs, Doing, Asked, Answer, Suits, is_due, settled, ask, opens, reads_next, answered, IsCoreRun}
use Rattle.canvas_runs.specs.Protocol.{Protocol}
use Rattle.canvas_runs.specs.Run.{IsRead, Run}
use Rattle.canvas_runs.proofs.Laws.Causes.{by_in}
use Rattle.canvas_runs.proofs.Laws.Facts.{X, form, Does, order, value}
use Rattle.canvas_runs.proofs.Laws.FirstLaw.{inner_run}
use Rattle.canvas_runs.proofs.Lists.Words.{cond_cases, each_append, each_from_in, each_left, each_right, each_weaker, in_each}
use Rattle.canvas_runs.proofs.Objects.CallsOf.{call_in, entry_in}
use Rattle.canvas_runs.proofs.Runs.GoodRuns.{GoodAnswer, GoodState, all_found, more_found, next_good}
use Rattle.canvas_runs.proofs.Runs.Meaning.{Evaluates, Form, JobOf, Ordered}
use Rattle.canvas_runs.proofs.Runs.MoreAsks.{reads_cases}
use Rattle.canvas_runs.proofs.Runs.Right.{answers_right, right_closed, right_goods}

-- ---- one worker's calls, where the first store of a task brings its end about, and a completing part its chord's completion

module _ {E : Type 0} (Y : Protocol E) (F : Form Y) (Done : Event → JobOf Y → Type 0) (ordered : Ordered Y F) (meaning : Evaluates Y Done F)
    (Brings : Event → Type 0) (Made : TableAnswered → Type 0)
    (by_first : (t : ℕ) (o : Outcome) → Made (table.store t o, table.was First) → Brings (end_of_line t))
    (by_count : (g t n : ℕ) → Made (table.part g t, table.count n) → suc n ≡ length (F.members g) → Brings (completion g)) where
  abbrev Caused : ℕ → Outcome → Type 0
  Caused t o = (v : Event) × Done v (job.store t o) × ((v ≡ running t) ⊎ Brings v)

  abbrev StoreCaused : TableAnswered → Type 0
  StoreCaused (table.store t o, table.was a) = Caused t o
  StoreCaused c = Unit {0}

  -- what is left to do
  abbrev FineJob : JobOf Y → Type 0
  FineJob (job.store t o) = Caused t o
  FineJob (job.publish m) = Unit {0}
  FineJob (job.part g t c) = Unit {0}

  abbrev Fine : Doing Y → Type 0
  Fine (doing js b) = Each FineJob js
  Fine (reading g c t fs) = Brings (completion g)
  Fine s = Unit {0}

  fine_job : (v : Event) → Brings v → (j : JobOf Y) → Done v j → FineJob j
  fine_job v b (job.store t o) d = (v, d, inr b)
  fine_job v b (job.publish m) d = tt
  fine_job v b (job.part g t c) d = tt

  fine_settled : (js : Jobs Y) (b : Stored) → Each FineJob js → Fine (settled Y js b)
  fine_settled [] b f = tt
  fine_settled (job.store t o ∷ js) First f = f
  fine_settled (job.store t o ∷ js) Again f = f
  fine_settled (job.publish m ∷ js) First f = f
  fine_settled (job.publish m ∷ js) Again f = f
  fine_settled (job.part g t c ∷ js) First f = f
  fine_settled (job.part g t c ∷ js) Again f = tt

  fine_reads : (g : ℕ) (c : Y.Carried) (fs : List (ℕ × Outcome)) → Brings (completion g) → Fine (reads_next Y g c fs)
  fine_reads g c fs b = reads_cases Y Fine g c fs (λ e. tt) (λ t e. b)

  fine_next : (s : Doing Y) (r : Answer Y) → GoodState Y (right_goods Y F Done) s → GoodAnswer Y (right_goods Y F Done) (ask Y s) r
      → Each Made (backend_call (ask Y s) r) → Fine s → Fine (answered Y s r)
  fine_next taking (from_queue None) p g m f = tt
  fine_next taking (from_queue (Some e)) p g m f = go (Y.opened e)
    where
      go : (x : Option Y.Message) → Fine (opens Y x)
      go None = tt
      go (Some m) = tt
  fine_next resting (rested true) p g m f = tt
  fine_next (owning k) (from_table (table.was First)) p g m f =
      fine_settled (Y.ended k (Y.outcome k)) First
      (each_weaker (fine_job (end_of_line (Y.no k)) (by_first (Y.no k) (Y.outcome k) m.0)) (Y.ended k (Y.outcome k)) (meaning.ended k p.0 p.1))
  fine_next (owning k) (from_table (table.was Again)) p g m f = tt
  fine_next (doing (job.store t o ∷ js) b) (from_table (table.was a)) p g m f = fine_settled js (cond (is_due t js) a b) f.1
  fine_next (doing (job.publish k ∷ js) b) (from_queue None) p g m f = fine_settled js b f.1
  fine_next (doing (job.part n t c ∷ js) b) (from_table (table.count i)) p g m f =
      cond_cases Fine (eqb (suc i) (Y.size c)) _ _
      (λ e. fine_reads n c [] (by_count n t i m.0 (eqb-true _ _ e ∙ ordered.size n t c p.0.0)))
      (λ e. tt)
  fine_next (reading n c t fs) (from_table (table.found (Some o))) p g m f =
      let found = more_found Y (right_goods Y F Done) (right_closed Y F Done ordered meaning) n c fs t o p.0 p.1 g in
      cond_cases Fine (eqb (length (fs ++ (t, o) ∷ [])) (Y.size c)) _ _
      (λ full. fine_settled (Y.completed c (fs ++ (t, o) ∷ [])) Again
      (each_weaker (fine_job (completion n) f) (Y.completed c (fs ++ (t, o) ∷ []))
      (meaning.completed n found.0 c (fs ++ (t, o) ∷ []) found.1.0 found.1.1
      (all_found Y (right_goods Y F Done) (right_closed Y F Done ordered meaning) n c (fs ++ (t, o) ∷ []) found full) found.4)))
      (λ e. fine_reads n c (fs ++ (t, o) ∷ []) f)
  fine_next (reading n c t fs) (from_table (table.found None)) p g m f = tt
  fine_next acking acked p g m f = tt
  fine_next s r p g m f = tt

  call_caused : (s : Doing Y) (r : Answer Y) → GoodState Y (right_goods Y F Done) s → Suits (ask Y s) r → Fine s
      → Each StoreCaused (backend_call (ask Y s) r)
  call_caused taking r p u f = tt
  call_caused resting r p u f = tt
  call_caused over r p u f = tt
  call_caused failed r p u f = tt
  call_caused (owning k) (from_table (table.was a)) p u f = ((running (Y.no k), meaning.own k p.1, inl refl), tt)
  call_caused (doing [] b) r p u f = tt
  call_caused (doing (job.store t o ∷ js) b) (from_table (table.was a)) p u f = (f.0, tt)
  call_caused (doing (job.publish k ∷ js) b) r p u f = tt
  call_caused (doing (job.part n t c ∷ js) b) (from_table (table.count i)) p u f = (tt, tt)
  call_caused (reading n c t fs) (from_table (table.found x)) p u f = (tt, tt)
  call_caused acking r p u f = tt
  call_caused s r p u f = elim u [ ]

  pub all_caused : (s : Doing Y) (xs : List (Asked Y × Answer Y)) → GoodState Y (right_goods Y F Done) s → Fine s → IsCoreRun Y s xs
      → Each (λ x. GoodAnswer Y (right_goods Y F Done) x.0 x.1) xs → Each Made (backend_calls xs) → Each StoreCaused (backend_calls xs)
  all_caused s [] p f c a m = tt
  all_caused s (x ∷ xs) p f c a m =
      let good : GoodAnswer Y (right_goods Y F Done) (ask Y s) x.1 = subst (λ q. GoodAnswer Y (right_goods Y F Done) q x.1) c.0 a.0 in
      let made : Each Made (backend_call (ask Y s) x.1) =
      subst (λ q. Each Made (backend_call q x.1)) c.0 (each_left Made (backend_call x.0 x.1) (backend_calls xs) m) in
      each_append StoreCaused (backend_call x.0 x.1) (backend_calls xs)
      (subst (λ q. Each StoreCaused (backend_call q x.1)) (sym c.0) (call_caused s x.1 p (subst (λ q. Suits q x.1) c.0 c.1.0) f))
      (all_caused (answered Y s x.1) xs (next_good Y (right_goods Y F Done) (right_closed Y F Done ordered meaning) s x.1 p good)
      (fine_next s x.1 p good made f) c.2 a.1 (each_right Made (backend_call x.0 x.1) (backend_calls xs) m))

  read_caused : (c : TableAnswered) → IsRead c → StoreCaused c
  read_caused (table.read t, table.found x) h = tt
  read_caused c h = elim h [ ]

  pub reads_caused : (b : Bool) (cs : List TableAnswered) → Each IsRead cs → Each StoreCaused (cond b cs [])
  reads_caused true cs h = each_weaker read_caused cs h
  reads_caused false cs h = tt

-- ---- a run's

in_by : {A : Type 0} (p : ℕ) (c : A) (es : List (ℕ × A)) → In (p, c) es → In c (by p es)
in_by p c [] i = elim i [ ]
in_by {A} p c (e ∷ es) (inl s) =
    subst (λ b. In c (cond b (e.1 ∷ by p es) (by p es))) (sym (eq-eqb e.0 p (sym (ap (λ (x : ℕ × A). x.0) s)))) (inl (ap (λ (x : ℕ × A). x.1) s))
in_by p c (e ∷ es) (inr i) = go (eqb e.0 p) (in_by p c es i)
  where
    go : (b : Bool) → In c (by p es) → In c (cond b (e.1 ∷ by p es) (by p es))
    go true k = inr k
    go false k = k

module _ (behaviour : Behaviour) (l : Line) (plan : IsPlan l) (r : Run behaviour l) (p : ℕ) where
  abbrev Made : TableAnswered → Type 0
  Made c = In (calls p c.0 c.1) r.table

  abbrev pub IsCaused : ℕ → Outcome → Type 0
  IsCaused t o = (v : Event) × DoesIn behaviour l v (job.store t o) × ((v ≡ running t) ⊎ Brought l p r.table v)

  abbrev CallCaused : TableAnswered → Type 0
  CallCaused = StoreCaused (X behaviour l plan) (form behaviour l plan) (Does behaviour l plan) (order behaviour l plan) (value behaviour l plan)
      (Brought l p r.table) Made (λ t o m. (o, m)) (λ g t n m last. (t, n, m, last))

  made : Each Made (by p (answered_calls r.table))
  made = each_from_in (by p (answered_calls r.table)) (λ c i. entry_in r.table (p, c) (by_in p c (answered_calls r.table) i))

  caused : Each CallCaused (by p (answered_calls r.table))
  caused = subst (Each CallCaused) (sym (r.keeps p))
      (each_append CallCaused (backend_calls (r.core p)) (cond (eqb p 0) r.closing [])
      (all_caused (X behaviour l plan) (form behaviour l plan) (Does behaviour l plan) (order behaviour l plan) (value behaviour l plan)
      (Brought l p r.table) Made (λ t o m. (o, m)) (λ g t n m last. (t, n, m, last)) taking (r.core p) tt tt (r.is_core p)
      (answers_right (X behaviour l plan) (form behaviour l plan) (Does behaviour l plan) (order behaviour l plan) (value behaviour l plan)
      (inner_run behaviour l plan r) p)
      (each_left Made (backend_calls (r.core p)) (cond (eqb p 0) r.closing []) (subst (Each Made) (r.keeps p) made)))
      (reads_caused (X behaviour l plan) (form behaviour l plan) (Does behaviour l plan) (order behaviour l plan) (value behaviour l plan)
      (Brought l p r.table) Made (λ t o m. (o, m)) (λ g t n m last. (t, n, m, last)) (eqb p 0) r.closing r.closes))

  pub stored_by_cause : (t : ℕ) (o : Outcome) (a : Stored) → In (calls p (table.store t o) (table.was a)) r.table → IsCaused t o
  stored_by_cause t o a i =
      in_each CallCaused (by p (answered_calls r.table)) caused (table.store t o, table.was a)
      (in_by p (table.store t o, table.was a) (answered_calls r.table) (call_in r.table p (table.store t o) (table.was a) i))
