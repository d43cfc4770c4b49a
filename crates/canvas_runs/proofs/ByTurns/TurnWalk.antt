-- What holds after each step of a run by turns.
use Rattle.std.proofs.Common.{◌≡◌, ℕ, zero, suc, ◌||◌, Bool, true, false, cond, eqb, List, [], ◌∷◌, ◌++◌, length, map, Option, Some, None, refl, sym, ap, ◌∙◌, subst, append_assoc, append-nil, inl, inr, arith}
use Rattle.std.proofs.lemmas.Bool.{cases_eq}
use Rattle.canvas_task.specs.Apply.{Behaviour}
use Rattle.canvas_task.specs.declared.outcome.Outcome.{Outcome}
use Rattle.canvas_semantics.specs.Line.{Line}
use Rattle.canvas_rewrite.specs.FrozenView.{PCarried}
use Rattle.canvas_rewrite.specs.Planned.{IsPlan}
use Rattle.canvas_envelope.specs.Content.{Content}
use Rattle.canvas_effects.specs.Effects.{first_messages}
use Rattle.canvas_effects.specs.Job.{store, publish, part}
use Rattle.canvas_envelope.specs.declared.envelope.Envelope.{Envelope}
use Rattle.canvas_history.specs.declared.stored.Stored.{Stored}
use Rattle.canvas_history.specs.declared.stored.Stored.TheVariants.{First, Again}
use Rattle.canvas_history.specs.Table as table
use Rattle.canvas_history.specs.Table.{no_results}
use Rattle.canvas_runs.specs.Protocol.{Protocol}
use Rattle.canvas_history.specs.Queue as queue
use Rattle.canvas_runs.specs.Calls.{AskedAndAnswered, scripts_of, of_scripts, held_by, held_after}
use Rattle.canvas_runs.specs.Core.{Ask, Reply, end, to_queue, from_queue, from_table, rested, acked, taking, resting, over, failed, owning, doing, reading, acking, is_due, settled, ask, opens, reads_next, answered, IsCoreRun, ReadsBack, Doing, Jobs, is_inside, refused, Suits, Between, left_after}
use Rattle.canvas_history.specs.Lists.{Each, by}
use Rattle.canvas_runs.specs.Worker.{worker, sealed}
use Rattle.canvas_runs.proofs.Runs.MoreAsks.{reads_cases, by_append, scripts_append, scripts_more, asks_of_scripts, plain_ask, delivers_append, by_more, by_other, core_more, DeliversHeld}
use Rattle.canvas_runs.proofs.Lists.Words.{each_append}
use Rattle.canvas_runs.specs.Turns.{Step, is_queued, queue_next, queue_after, left, IsWorker, Answers, FirstsRead, some_inside, holds_more, Turned, all_taken, skips_turn, takes_turn, delivers_again, holds, redelivery}
use Rattle.canvas_runs.proofs.ByTurns.TurnRuns.{Lawful, queue_starts, table_starts, queue_stays, table_stays, queue_delivers, table_delivers}
use Rattle.canvas_runs.proofs.ByTurns.TurnStates.{good_left, Ready, part_may, other_ready, own_ready, delivers_ready}
use Rattle.canvas_runs.proofs.ByTurns.Turning.{left_delivers, queue_more, results_more, left_here, left_other, answers_suit}
use Rattle.canvas_history.specs.Roster.{roster_of}

or_false : (a b : Bool) → (a || b) ≡ false → (a ≡ false) × (b ≡ false)
or_false true b h = absurd cc
or_false false b h = (refl, h)

none_queued : (q : List Envelope) → is_queued q ≡ false → q ≡ []
none_queued [] e = refl
none_queued (x ∷ q) e = absurd cc

-- who is between scripts holds no envelope
module _ {E : Type 0} (X : Protocol E) where
  settled_inside : (js : Jobs X) (b : Stored) → Between (settled X js b) → ⊥
  settled_inside [] b k = k
  settled_inside (store t o ∷ js) First k = k
  settled_inside (store t o ∷ js) Again k = k
  settled_inside (publish m ∷ js) First k = k
  settled_inside (publish m ∷ js) Again k = k
  settled_inside (part g t c ∷ js) First k = k
  settled_inside (part g t c ∷ js) Again k = k

  opens_inside : (x : Option X.Message) → Between (opens X x) → ⊥
  opens_inside None k = k
  opens_inside (Some m) k = k

  next_inside : (g : ℕ) (c : X.Carried) (fs : List (ℕ × Outcome)) → Between (reads_next X g c fs) → ⊥
  next_inside g c fs = reads_cases X (λ s. Between s → ⊥) g c fs (λ e k. k) (λ t e k. k)

  handed_inside : (b : Bool) (g : ℕ) (c : X.Carried) → Between (cond {A = Doing X} b (reads_next X g c []) acking) → ⊥
  handed_inside true g c k = next_inside g c [] k
  handed_inside false g c k = k

  read_inside : (b : Bool) (js : Jobs X) (g : ℕ) (c : X.Carried) (fs : List (ℕ × Outcome)) → Between (cond b (settled X js Again) (reads_next X g c fs)) → ⊥
  read_inside true js g c fs k = settled_inside js Again k
  read_inside false js g c fs k = next_inside g c fs k

  step_outside : (s : Doing X) (r : Reply E) (h : Option E) → Suits (ask X s) r → (Between s → h ≡ None) → Between (answered X s r)
      → held_by h (ask X s) r ≡ None
  step_outside taking (from_queue None) h u f k = f tt
  step_outside taking (from_queue (Some e)) h u f k = absurd (opens_inside (X.opened e) k)
  step_outside resting (rested b) h u f k = f tt
  step_outside (owning m) (from_table (table.was First)) h u f k = absurd (settled_inside (X.ended m (X.outcome m)) First k)
  step_outside (owning m) (from_table (table.was Again)) h u f k = absurd k
  step_outside (doing (store t o ∷ js) b) (from_table (table.was a)) h u f k = absurd (settled_inside js (cond (is_due t js) a b) k)
  step_outside (doing (publish m ∷ js) b) (from_queue None) h u f k = absurd (settled_inside js b k)
  step_outside (doing (publish m ∷ js) b) refused h u f k = absurd k
  step_outside (doing (part g t c ∷ js) b) (from_table (table.count i)) h u f k = absurd (handed_inside (eqb (suc i) (X.size c)) g c k)
  step_outside (reading g c t fs) (from_table (table.found (Some o))) h u f k =
      absurd (read_inside (eqb (length (fs ++ (t, o) ∷ [])) (X.size c)) (X.completed c (fs ++ (t, o) ∷ [])) g c (fs ++ (t, o) ∷ []) k)
  step_outside (reading g c t fs) (from_table (table.found None)) h u f k = absurd k
  step_outside acking acked h u f k = refl
  step_outside s r h u f k = elim u [ ]

  pub held_outside : (s : Doing X) (h : Option E) (ys : List (AskedAndAnswered E)) → IsCoreRun X s (scripts_of ys)
      → (Between s → h ≡ None) → Between (left_after X s (scripts_of ys)) → held_after h ys ≡ None
  held_outside s h [] c f k = f k
  held_outside s h (y ∷ ys) c f k = go (λ t g d i j. held_outside t g ys d i j) y.0 y.1 c k
    where
      go : ((t : Doing X) (g : Option E) → IsCoreRun X t (scripts_of ys) → (Between t → g ≡ None) → Between (left_after X t (scripts_of ys))
          → held_after g ys ≡ None) → (a : Ask E) (r : Reply E) → IsCoreRun X s (scripts_of ((a, r) ∷ ys))
          → Between (left_after X s (scripts_of ((a, r) ∷ ys))) → held_after h ((a, r) ∷ ys) ≡ None
      go later (to_queue (queue.redeliver e)) r c k = later s h c f k
      go later a r c k = later (answered X s r) (held_by h a r) c.2
          (λ b. subst (λ z. held_by h z r ≡ None) (sym c.0) (step_outside s r h (subst (λ z. Suits z r) c.0 c.1.0) f b)) k

module _ (behaviour : Behaviour) (l : Line) where
  -- nothing is queued, and no worker is inside a script
  pub record Idle (n : ℕ) (xs : List Step) : Type 0 where
    pub empty : queue_after l xs ≡ []
    pub outside : (p : ℕ) → IsWorker n p → is_inside (left behaviour l xs p) ≡ false

  pub none_inside : (n : ℕ) (xs : List Step) → some_inside behaviour l n xs ≡ false → (p : ℕ) → IsWorker n p → is_inside (left behaviour l xs p) ≡ false
  none_inside zero xs e p w = absurd (omega (arith, w.0, w.1))
  none_inside (suc n) xs e p w =
      let both = or_false (is_inside (left behaviour l xs (suc n))) (some_inside behaviour l n xs) e in
      elim (cases_eq p (suc n)) [
        | inl same ↦ subst (λ q. is_inside (left behaviour l xs q) ≡ false) (sym same) both.0
        | inr apart ↦ none_inside n xs both.1 p (w.0, omega (arith, w.1, apart))
      ]

  pub all_outside : (n : ℕ) (xs : List Step) → ((p : ℕ) → IsWorker n p → is_inside (left behaviour l xs p) ≡ false) → some_inside behaviour l n xs ≡ false
  all_outside zero xs f = refl
  all_outside (suc n) xs f =
      ap (λ b. b || some_inside behaviour l n xs) (f (suc n) (omega arith, omega arith)) ∙ all_outside n xs (λ p w. f p (w.0, omega (arith, w.1)))

  pub idle_from : (n : ℕ) (xs : List Step) → holds_more behaviour l n xs ≡ false → Idle n xs
  idle_from n xs e =
      let both = or_false (is_queued (queue_after l xs)) (some_inside behaviour l n xs) e in
      record { empty = none_queued (queue_after l xs) both.0; outside = none_inside n xs both.1 }

  pub idle_more : (n : ℕ) (xs : List Step) → Idle n xs → holds_more behaviour l n xs ≡ false
  idle_more n xs i = ap (λ q. is_queued q || some_inside behaviour l n xs) i.empty ∙ all_outside n xs i.outside

  -- ---- a worker's own step, where all is idle

  none_taken : (q : List Envelope) (e : Envelope) → q ≡ [] → Some e ≡ queue.answer_of q queue.take → ⊥
  none_taken [] e i h = cc
  none_taken (x ∷ q) e i h = cc

  stays_outside : (n : ℕ) (xs : List Step) (s : Doing (worker behaviour l)) (r : Reply Envelope) → queue_after l xs ≡ [] → is_inside s ≡ false
      → Answers behaviour l n xs (ask (worker behaviour l) s) r
      → (is_inside (answered (worker behaviour l) s r) ≡ false) × (queue_next (queue_after l xs) (ask (worker behaviour l) s) ≡ [])
  stays_outside n xs taking (from_queue None) e i h = (refl, ap (λ q. queue.next q queue.take) e)
  stays_outside n xs taking (from_queue (Some x)) e i h = absurd (none_taken (queue_after l xs) x e h)
  stays_outside n xs resting (rested true) e i h = (refl, e)
  stays_outside n xs resting (rested false) e i h = (refl, e)
  stays_outside n xs (owning m) r e i h = absurd cc
  stays_outside n xs (doing js b) r e i h = absurd cc
  stays_outside n xs (reading g c t fs) r e i h = absurd cc
  stays_outside n xs acking r e i h = absurd cc
  stays_outside n xs s r e i h = elim h [ ]

  -- ---- only a rest that was answered with no more ends a worker

  settled_on : (js : Jobs (worker behaviour l)) (b : Stored) → settled (worker behaviour l) js b ≡ over → ⊥
  settled_on [] b e = cc
  settled_on (store t o ∷ js) First e = cc
  settled_on (store t o ∷ js) Again e = cc
  settled_on (publish m ∷ js) First e = cc
  settled_on (publish m ∷ js) Again e = cc
  settled_on (part g t c ∷ js) First e = cc
  settled_on (part g t c ∷ js) Again e = cc

  opens_on : (x : Option Content) → opens (worker behaviour l) x ≡ over → ⊥
  opens_on None e = cc
  opens_on (Some m) e = cc

  next_on : (g : ℕ) (c : PCarried) (fs : List (ℕ × Outcome)) → reads_next (worker behaviour l) g c fs ≡ over → ⊥
  next_on g c fs = reads_cases (worker behaviour l) (λ s. s ≡ over → ⊥) g c fs (λ m e. cc) (λ t m e. cc)

  handed_on : (b : Bool) (g : ℕ) (c : PCarried) → ◌≡◌ {A = Doing (worker behaviour l)} (cond b (reads_next (worker behaviour l) g c []) acking) over → ⊥
  handed_on true g c e = next_on g c [] e
  handed_on false g c e = cc

  read_on : (b : Bool) (js : Jobs (worker behaviour l)) (g : ℕ) (c : PCarried) (fs : List (ℕ × Outcome))
      → cond b (settled (worker behaviour l) js Again) (reads_next (worker behaviour l) g c fs) ≡ over → ⊥
  read_on true js g c fs e = settled_on js Again e
  read_on false js g c fs e = next_on g c fs e

  ends_idle : (n : ℕ) (xs : List Step) (s : Doing (worker behaviour l)) (r : Reply Envelope) → Answers behaviour l n xs (ask (worker behaviour l) s) r
      → answered (worker behaviour l) s r ≡ over → holds_more behaviour l n xs ≡ false
  ends_idle n xs taking (from_queue None) h e = absurd cc
  ends_idle n xs taking (from_queue (Some x)) h e = absurd (opens_on ((worker behaviour l).opened x) e)
  ends_idle n xs resting (rested true) h e = absurd cc
  ends_idle n xs resting (rested false) h e = sym h
  ends_idle n xs (owning m) (from_table (table.was First)) h e = absurd (settled_on ((worker behaviour l).ended m ((worker behaviour l).outcome m)) First e)
  ends_idle n xs (owning m) (from_table (table.was Again)) h e = absurd cc
  ends_idle n xs (doing (store t o ∷ js) b) (from_table (table.was a)) h e = absurd (settled_on js (cond (is_due t js) a b) e)
  ends_idle n xs (doing (publish m ∷ js) b) (from_queue None) h e = absurd (settled_on js b e)
  ends_idle n xs (doing (part g t c ∷ js) b) (from_table (table.count i)) h e = absurd (handed_on (eqb (suc i) c.size) g c e)
  ends_idle n xs (reading g c t fs) (from_table (table.found (Some o))) h e =
      absurd (read_on (eqb (length (fs ++ (t, o) ∷ [])) c.size) ((worker behaviour l).completed c (fs ++ (t, o) ∷ [])) g c (fs ++ (t, o) ∷ []) e)
  ends_idle n xs (reading g c t fs) (from_table (table.found None)) h e = absurd cc
  ends_idle n xs (owning m) (from_table r) h e = absurd cc
  ends_idle n xs (doing (store t o ∷ js) b) (from_table r) h e = absurd cc
  ends_idle n xs (doing (publish m ∷ js) b) (from_queue x) h e = absurd cc
  ends_idle n xs (doing (part g t c ∷ js) b) (from_table r) h e = absurd cc
  ends_idle n xs (reading g c t fs) (from_table r) h e = absurd cc
  ends_idle n xs acking acked h e = absurd cc
  ends_idle n xs s r h e = elim h [ ]

  module _ (plan : IsPlan l) (back : FirstsRead l) where
    -- a worker that has ended has done so after its rest
    pub ended_over : (n : ℕ) (xs : List Step) (p : ℕ) (s : Doing (worker behaviour l)) → Ready behaviour l plan n xs p s → ask (worker behaviour l) s ≡ end
        → s ≡ over
    ended_over n xs p taking k e = absurd cc
    ended_over n xs p resting k e = absurd cc
    ended_over n xs p over k e = refl
    ended_over n xs p failed k e = absurd k
    ended_over n xs p (owning m) k e = absurd cc
    ended_over n xs p (doing [] b) k e = absurd k
    ended_over n xs p (doing (store u o ∷ js) b) k e = absurd cc
    ended_over n xs p (doing (publish m ∷ js) b) k e = absurd cc
    ended_over n xs p (doing (part g u c ∷ js) b) k e = absurd cc
    ended_over n xs p (reading g c t fs) k e = absurd cc
    ended_over n xs p acking k e = absurd cc

    -- what holds after these steps
    pub record Holds (n : ℕ) (xs : List Step) : Type 0 where
      pub lawful : Lawful behaviour l n xs
      pub workers : Each (λ x. IsWorker n x.0) xs
      pub ready : (p : ℕ) → IsWorker n p → Ready behaviour l plan n xs p (left behaviour l xs p)
      -- once a worker has ended there is nothing more to do
      pub idle : (p : ℕ) → IsWorker n p → left behaviour l xs p ≡ over → Idle n xs

    pub holds_first : (n : ℕ) → Holds n []
    holds_first n = record {
      lawful = record {
        core = λ p. tt;
        held = λ p. tt;
        queue_legal = (queue_starts behaviour l n).0;
        queue_is = (queue_starts behaviour l n).1;
        table_legal = (table_starts behaviour l n).0;
        table_is = (table_starts behaviour l n).1;
      };
      workers = tt;
      ready = λ p w. tt;
      idle = λ p w e. absurd cc;
    }

    module _ (n : ℕ) (xs : List Step) (k : Holds n xs) (p : ℕ) (w : IsWorker n p) (r : Reply Envelope)
        (b : ReadsBack (worker behaviour l) (left behaviour l xs p)) (h : Answers behaviour l n xs (ask (worker behaviour l) (left behaviour l xs p)) r) where
      abbrev a : Ask Envelope
      a = ask (worker behaviour l) (left behaviour l xs p)

      abbrev x : Step
      x = (p, (a, r))

      plain : of_scripts a ≡ true
      plain = asks_of_scripts (worker behaviour l) (left behaviour l xs p)

      core_next : (q : ℕ) → IsCoreRun (worker behaviour l) taking (scripts_of (by q (xs ++ x ∷ [])))
      core_next q = elim (cases_eq p q) [
        | inl same ↦
            subst (λ u. IsCoreRun (worker behaviour l) taking (scripts_of (by u (xs ++ x ∷ [])))) same
            (subst (IsCoreRun (worker behaviour l) taking) (sym (ap scripts_of (by_more p xs (a, r)) ∙ scripts_more (by p xs) a r plain))
            (core_more (worker behaviour l) taking (scripts_of (by p xs)) (a, r) (k.lawful.core p) refl (answers_suit behaviour l n xs a r plain h) b))
        | inr apart ↦ subst (IsCoreRun (worker behaviour l) taking) (sym (ap scripts_of (by_other q p xs (a, r) apart))) (k.lawful.core q)
      ]

      held_next : (q : ℕ) → DeliversHeld None (by q (xs ++ x ∷ []))
      held_next q = elim (cases_eq p q) [
        | inl same ↦ subst (λ u. DeliversHeld None (by u (xs ++ x ∷ []))) same
            (subst (DeliversHeld None) (sym (by_more p xs (a, r)))
            (delivers_append None (by p xs) (a, r) (k.lawful.held p) (plain_ask (worker behaviour l) (left behaviour l xs p) (held_after None (by p xs)) r)))
        | inr apart ↦ subst (DeliversHeld None) (sym (by_other q p xs (a, r) apart)) (k.lawful.held q)
      ]

      lawful_next : Lawful behaviour l n (xs ++ x ∷ [])
      lawful_next =
          let may = part_may behaviour l plan n xs p (left behaviour l xs p) k.lawful.table_is (good_left behaviour l plan back n xs k.lawful p)
          (k.ready p w) in
          let in_queue = queue_stays behaviour l n xs p a r w k.lawful.queue_legal k.lawful.queue_is plain h in
          let in_table = table_stays behaviour l n xs p a r w k.lawful.table_legal k.lawful.table_is h may in
          record {
            core = core_next;
            held = held_next;
            queue_legal = in_queue.0;
            queue_is = in_queue.1 ∙ sym (queue_more (map sealed (first_messages l)) xs x);
            table_legal = in_table.0;
            table_is = in_table.1 ∙ sym (results_more no_results xs x);
          }

      ready_next : (q : ℕ) → IsWorker n q → Ready behaviour l plan n (xs ++ x ∷ []) q (left behaviour l (xs ++ x ∷ []) q)
      ready_next q u = elim (cases_eq p q) [
        | inl same ↦
            subst (λ v. Ready behaviour l plan n (xs ++ x ∷ []) v (left behaviour l (xs ++ x ∷ []) v)) same
            (subst (Ready behaviour l plan n (xs ++ x ∷ []) p) (sym (left_here behaviour l xs p a r plain))
            (own_ready behaviour l plan back n xs p (left behaviour l xs p) r k.lawful.table_is (good_left behaviour l plan back n xs k.lawful p)
            (k.ready p w) h lawful_next))
        | inr apart ↦
            subst (Ready behaviour l plan n (xs ++ x ∷ []) q) (sym (left_other behaviour l xs q p a r apart))
            (other_ready behaviour l plan n xs q p a r u apart lawful_next.table_legal (left behaviour l xs q) (k.ready q u))
      ]

      pub idle_stays : Idle n xs → Idle n (xs ++ x ∷ [])
      idle_stays i =
          let own = stays_outside n xs (left behaviour l xs p) r i.empty (i.outside p w) h in
          record {
            empty = queue_more (map sealed (first_messages l)) xs x ∙ own.1;
            outside = λ q u. elim (cases_eq p q) [
              | inl same ↦ subst (λ v. is_inside (left behaviour l (xs ++ x ∷ []) v) ≡ false) same (ap is_inside (left_here behaviour l xs p a r plain) ∙ own.0)
              | inr apart ↦ ap is_inside (left_other behaviour l xs q p a r apart) ∙ i.outside q u
            ];
          }

      idle_next : (q : ℕ) → IsWorker n q → left behaviour l (xs ++ x ∷ []) q ≡ over → Idle n (xs ++ x ∷ [])
      idle_next q u e = elim (cases_eq p q) [
        | inl same ↦ idle_stays (idle_from n xs
            (ends_idle n xs (left behaviour l xs p) r h (sym (left_here behaviour l xs p a r plain)
            ∙ subst (λ v. left behaviour l (xs ++ x ∷ []) v ≡ over) (sym same) e)))
        | inr apart ↦ idle_stays (k.idle q u (sym (left_other behaviour l xs q p a r apart) ∙ e))
      ]

      pub holds_next : Holds n (xs ++ x ∷ [])
      holds_next = record {
        lawful = lawful_next;
        workers = each_append (λ (y : Step). IsWorker n y.0) xs (x ∷ []) k.workers (w, tt);
        ready = ready_next;
        idle = idle_next;
      }

    -- ---- a redelivery

    module _ (n : ℕ) (xs : List Step) (k : Holds n xs) (p : ℕ) (w : IsWorker n p) (e : Envelope) (h : holds xs p ≡ Some e) where
      abbrev y : Step
      y = redelivery p e

      -- who holds an envelope is inside its script
      pub inside : is_inside (left behaviour l xs p) ≡ false → ⊥
      inside out = none (sym (held_outside (worker behaviour l) taking None (by p xs) (k.lawful.core p) (λ b. refl)
          (between (left behaviour l xs p) (k.ready p w) out)) ∙ h)
        where
          none : None ≡ Some e → ⊥
          none q = cc

          between : (s : Doing (worker behaviour l)) → Ready behaviour l plan n xs p s → is_inside s ≡ false → Between s
          between taking r o = tt
          between resting r o = tt
          between over r o = tt
          between failed r o = absurd r
          between (owning m) r o = absurd cc
          between (doing js b) r o = absurd cc
          between (reading g c t fs) r o = absurd cc
          between acking r o = absurd cc

      by_delivers : (q : ℕ) → scripts_of (by q (xs ++ y ∷ [])) ≡ scripts_of (by q xs)
      by_delivers q = ap scripts_of (by_append q xs (y ∷ []))
          ∙ (scripts_append (by q xs) (by q (y ∷ [])) ∙ (ap (λ ys. scripts_of (by q xs) ++ ys) (none (eqb p q)) ∙ append-nil (scripts_of (by q xs))))
        where
          none : (b : Bool) → ◌≡◌ {A = List (AskedAndAnswered Envelope)} (scripts_of (cond b (y.1 ∷ []) [])) []
          none true = refl
          none false = refl

      held_delivers : (q : ℕ) → DeliversHeld None (by q (xs ++ y ∷ []))
      held_delivers q = elim (cases_eq p q) [
        | inl same ↦ subst (λ u. DeliversHeld None (by u (xs ++ y ∷ []))) same
            (subst (DeliversHeld None) (sym (by_more p xs y.1)) (delivers_append None (by p xs) y.1 (k.lawful.held p) h))
        | inr apart ↦ subst (DeliversHeld None) (sym (by_other q p xs y.1 apart)) (k.lawful.held q)
      ]

      lawful_delivers : Lawful behaviour l n (xs ++ y ∷ [])
      lawful_delivers =
          let in_queue = queue_delivers behaviour l n xs p e w k.lawful.queue_legal k.lawful.queue_is h in
          let in_table = table_delivers behaviour l n xs p e in
          record {
            core = λ q. subst (IsCoreRun (worker behaviour l) taking) (sym (by_delivers q)) (k.lawful.core q);
            held = held_delivers;
            queue_legal = in_queue.0;
            queue_is = in_queue.1 ∙ sym (queue_more (map sealed (first_messages l)) xs y);
            table_legal = subst (table.IsLegal (roster_of l)) (sym in_table) k.lawful.table_legal;
            table_is = ap (table.results (roster_of l)) in_table ∙ (k.lawful.table_is ∙ sym (results_more no_results xs y));
          }

      pub holds_delivers : Holds n (xs ++ y ∷ [])
      holds_delivers = record {
        lawful = lawful_delivers;
        workers = each_append (λ (z : Step). IsWorker n z.0) xs (y ∷ []) k.workers (w, tt);
        ready = λ q u. subst (Ready behaviour l plan n (xs ++ y ∷ []) q) (sym (left_delivers behaviour l xs q p e))
            (delivers_ready behaviour l plan n xs q p e lawful_delivers.table_legal (left behaviour l xs q) (k.ready q u));
        idle = λ q u o. absurd (inside ((k.idle q u (sym (left_delivers behaviour l xs q p e) ∙ o)).outside p w));
      }

    -- one more step, of a worker's ask
    pub holds_step : (n : ℕ) (xs : List Step) (p : ℕ) (a : Ask Envelope) (r : Reply Envelope) → Holds n xs → IsWorker n p
        → ReadsBack (worker behaviour l) (left behaviour l xs p) → a ≡ ask (worker behaviour l) (left behaviour l xs p) → Answers behaviour l n xs a r
        → Holds n (xs ++ (p, (a, r)) ∷ [])
    holds_step n xs p a r k w b e h =
        subst (λ z. Holds n (xs ++ (p, (z, r)) ∷ [])) (sym e) (holds_next n xs k p w r b (subst (λ z. Answers behaviour l n xs z r) e h))

    -- all steps of a run by turns
    pub holds_turned : (n : ℕ) (before : List Step) (us : List ℕ) (xs : List Step) → Each (IsWorker n) us → Holds n before → Turned behaviour l n before us xs
        → Holds n (before ++ xs)
    holds_turned n before [] [] w k all_taken = subst (Holds n) (sym (append-nil before)) k
    holds_turned n before us (x ∷ xs) w k (delivers_again {p = p} {e = e} i h t) =
        subst (Holds n) (append_assoc before (x ∷ []) xs) (holds_turned n (before ++ x ∷ []) us xs w (holds_delivers n before k p i e h) t)
    holds_turned n before (p ∷ us) xs w k (skips_turn e t) = holds_turned n before us xs w.1 k t
    holds_turned n before (p ∷ us) ((q, (a, r)) ∷ xs) w k (takes_turn b e h t) =
        subst (Holds n) (append_assoc before ((q, (a, r)) ∷ []) xs)
        (holds_turned n (before ++ (q, (a, r)) ∷ []) us xs w.1 (holds_step n before q a r k w.0 b e h) t)
