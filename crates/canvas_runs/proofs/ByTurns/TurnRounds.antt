-- One of each two fair lists of turns has a call, until all have ended.
use Rattle.std.proofs.Common.{◌≡◌, ◌≢◌, ◌⊎◌, ℕ, zero, suc, ◌+◌, ◌*◌, ◌≤◌, ◌||◌, Bool, true, false, cond, eqb, List, [], ◌∷◌, ◌++◌, length, Some, None, refl, sym, ap, ◌∙◌, subst, append_assoc, append-nil, inl, inr, ⊎_elim, ne_eqb, eq-eqb, arith}
use Rattle.std.proofs.lemmas.Bool.{cases_eq, false≢true}
use Rattle.canvas_history.proofs.Histories.{In, in_cases}
use Rattle.canvas_semantics.specs.Line.{Line}
use Rattle.canvas_rewrite.specs.Planned.{IsPlan}
use Rattle.canvas_effects.specs.Job.{store, publish, part}
use Rattle.canvas_envelope.specs.declared.envelope.Envelope.{Envelope}
use Rattle.canvas_history.specs.Table as table
use Rattle.canvas_history.specs.Queue as queue
use Rattle.canvas_runs.specs.Calls.{of_scripts}
use Rattle.canvas_runs.specs.Core.{Ask, Reply, end, from_queue, from_table, rested, acked, taking, resting, over, failed, owning, doing, reading, acking, ask, answered, Doing, is_inside}
use Rattle.canvas_history.specs.Lists.{Each, total}
use Rattle.canvas_runs.specs.Worker.{worker, sealed}
use Rattle.canvas_runs.specs.Turns.{Step, is_queued, queue_next, queue_after, left, IsWorker, Answers, FirstsRead, some_inside, holds_more, HasEnded, Turned, all_taken, skips_turn, takes_turn, delivers_again, AllEnded, round}
use Rattle.canvas_effects.specs.Effects.{first_messages}
use Rattle.std.specs.Prelude.{map}
use Rattle.canvas_task.specs.Apply.{Behaviour}
use Rattle.canvas_runs.proofs.Lists.Sums.{total-append}
use Rattle.canvas_runs.proofs.Runs.MoreAsks.{asks_of_scripts}
use Rattle.canvas_runs.proofs.Lists.Words.{each_append, each_left, each_weaker}
use Rattle.canvas_runs.specs.Termination.{IsFair, one_after_another}
use Rattle.canvas_runs.proofs.ByTurns.TurnLaw.{round_workers}
use Rattle.canvas_runs.proofs.ByTurns.TurnLogs.{round_has}
use Rattle.canvas_runs.proofs.ByTurns.TurnStates.{Ready}
use Rattle.canvas_runs.proofs.ByTurns.TurnSums.{calls_of, calls_in}
use Rattle.canvas_runs.proofs.ByTurns.TurnWalk.{inside, Idle, Holds, ended_over, holds_step, holds_turned, idle_more, idle_stays}
use Rattle.canvas_runs.proofs.ByTurns.Turning.{turned_part, queue_more, left_here, left_other}

-- how often the worker has a turn
abbrev pub turns_of : ℕ → List ℕ → ℕ
turns_of p us = total (λ q. cond (eqb q p) 1 0) us

not_here : (p q : ℕ) (us : List ℕ) → q ≢ p → turns_of p (q ∷ us) ≡ turns_of p us
not_here p q us apart = let z : ◌≡◌ {A = ℕ} (cond (eqb q p) 1 0) 0 = ap (λ b. cond b 1 0) (ne_eqb q p apart) in omega (arith, z)

here : (p q : ℕ) (us : List ℕ) → q ≡ p → turns_of p (q ∷ us) ≡ 1 + turns_of p us
here p q us same = let z : ◌≡◌ {A = ℕ} (cond (eqb q p) 1 0) 1 = ap (λ b. cond b 1 0) (eq-eqb q p same) in omega (arith, z)

-- who is among the turns has one
once_there : (p : ℕ) (us : List ℕ) → In p us → 1 ≤ turns_of p us
once_there p [] i = absurd (false≢true i)
once_there p (u ∷ us) i =
    ⊎_elim (λ (same : u ≡ p). let z = here p u us same in omega (arith, z))
    (λ j. let r = once_there p us j in elim (cases_eq u p) [
      | inl same ↦ let z = here p u us same in omega (arith, z)
      | inr apart ↦ let z = not_here p u us apart in omega (arith, z, r)
    ]) (in_cases p u us i)

-- what holds of each turn holds of who has one
each_there : (P : ℕ → Type 0) (us : List ℕ) → Each P us → (p : ℕ) → In p us → P p
each_there P [] a p i = absurd (false≢true i)
each_there P (u ∷ us) a p i = ⊎_elim (λ (same : u ≡ p). subst P same a.0) (λ j. each_there P us a.1 p j) (in_cases p u us i)

-- what holds of the numbers of a round holds of each worker
pub each_round : (n : ℕ) (P : ℕ → Type 0) → Each P (round n) → (p : ℕ) → IsWorker n p → P p
each_round n P a p w = each_there P (round n) a p (round_has n p w)

pub fair_round : (n : ℕ) → IsFair n (round n)
fair_round n = (round_workers n, round_has n)

module _ (behaviour : Behaviour) (l : Line) where
  abbrev Y : Type 0
  Y = Ask Envelope × Reply Envelope

  -- one step without a call: a worker that takes nothing, or that rests
  pub data Quiet : Doing (worker behaviour l) → Reply Envelope → Type 0 where
    takes_none : Quiet taking (from_queue None)
    rests_on : {b : Bool} → Quiet resting (rested b)

  pub quiet_step : (n : ℕ) (xs : List Step) (s : Doing (worker behaviour l)) (r : Reply Envelope)
      → Answers behaviour l n xs (ask (worker behaviour l) s) r → calls_of behaviour l (ask (worker behaviour l) s, r) ≡ 0 → Quiet s r
  quiet_step n xs taking (from_queue None) h z = takes_none
  quiet_step n xs taking (from_queue (Some e)) h z = absurd (omega (arith, z))
  quiet_step n xs resting (rested b) h z = rests_on
  quiet_step n xs (owning m) (from_table (table.was b)) h z = absurd (omega (arith, z))
  quiet_step n xs (doing (store t o ∷ js) d) (from_table (table.was b)) h z = absurd (omega (arith, z))
  quiet_step n xs (doing (publish m ∷ js) d) (from_queue x) h z = absurd (omega (arith, z))
  quiet_step n xs (doing (part g t c ∷ js) d) (from_table (table.count m)) h z = absurd (omega (arith, z))
  quiet_step n xs (reading g c t fs) (from_table (table.found x)) h z = absurd (omega (arith, z))
  quiet_step n xs (owning m) (from_table r) h z = absurd cc
  quiet_step n xs (doing (store t o ∷ js) d) (from_table r) h z = absurd cc
  quiet_step n xs (doing (part g t c ∷ js) d) (from_table r) h z = absurd cc
  quiet_step n xs (reading g c t fs) (from_table r) h z = absurd cc
  quiet_step n xs acking acked h z = absurd (omega (arith, z))
  quiet_step n xs s r h z = elim h [ ]

  quiet_outside : (s : Doing (worker behaviour l)) (r : Reply Envelope) → Quiet s r
      → (is_inside s ≡ false) × (is_inside (answered (worker behaviour l) s r) ≡ false)
  quiet_outside taking (from_queue None) takes_none = (refl, refl)
  quiet_outside resting (rested true) rests_on = (refl, refl)
  quiet_outside resting (rested false) rests_on = (refl, refl)
  quiet_outside s r q = elim q [ ]

  quiet_queue : (q : List Envelope) (n : ℕ) (xs : List Step) (s : Doing (worker behaviour l)) (r : Reply Envelope) → Quiet s r → queue_after l xs ≡ q
      → Answers behaviour l n xs (ask (worker behaviour l) s) r → queue_next q (ask (worker behaviour l) s) ≡ q
  quiet_queue [] n xs taking (from_queue None) takes_none e h = refl
  quiet_queue (x ∷ q) n xs taking (from_queue None) takes_none e h = absurd (let wrong : None ≡ Some x = h ∙ ap (λ z. queue.answer_of z queue.take) e in cc)
  quiet_queue q n xs resting (rested b) rests_on e h = refl
  quiet_queue q n xs s r k e h = elim k [ ]

  -- how far a worker is from its end, where there is nothing more to do
  abbrev rank : Doing (worker behaviour l) → ℕ
  rank over = 0
  rank resting = 1
  rank taking = 2
  rank s = 3

  -- the turns for which a worker finds nothing, where something is queued
  abbrev waits : Doing (worker behaviour l) → ℕ
  waits resting = 1
  waits s = 0

  rank_over : (s : Doing (worker behaviour l)) → rank s ≡ 0 → s ≡ over
  rank_over taking e = absurd (omega (arith, e))
  rank_over resting e = absurd (omega (arith, e))
  rank_over over e = refl
  rank_over failed e = absurd (omega (arith, e))
  rank_over (owning m) e = absurd (omega (arith, e))
  rank_over (doing js b) e = absurd (omega (arith, e))
  rank_over (reading g c t fs) e = absurd (omega (arith, e))
  rank_over acking e = absurd (omega (arith, e))

  few_waits : (s : Doing (worker behaviour l)) → waits s ≤ 1
  few_waits taking = omega arith
  few_waits resting = omega arith
  few_waits over = omega arith
  few_waits failed = omega arith
  few_waits (owning m) = omega arith
  few_waits (doing js b) = omega arith
  few_waits (reading g c t fs) = omega arith
  few_waits acking = omega arith

  module _ (plan : IsPlan l) (back : FirstsRead l) (n : ℕ) where
    abbrev Sound : List Step → Type 0
    Sound xs = Holds behaviour l plan back n xs

    -- the first step of these turns, in what it is without a call
    pub record First (xs : List Step) (p : ℕ) (r : Reply Envelope) : Type 0 where
      pub quiet : Quiet (left behaviour l xs p) r
      pub answers : Answers behaviour l n xs (ask (worker behaviour l) (left behaviour l xs p)) r

    first_of : (xs : List Step) (p : ℕ) (a : Ask Envelope) (r : Reply Envelope) (k : ℕ) → a ≡ ask (worker behaviour l) (left behaviour l xs p)
        → Answers behaviour l n xs a r → calls_of behaviour l (a, r) + k ≡ 0 → First xs p r
    first_of xs p a r k e h z =
        let here : calls_of behaviour l (a, r) ≡ 0 = omega (arith, z) in
        record {
          quiet = quiet_step n xs (left behaviour l xs p) r (subst (λ y. Answers behaviour l n xs y r) e h)
              (subst (λ y. calls_of behaviour l (y, r) ≡ 0) e here);
          answers = subst (λ y. Answers behaviour l n xs y r) e h;
        }

    left_after_one : (xs : List Step) (p : ℕ) (a : Ask Envelope) (r : Reply Envelope) (q : ℕ) → q ≡ p
        → a ≡ ask (worker behaviour l) (left behaviour l xs p)
        → left behaviour l (xs ++ (p, (a, r)) ∷ []) q ≡ answered (worker behaviour l) (left behaviour l xs p) r
    left_after_one xs p a r q same e = ap (left behaviour l (xs ++ (p, (a, r)) ∷ [])) same
        ∙ left_here behaviour l xs p a r (ap of_scripts e ∙ asks_of_scripts (worker behaviour l) (left behaviour l xs p))

    queue_same : (xs : List Step) (p : ℕ) (a : Ask Envelope) (r : Reply Envelope) → a ≡ ask (worker behaviour l) (left behaviour l xs p)
        → First xs p r → queue_after l (xs ++ (p, (a, r)) ∷ []) ≡ queue_after l xs
    queue_same xs p a r e f =
        queue_more (map sealed (first_messages l)) xs (p, (a, r))
        ∙ (ap (queue_next (queue_after l xs)) e ∙ quiet_queue (queue_after l xs) n xs (left behaviour l xs p) r f.quiet refl f.answers)

    -- ---- whoever has a turn without a call is outside of scripts

    outside : (before : List Step) (us : List ℕ) (ys : List Step) → Sound before → Each (IsWorker n) us → Turned behaviour l n before us ys
        → calls_in behaviour l ys ≡ 0 → Each (λ p. is_inside (left behaviour l before p) ≡ false) us
    outside before [] ys s w t z = tt
    outside before (p ∷ us) (x ∷ ys) s w (delivers_again i h t) z = absurd (omega (arith, z))
    outside before (p ∷ us) ys s w (skips_turn e t) z =
        (ap is_inside (ended_over behaviour l plan back n before p (left behaviour l before p) (s.ready p w.0) e), outside before us ys s w.1 t z)
    outside before (p ∷ us) ((q, (a, r)) ∷ ys) s w (takes_turn b e h t) z =
        let f = first_of before q a r (calls_in behaviour l ys) e h z in
        let out = (quiet_outside (left behaviour l before q) r f.quiet).0 in (
          out,
          each_weaker (λ u i. elim (cases_eq q u) [
            | inl same ↦ ap (λ v. is_inside (left behaviour l before v)) (sym same) ∙ out
            | inr apart ↦ ap is_inside (sym (left_other behaviour l before u q a r apart)) ∙ i
          ]) us (outside (before ++ (q, (a, r)) ∷ []) us ys (holds_step behaviour l plan back n before q a r s w.0 b e h) w.1 t (omega (arith, z))),
        )

    -- ---- where nothing is left to do each worker comes nearer to its end

    abbrev Nearer : List Step → List ℕ → List Step → ℕ → Type 0
    Nearer before us after p = (rank (left behaviour l after p) + turns_of p us ≤ rank (left behaviour l before p)) ⊎ (rank (left behaviour l after p) ≡ 0)

    more_false : (xs : List Step) (b : Bool) → Idle behaviour l n xs → b ≡ holds_more behaviour l n xs → b ≡ false
    more_false xs b i e = e ∙ idle_more behaviour l n xs i

    own_nearer : (xs : List Step) (s : Doing (worker behaviour l)) (r : Reply Envelope) → Idle behaviour l n xs → Quiet s r
        → Answers behaviour l n xs (ask (worker behaviour l) s) r → (k j : ℕ) → (k + j ≤ rank (answered (worker behaviour l) s r)) ⊎ (k ≡ 0)
        → (k + (1 + j) ≤ rank s) ⊎ (k ≡ 0)
    own_nearer xs taking (from_queue None) i takes_none h k j (inl e) = inl (omega (arith, e))
    own_nearer xs taking (from_queue None) i takes_none h k j (inr e) = inr e
    own_nearer xs resting (rested true) i rests_on h k j e = absurd (false≢true (sym (more_false xs true i h)))
    own_nearer xs resting (rested false) i rests_on h k j (inl e) = inr (omega (arith, e))
    own_nearer xs resting (rested false) i rests_on h k j (inr e) = inr e
    own_nearer xs s r i q h k j e = elim q [ ]

    nearer : (before : List Step) (us : List ℕ) (ys : List Step) → Sound before → Idle behaviour l n before → Each (IsWorker n) us
        → Turned behaviour l n before us ys → calls_in behaviour l ys ≡ 0 → (p : ℕ) → Nearer before us (before ++ ys) p
    nearer before [] [] s i w all_taken z p =
        inl (let same : rank (left behaviour l (before ++ []) p) ≡ rank (left behaviour l before p) = ap (λ xs. rank (left behaviour l xs p))
        (append-nil before) in omega (arith, same))
    nearer before us (x ∷ ys) s i w (delivers_again j h t) z p = absurd (omega (arith, z))
    nearer before (q ∷ us) ys s i w (skips_turn e t) z p =
        let rest = nearer before us ys s i w.1 t z p in
        elim (cases_eq q p) [
          | inl same ↦
              let none : rank (left behaviour l before p) ≡ 0 = ap (λ v. rank (left behaviour l before v)) (sym same)
              ∙ ap rank (ended_over behaviour l plan back n before q (left behaviour l before q) (s.ready q w.0) e) in
              inr (⊎_elim (λ a. omega (arith, a, none)) (λ b. b) rest)
          | inr apart ↦ let k = not_here p q us apart in ⊎_elim (λ a. inl (omega (arith, a, k))) (λ b. inr b) rest
        ]
    nearer before (q ∷ us) ((v, (a, r)) ∷ ys) s i w (takes_turn b e h t) z p =
        let f = first_of before q a r (calls_in behaviour l ys) e h z in
        let next : List Step = before ++ (q, (a, r)) ∷ [] in
        let stays = subst (λ y. Idle behaviour l n (before ++ (q, (y, r)) ∷ [])) (sym e) (idle_stays behaviour l plan back n before s q w.0 r b f.answers i) in
        let rest = subst (λ xs. Nearer next us xs p) (append_assoc before ((q, (a, r)) ∷ []) ys)
        (nearer next us ys (holds_step behaviour l plan back n before q a r s w.0 b e h) stays w.1 t (omega (arith, z)) p) in
        elim (cases_eq q p) [
          | inl same ↦
              let mine : rank (left behaviour l next p) ≡ rank (answered (worker behaviour l) (left behaviour l before q) r) =
              ap rank (left_after_one before q a r p (sym same) e) in
              let then : rank (left behaviour l before q) ≡ rank (left behaviour l before p) = ap (λ u. rank (left behaviour l before u)) same in
              let k = here p q us same in
              let one = own_nearer before (left behaviour l before q) r i f.quiet f.answers (rank (left behaviour l (before ++ (q, (a, r)) ∷ ys) p))
              (turns_of p us) (⊎_elim (λ c. inl (omega (arith, c, mine))) (λ c. inr c) rest) in
              ⊎_elim (λ c. inl (omega (arith, c, k, then))) (λ c. inr c) one
          | inr apart ↦
              let same : rank (left behaviour l next p) ≡ rank (left behaviour l before p) = ap rank (left_other behaviour l before p q a r apart) in
              let k = not_here p q us apart in
              ⊎_elim (λ c. inl (omega (arith, c, k, same))) (λ c. inr c) rest
        ]

    -- ---- where something is queued a worker has one turn without a call at most

    more_true : (xs : List Step) (b : Bool) → is_queued (queue_after l xs) ≡ true → b ≡ holds_more behaviour l n xs → b ≡ true
    more_true xs b q e = e ∙ ap (λ c. c || some_inside behaviour l n xs) q

    none_queued : (q : List Envelope) → is_queued q ≡ true → None ≡ queue.answer_of q queue.take → ⊥
    none_queued [] e h = cc
    none_queued (x ∷ q) e h = cc

    own_waits : (xs : List Step) (s : Doing (worker behaviour l)) (r : Reply Envelope) → is_queued (queue_after l xs) ≡ true → Quiet s r
        → Answers behaviour l n xs (ask (worker behaviour l) s) r → (j : ℕ) → j ≤ waits (answered (worker behaviour l) s r) → 1 + j ≤ waits s
    own_waits xs taking (from_queue None) i takes_none h j e = absurd (none_queued (queue_after l xs) i h)
    own_waits xs resting (rested true) i rests_on h j e = omega (arith, e)
    own_waits xs resting (rested false) i rests_on h j e = absurd (false≢true (more_true xs false i h))
    own_waits xs s r i q h j e = elim q [ ]

    waiting : (before : List Step) (us : List ℕ) (ys : List Step) → Sound before → is_queued (queue_after l before) ≡ true → Each (IsWorker n) us
        → Turned behaviour l n before us ys → calls_in behaviour l ys ≡ 0 → (p : ℕ) → turns_of p us ≤ waits (left behaviour l before p)
    waiting before [] ys s i w t z p = omega arith
    waiting before (q ∷ us) (x ∷ ys) s i w (delivers_again j h t) z p = absurd (omega (arith, z))
    waiting before (q ∷ us) ys s i w (skips_turn e t) z p =
        let empty = (s.idle q w.0 (ended_over behaviour l plan back n before q (left behaviour l before q) (s.ready q w.0) e)).empty in
        absurd (false≢true (sym (ap is_queued empty) ∙ i))
    waiting before (q ∷ us) ((v, (a, r)) ∷ ys) s i w (takes_turn b e h t) z p =
        let f = first_of before q a r (calls_in behaviour l ys) e h z in
        let next : List Step = before ++ (q, (a, r)) ∷ [] in
        let rest = waiting next us ys (holds_step behaviour l plan back n before q a r s w.0 b e h) (ap is_queued (queue_same before q a r e f) ∙ i) w.1 t
        (omega (arith, z)) p in
        elim (cases_eq q p) [
          | inl same ↦
              let mine : waits (left behaviour l next p) ≡ waits (answered (worker behaviour l) (left behaviour l before q) r) =
              ap waits (left_after_one before q a r p (sym same) e) in
              let then : waits (left behaviour l before q) ≡ waits (left behaviour l before p) = ap (λ u. waits (left behaviour l before u)) same in
              let k = here p q us same in
              let one = own_waits before (left behaviour l before q) r i f.quiet f.answers (turns_of p us) (omega (arith, rest, mine)) in
              omega (arith, one, k, then)
          | inr apart ↦
              let same : waits (left behaviour l next p) ≡ waits (left behaviour l before p) = ap waits (left_other behaviour l before p q a r apart) in
              let k = not_here p q us apart in
              omega (arith, rest, k, same)
        ]

    -- ---- two fair lists of turns

    low_rank : (xs : List Step) (p : ℕ) (s : Doing (worker behaviour l)) → Ready behaviour l plan n xs p s → is_inside s ≡ false → rank s ≤ 2
    low_rank xs p taking k e = omega arith
    low_rank xs p resting k e = omega arith
    low_rank xs p over k e = omega arith
    low_rank xs p failed k e = absurd k
    low_rank xs p (owning m) k e = absurd cc
    low_rank xs p (doing js b) k e = absurd cc
    low_rank xs p (reading g c t fs) k e = absurd cc
    low_rank xs p acking k e = absurd cc

    empty_or : (q : List Envelope) → (q ≡ []) ⊎ (is_queued q ≡ true)
    empty_or [] = inl refl
    empty_or (x ∷ q) = inr refl

    -- without a call in two fair lists of turns all have ended
    quiet_two : (us vs : List ℕ) → IsFair n us → IsFair n vs → (before ys : List Step) → Sound before → Turned behaviour l n before (us ++ vs) ys
        → calls_in behaviour l ys ≡ 0 → AllEnded behaviour l n (before ++ ys)
    quiet_two us vs f g before ys s t z p w =
        ⊎_elim (λ empty. ended (record { empty = empty; outside = out })) (λ queued. absurd (stuck queued)) (empty_or (queue_after l before))
      where
        workers : Each (IsWorker n) (us ++ vs)
        workers = each_append (IsWorker n) us vs f.0 g.0

        twice : 2 ≤ turns_of p (us ++ vs)
        twice =
            let a = once_there p us (f.1 p w) in
            let b = once_there p vs (g.1 p w) in
            let c = total-append (λ q. cond (eqb q p) 1 0) us vs in
            omega (arith, a, b, c)

        out : (q : ℕ) → IsWorker n q → is_inside (left behaviour l before q) ≡ false
        out q u = each_there (λ v. is_inside (left behaviour l before v) ≡ false) us
            (each_left (λ v. is_inside (left behaviour l before v) ≡ false) us vs (outside before (us ++ vs) ys s workers t z)) q (f.1 q u)

        stuck : is_queued (queue_after l before) ≡ true → ⊥
        stuck queued =
            let a = waiting before (us ++ vs) ys s queued workers t z p in
            let b = twice in
            let c = few_waits (left behaviour l before p) in
            omega (arith, a, b, c)

        ended : Idle behaviour l n before → HasEnded behaviour l (before ++ ys) p
        ended i =
            let a = nearer before (us ++ vs) ys s i workers t z p in
            let b = twice in
            let c = low_rank before p (left behaviour l before p) (s.ready p w) (i.outside p w) in
            ap (ask (worker behaviour l)) (rank_over (left behaviour l (before ++ ys) p) (⊎_elim (λ d. omega (arith, d, b, c)) (λ d. d) a))

    -- who has ended takes no further step
    pub none_further : (before : List Step) (us : List ℕ) (ys : List Step) → Sound before → AllEnded behaviour l n before → Each (IsWorker n) us
        → Turned behaviour l n before us ys → ys ≡ []
    none_further before [] [] s e w t = refl
    none_further before us (x ∷ ys) s e w (delivers_again {p = p} {e = d} i h t) =
        absurd (inside behaviour l plan back n before s p i d h
        (ap is_inside (ended_over behaviour l plan back n before p (left behaviour l before p) (s.ready p i) (e p i))))
    none_further before (p ∷ us) ys s e w (skips_turn f t) = none_further before us ys s e w.1 t
    none_further before (p ∷ us) ((q, (a, r)) ∷ ys) s e w (takes_turn b f h t) = absurd (nothing a (f ∙ e q w.0) h)
      where
        nothing : (c : Ask Envelope) → c ≡ end → Answers behaviour l n before c r → ⊥
        nothing c g k = ended_none r (subst (λ y. Answers behaviour l n before y r) g k)
          where
            ended_none : (v : Reply Envelope) → Answers behaviour l n before end v → ⊥
            ended_none v k = k

    all_workers : (uss : List (List ℕ)) → Each (IsFair n) uss → Each (IsWorker n) (one_after_another uss)
    all_workers [] f = tt
    all_workers (us ∷ uss) f = each_append (IsWorker n) us (one_after_another uss) f.0.0 (all_workers uss f.1)

    -- 2 * m fair lists of turns have m calls, or all have ended
    pub lists_go : (m : ℕ) (uss : List (List ℕ)) → Each (IsFair n) uss → 2 * m ≤ length uss → (before ys : List Step) → Sound before
        → Turned behaviour l n before (one_after_another uss) ys → AllEnded behaviour l n (before ++ ys) ⊎ (m ≤ calls_in behaviour l ys)
    lists_go zero uss f many before ys s t = inr (omega arith)
    lists_go (suc m) [] f many before ys s t = absurd (omega (arith, many))
    lists_go (suc m) (us ∷ []) f many before ys s t = absurd (omega (arith, many))
    lists_go (suc m) (us ∷ (vs ∷ uss)) f many before ys s t =
        let both : List ℕ = us ++ vs in
        let rest : List ℕ = one_after_another uss in
        let two : Each (IsWorker n) both = each_append (IsWorker n) us vs f.0.0 f.1.0.0 in
        let cut = turned_part behaviour l n before both rest ys (subst (λ z. Turned behaviour l n before z ys) (sym (append_assoc us vs rest)) t) in
        let sum : calls_in behaviour l ys ≡ calls_in behaviour l cut.0 + calls_in behaviour l cut.1 =
        ap (calls_in behaviour l) cut.2 ∙ total-append (λ x. calls_of behaviour l x.1) cut.0 cut.1 in
        let whole : (before ++ cut.0) ++ cut.1 ≡ before ++ ys = append_assoc before cut.0 cut.1 ∙ ap (λ zs. before ++ zs) (sym cut.2) in
        let sound = holds_turned behaviour l plan back n before both cut.0 two s cut.3 in
        elim (cases_eq (calls_in behaviour l cut.0) 0) [
          | inl none ↦
              let done = quiet_two us vs f.0 f.1.0 before cut.0 s cut.3 none in
              let stop = none_further (before ++ cut.0) rest cut.1 sound done (all_workers uss f.1.1) cut.4 in
              inl (subst (AllEnded behaviour l n) (sym (append-nil (before ++ cut.0)) ∙ (ap (λ zs. (before ++ cut.0) ++ zs) (sym stop) ∙ whole)) done)
          | inr busy ↦
              ⊎_elim (λ e. inl (subst (AllEnded behaviour l n) whole e)) (λ k. inr (omega (arith, k, busy, sum)))
              (lists_go m uss f.1.1 (omega (arith, many)) (before ++ cut.0) cut.1 sound cut.4)
        ]
