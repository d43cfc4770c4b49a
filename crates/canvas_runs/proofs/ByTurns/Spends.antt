-- Runs by turns with entries: the walk over the steps, and how many stores answer Again.
use Rattle.std.proofs.Common.{◌≡◌, ◌≢◌, ◌⊎◌, ℕ, zero, suc, ◌+◌, ◌≤◌, true, false, List, [], ◌∷◌, ◌++◌, length, None, refl, sym, ap, ap₂, ◌∙◌, subst, inl, inr, ⊎_elim, append_assoc, append-nil, arith}
use Rattle.std.proofs.lemmas.Bool.{cases_eq, false≢true}
use Rattle.canvas_task.specs.Apply.{Behaviour}
use Rattle.canvas_semantics.specs.Line.{Line}
use Rattle.canvas_envelope.specs.declared.envelope.Envelope.{Envelope}
use Rattle.canvas_rewrite.specs.Planned.{IsPlan}
use Rattle.canvas_history.specs.Queue as queue
use Rattle.canvas_runs.specs.Calls.{of_scripts, held_by, held_after}
use Rattle.canvas_runs.specs.Core.{Ask, Reply, to_queue, from_queue, ask, answered, failed, Doing, Suits}
use Rattle.canvas_runs.specs.Law.{takes_one_of, agains_one_of}
use Rattle.canvas_history.specs.Lists.{Each, total, by}
use Rattle.canvas_runs.specs.declared.when.When.{When}
use Rattle.canvas_runs.specs.declared.when.When.TheVariants.{Early, Late}
use Rattle.canvas_runs.specs.Worker.{worker}
use Rattle.canvas_runs.proofs.Lists.Sums.{sum_to, sum_to-same}
use Rattle.canvas_runs.proofs.Runs.MoreAsks.{by_more, by_other, asks_of_scripts, held_append}
use Rattle.canvas_runs.specs.Redeliveries.{Entry, spent, point, comes_to, TurnedAgain, no_turn, skips, takes, spends}
use Rattle.canvas_runs.specs.Turns.{Step, IsWorker, FirstsRead, left, holds, redelivery, Answers, redelivers_one, redeliveries_in}
use Rattle.canvas_runs.proofs.ByTurns.Redeliveries.{here, spent_some, spent_length, not_wanted, ahead, fails, one_step, redelivers, entries_for}
use Rattle.canvas_runs.proofs.ByTurns.Turning.{left_here, left_delivers, left_other, answers_suit}
use Rattle.canvas_runs.proofs.ByTurns.TurnStates.{Ready}
use Rattle.canvas_runs.proofs.ByTurns.TurnSums.{in_queue}
use Rattle.canvas_runs.proofs.ByTurns.TurnWalk.{Holds, holds_step, holds_delivers as holds_again}

-- sums of which one part changes
changed : (n p a b : ℕ) (f g : ℕ → ℕ) → p ≤ n → ((q : ℕ) → p ≢ q → f q ≡ g q) → a + f p ≡ b + g p → a + sum_to n f ≡ b + sum_to n g
changed zero p a b f g le off e = let z : p ≡ 0 = omega (arith, le) in subst (λ q. a + f q ≡ b + g q) z e
changed (suc n) p a b f g le off e = elim (cases_eq p (suc n)) [
  | inl s ↦
      let below = sum_to-same n f g (λ q m. off q (λ d. omega (arith, d, s, m))) in
      let top : a + f (suc n) ≡ b + g (suc n) = subst (λ q. a + f q ≡ b + g q) s e in
      omega (arith, below, top)
  | inr d ↦ let r = changed n p a b f g (omega (arith, le, d)) off e in let top = off (suc n) d in omega (arith, r, top)
]

-- the envelope of a worker's open script after one more step
holds_here : (xs : List Step) (p : ℕ) (a : Ask Envelope) (r : Reply Envelope) → holds (xs ++ (p, (a, r)) ∷ []) p ≡ held_by (holds xs p) a r
holds_here xs p a r = ap (held_after None) (by_more p xs (a, r)) ∙ held_append None (by p xs) ((a, r) ∷ [])

holds_other : (xs : List Step) (p q : ℕ) (a : Ask Envelope) (r : Reply Envelope) → q ≢ p → holds (xs ++ (q, (a, r)) ∷ []) p ≡ holds xs p
holds_other xs p q a r apart = ap (held_after None) (by_other p q xs (a, r) apart)

holds_delivers : (xs : List Step) (p q : ℕ) (d : Envelope) → holds (xs ++ redelivery q d ∷ []) p ≡ holds xs p
holds_delivers xs p q d = elim (cases_eq q p) [
  | inl s ↦ subst (λ i. holds (xs ++ redelivery i d ∷ []) p ≡ holds xs p) (sym s) (holds_here xs p (to_queue (queue.redeliver d)) (from_queue None))
  | inr apart ↦ holds_other xs p q (to_queue (queue.redeliver d)) (from_queue None) apart
]

module _ (behaviour : Behaviour) (l : Line) (n : ℕ) where
  plain_step : (a : Ask Envelope) → of_scripts a ≡ true → redelivers_one a ≡ 0
  plain_step (to_queue (queue.redeliver e)) o = absurd (false≢true o)
  plain_step a o = refl

  plain_call : (k : ℕ) (a : Ask Envelope) (r : Reply Envelope) → of_scripts a ≡ true → in_queue behaviour l (agains_one_of l k) (a, r) ≡ 0
  plain_call k (to_queue (queue.redeliver e)) r o = absurd (false≢true o)
  plain_call k (to_queue queue.take) (from_queue None) o = refl
  plain_call k (to_queue c) (from_queue x) o = refl
  plain_call k a r o = refl

  of_script : (before : List Step) (p : ℕ) (a : Ask Envelope) → a ≡ ask (worker behaviour l) (left behaviour l before p) → of_scripts a ≡ true
  of_script before p a e = subst (λ b. of_scripts b ≡ true) (sym e) (asks_of_scripts (worker behaviour l) (left behaviour l before p))

  comes_still : (before : List Step) (p q : ℕ) (d : Envelope) → comes_to behaviour l (before ++ redelivery q d ∷ []) p ≡ comes_to behaviour l before p
  comes_still before p q d = ap₂ (point l) (left_delivers behaviour l before p q d) (holds_delivers before p q d)

  -- ---- as many entries are spent as envelopes delivered again

  pub spends_length : (before : List Step) (es : List Entry) (us : List ℕ) (xs : List Step) (rest : List Entry) → TurnedAgain behaviour l n before es us xs rest
      → redeliveries_in xs + length rest ≡ length es
  spends_length before es [] [] rest no_turn = omega arith
  spends_length before es [] (x ∷ xs) rest t = elim t [ ]
  spends_length before es (p ∷ us) xs rest (skips e t) = spends_length before es us xs rest t
  spends_length before es (p ∷ us) ((q, (a, r)) ∷ xs) rest (takes f b e h t) =
      let i = spends_length (before ++ (q, (a, r)) ∷ []) es us xs rest t in let z = plain_step a (of_script before q a e) in omega (arith, i, z)
  spends_length before es (p ∷ us) ((q, (d, s)) ∷ (q', (a, r)) ∷ xs) rest (spends f w g b e h t) =
      let i = spends_length ((before ++ (q, (d, s)) ∷ []) ++ (q', (a, r)) ∷ []) (spent (comes_to behaviour l before p) es) us xs rest t in
      let z = plain_step a (of_script (before ++ (q, (d, s)) ∷ []) q' a e) in
      let m = spent_length (comes_to behaviour l before p) es f in
      omega (arith, i, z, m)

  module _ (k : ℕ) where
    -- how often the task's message is taken in these steps, and delivered again
    abbrev pub takes_in : List Step → ℕ
    takes_in xs = total (λ x. in_queue behaviour l (takes_one_of l k) x.1) xs

    abbrev pub agains_of : List Step → ℕ
    agains_of xs = total (λ x. in_queue behaviour l (agains_one_of l k) x.1) xs

    -- the entries for one of the two points
    pub few_left : (w : When) (before : List Step) (es : List Entry) (us : List ℕ) (xs : List Step) (rest : List Entry)
        → TurnedAgain behaviour l n before es us xs rest → entries_for k w rest ≤ entries_for k w es
    few_left w before es [] [] rest no_turn = omega arith
    few_left w before es [] (x ∷ xs) rest t = elim t [ ]
    few_left w before es (p ∷ us) xs rest (skips e t) = few_left w before es us xs rest t
    few_left w before es (p ∷ us) (x ∷ xs) rest (takes f b e h t) = few_left w (before ++ x ∷ []) es us xs rest t
    few_left w before es (p ∷ us) (x ∷ y ∷ xs) rest (spends f v g b e h t) =
        let i = few_left w ((before ++ x ∷ []) ++ y ∷ []) (spent (comes_to behaviour l before p) es) us xs rest t in
        let m = spent_some (comes_to behaviour l before p) es f k w in
        omega (arith, i, m)

    -- what is spent for the task is a redelivery of its message
    pub spends_agains : (before : List Step) (es : List Entry) (us : List ℕ) (xs : List Step) (rest : List Entry)
        → TurnedAgain behaviour l n before es us xs rest
        → agains_of xs + (entries_for k Early rest + entries_for k Late rest) ≡ entries_for k Early es + entries_for k Late es
    spends_agains before es [] [] rest no_turn = omega arith
    spends_agains before es [] (x ∷ xs) rest t = elim t [ ]
    spends_agains before es (p ∷ us) xs rest (skips e t) = spends_agains before es us xs rest t
    spends_agains before es (p ∷ us) ((q, (a, r)) ∷ xs) rest (takes f b e h t) =
        let i = spends_agains (before ++ (q, (a, r)) ∷ []) es us xs rest t in let z = plain_call k a r (of_script before q a e) in omega (arith, i, z)
    spends_agains before es (p ∷ us) ((q, (to_queue (queue.redeliver d), from_queue None)) ∷ (q', (a, r)) ∷ xs) rest (spends f w g b e h t) =
        let i = spends_agains ((before ++ redelivery q d ∷ []) ++ (q', (a, r)) ∷ []) (spent (comes_to behaviour l before p) es) us xs rest t in
        let z = plain_call k a r (of_script (before ++ redelivery q d ∷ []) q' a e) in
        let m = spent_some (comes_to behaviour l before p) es f k Early in
        let o = spent_some (comes_to behaviour l before p) es f k Late in
        let c = redelivers behaviour l k (left behaviour l before p) (holds before p) d es g f in
        omega (arith, i, z, m, o, c)

    -- messages of the task that are ahead of the point
    abbrev pub waiting : When → List Step → ℕ
    waiting w before = sum_to n (λ p. ahead behaviour l k w (left behaviour l before p) (holds before p))

    waits_still : (w : When) (before : List Step) (q : ℕ) (d : Envelope) → waiting w (before ++ redelivery q d ∷ []) ≡ waiting w before
    waits_still w before q d =
        sum_to-same n (λ p. ahead behaviour l k w (left behaviour l (before ++ redelivery q d ∷ []) p)
        (holds (before ++ redelivery q d ∷ []) p)) (λ p. ahead behaviour l k w (left behaviour l before p) (holds before p))
        (λ p m. ap₂ (ahead behaviour l k w) (left_delivers behaviour l before p q d) (holds_delivers before p q d))

    waits_step : (w : When) (before : List Step) (p : ℕ) (a : Ask Envelope) (r : Reply Envelope) → p ≤ n
        → a ≡ ask (worker behaviour l) (left behaviour l before p) → Answers behaviour l n before a r
        → fails behaviour l k (answered (worker behaviour l) (left behaviour l before p) r) ≡ false
        → in_queue behaviour l (takes_one_of l k) (a, r) + waiting w before ≡ here k w (comes_to behaviour l before p) + waiting w (before ++ (p, (a, r)) ∷ [])
    waits_step w before p a r le e h live =
        let s : Doing (worker behaviour l) = left behaviour l before p in
        let suits : Suits (ask (worker behaviour l) s) r = subst (λ b. Suits b r) e (answers_suit behaviour l n before a r (of_script before p a e) h) in
        let one = one_step behaviour l k w s (holds before p) r suits live in
        let two : in_queue behaviour l (takes_one_of l k) (a, r) + ahead behaviour l k w s (holds before p) ≡ here k w (comes_to behaviour l before p)
        + ahead behaviour l k w (answered (worker behaviour l) s r) (held_by (holds before p) a r) =
        subst (λ b. in_queue behaviour l (takes_one_of l k) (b, r) + ahead behaviour l k w s (holds before p) ≡ here k w (comes_to behaviour l before p)
        + ahead behaviour l k w (answered (worker behaviour l) s r) (held_by (holds before p) b r)) (sym e) one in
        let after : ahead behaviour l k w (left behaviour l (before ++ (p, (a, r)) ∷ []) p) (holds (before ++ (p, (a, r)) ∷ []) p)
        ≡ ahead behaviour l k w (answered (worker behaviour l) s r) (held_by (holds before p) a r) =
        ap₂ (ahead behaviour l k w) (left_here behaviour l before p a r (of_script before p a e)) (holds_here before p a r) in
        changed n p (in_queue behaviour l (takes_one_of l k) (a, r)) (here k w (comes_to behaviour l before p))
        (λ q. ahead behaviour l k w (left behaviour l before q) (holds before q))
        (λ q. ahead behaviour l k w (left behaviour l (before ++ (p, (a, r)) ∷ []) q) (holds (before ++ (p, (a, r)) ∷ []) q)) le
        (λ q apart. sym (ap₂ (ahead behaviour l k w) (left_other behaviour l before q p a r apart) (holds_other before q p a r apart)))
        (omega (arith, two, after))

    -- entries stay unspent for a point only where each message that came to it has spent one
    abbrev pub AllSpent : When → List Step → List Entry → List Step → List Entry → Type 0
    AllSpent w before es xs rest =
        (entries_for k w rest ≡ 0) ⊎ (takes_in xs + waiting w before + entries_for k w rest ≡ entries_for k w es + waiting w (before ++ xs))

    module _ (plan : IsPlan l) (back : FirstsRead l) where
      -- in a run by turns a core does not fail
      goes_on : (xs : List Step) (p : ℕ) → Holds behaviour l plan back n xs → IsWorker n p → fails behaviour l k (left behaviour l xs p) ≡ false
      goes_on xs p s w = go (left behaviour l xs p) (s.ready p w)
        where
          go : (z : Doing (worker behaviour l)) → Ready behaviour l plan n xs p z → fails behaviour l k z ≡ false
          go failed k = absurd k
          go z k = refl

      goes_step : (before : List Step) (p : ℕ) (a : Ask Envelope) (r : Reply Envelope) → Holds behaviour l plan back n (before ++ (p, (a, r)) ∷ [])
          → IsWorker n p → a ≡ ask (worker behaviour l) (left behaviour l before p)
          → fails behaviour l k (answered (worker behaviour l) (left behaviour l before p) r) ≡ false
      goes_step before p a r s w e =
          subst (λ z. fails behaviour l k z ≡ false) (left_here behaviour l before p a r (of_script before p a e)) (goes_on (before ++ (p, (a, r)) ∷ []) p s w)

      pub spends_all : (w : When) (before : List Step) (es : List Entry) (us : List ℕ) (xs : List Step) (rest : List Entry)
          → Holds behaviour l plan back n before → Each (IsWorker n) us → TurnedAgain behaviour l n before es us xs rest → AllSpent w before es xs rest
      spends_all w before es [] [] rest j ws no_turn =
          inr (let s : waiting w (before ++ []) ≡ waiting w before = ap (waiting w) (append-nil before) in omega (arith, s))
      spends_all w before es [] (x ∷ xs) rest j ws t = elim t [ ]
      spends_all w before es (p ∷ us) xs rest j ws (skips e t) = spends_all w before es us xs rest j ws.1 t
      spends_all w before es (p ∷ us) ((q, (a, r)) ∷ xs) rest j ws (takes f b e h t) =
          let x : Step = (q, (a, r)) in
          let next : Holds behaviour l plan back n (before ++ x ∷ []) = holds_step behaviour l plan back n before q a r j ws.0 b e h in
          let s = waits_step w before q a r ws.0.1 e h (goes_step before q a r next ws.0 e) in
          let same : waiting w ((before ++ x ∷ []) ++ xs) ≡ waiting w (before ++ x ∷ xs) = ap (waiting w) (append_assoc before (x ∷ []) xs) in
          let few = few_left w (before ++ x ∷ []) es us xs rest t in
          ⊎_elim (λ none. inl none)
          (λ (all : takes_in xs + waiting w (before ++ x ∷ []) + entries_for k w rest ≡ entries_for k w es + waiting w ((before ++ x ∷ []) ++ xs)).
          ⊎_elim (λ (z : here k w (comes_to behaviour l before q) ≡ 0). inr (omega (arith, s, same, all, z)))
          (λ (z : entries_for k w es ≡ 0). inl (omega (arith, few, z))) (not_wanted (comes_to behaviour l before q) es f k w))
          (spends_all w (before ++ x ∷ []) es us xs rest next ws.1 t)
      spends_all w before es (p ∷ us) ((q, (to_queue (queue.redeliver d), from_queue None)) ∷ (q', (a, r)) ∷ xs) rest j ws (spends f v g b e h t) =
          let x : Step = redelivery q d in
          let y : Step = (q', (a, r)) in
          let mid : Holds behaviour l plan back n (before ++ x ∷ []) = holds_again behaviour l plan back n before j q v d g in
          let next : Holds behaviour l plan back n ((before ++ x ∷ []) ++ y ∷ []) =
          holds_step behaviour l plan back n (before ++ x ∷ []) q' a r mid ws.0 b e h in
          let s = waits_step w (before ++ x ∷ []) q' a r ws.0.1 e h (goes_step (before ++ x ∷ []) q' a r next ws.0 e) in
          let still = waits_still w before q d in
          let point_is : here k w (comes_to behaviour l (before ++ x ∷ []) q) ≡ here k w (comes_to behaviour l before q) =
          ap (here k w) (comes_still before q q d) in
          let same : waiting w (((before ++ x ∷ []) ++ y ∷ []) ++ xs) ≡ waiting w (before ++ x ∷ y ∷ xs) =
          ap (waiting w) (append_assoc (before ++ x ∷ []) (y ∷ []) xs ∙ append_assoc before (x ∷ []) (y ∷ xs)) in
          let m = spent_some (comes_to behaviour l before q) es f k w in
          ⊎_elim (λ none. inl none)
          (λ (all : takes_in xs + waiting w ((before ++ x ∷ []) ++ y ∷ []) + entries_for k w rest ≡ entries_for k w (spent (comes_to behaviour l before q) es)
          + waiting w (((before ++ x ∷ []) ++ y ∷ []) ++ xs)).
          inr (omega (arith, s, still, point_is, same, m, all)))
          (spends_all w ((before ++ x ∷ []) ++ y ∷ []) (spent (comes_to behaviour l before q) es) us xs rest next ws.1 t)
