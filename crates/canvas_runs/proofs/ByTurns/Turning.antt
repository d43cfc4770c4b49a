-- Turns, one after the other: what one more step changes, and turns put together and taken apart.
use Rattle.std.proofs.Common.{◌≡◌, ◌≢◌, ℕ, ◌+◌, ◌≤◌, Bool, true, false, cond, eqb, List, [], ◌∷◌, ◌++◌, length, Some, None, refl, sym, ap, ◌∙◌, subst, append_assoc, append-nil, arith}
use Rattle.std.proofs.lemmas.Bool.{false≢true}
use Rattle.canvas_task.specs.Apply.{Behaviour}
use Rattle.canvas_semantics.specs.Line.{Line}
use Rattle.canvas_envelope.specs.declared.envelope.Envelope.{Envelope}
use Rattle.canvas_history.specs.Table as table
use Rattle.canvas_history.specs.Table.{Results}
use Rattle.canvas_history.specs.Queue as queue
use Rattle.canvas_runs.specs.Core.{Ask, Reply, to_queue, to_table, rest, ack, from_queue, from_table, rested, acked, taking, ask, answered, left_after, Suits, ReadsBack}
use Rattle.canvas_runs.specs.Calls.{of_scripts, scripts_of}
use Rattle.canvas_history.specs.Lists.{by}
use Rattle.canvas_runs.specs.Worker.{worker}
use Rattle.canvas_runs.specs.Turns.{Step, redelivery, queue_next, results_next, queue_from, results_from, left, Answers, HasEnded, Turned, all_taken, skips_turn, takes_turn, delivers_again, redeliveries_in}
use Rattle.canvas_runs.proofs.Runs.MoreAsks.{by_append, by_more, by_other, left_more, scripts_append, scripts_more}

head_same : (p q : ℕ) (us vs : List ℕ) → ◌≡◌ {A = List ℕ} (p ∷ us) (q ∷ vs) → p ≡ q
head_same p q us vs e = cc

tail_same : (p q : ℕ) (us vs : List ℕ) → ◌≡◌ {A = List ℕ} (p ∷ us) (q ∷ vs) → us ≡ vs
tail_same p q us vs e = cc

-- ---- one more step

pub queue_more : (q : List Envelope) (xs : List Step) (x : Step) → queue_from q (xs ++ x ∷ []) ≡ queue_next (queue_from q xs) x.1.0
queue_more q [] x = refl
queue_more q (y ∷ xs) x = queue_more (queue_next q y.1.0) xs x

pub results_more : (s : Results) (xs : List Step) (x : Step) → results_from s (xs ++ x ∷ []) ≡ results_next (results_from s xs) x.1.0
results_more s [] x = refl
results_more s (y ∷ xs) x = results_more (results_next s y.1.0) xs x

module _ (behaviour : Behaviour) (l : Line) where
  pub left_here : (xs : List Step) (p : ℕ) (a : Ask Envelope) (r : Reply Envelope) → of_scripts a ≡ true
      → left behaviour l (xs ++ (p, (a, r)) ∷ []) p ≡ answered (worker behaviour l) (left behaviour l xs p) r
  left_here xs p a r e = ap (λ ys. left_after (worker behaviour l) taking (scripts_of ys)) (by_more p xs (a, r))
      ∙ (ap (left_after (worker behaviour l) taking) (scripts_more (by p xs) a r e) ∙ left_more (worker behaviour l) taking (scripts_of (by p xs)) (a, r))

  -- a redelivery leaves all workers what they had to do
  pub left_delivers : (xs : List Step) (p q : ℕ) (d : Envelope) → left behaviour l (xs ++ redelivery q d ∷ []) p ≡ left behaviour l xs p
  left_delivers xs p q d =
      ap (left_after (worker behaviour l) taking) (ap scripts_of (by_append p xs (redelivery q d ∷ []))
      ∙ (scripts_append (by p xs) (by p (redelivery q d ∷ []))
      ∙ (ap (λ ys. scripts_of (by p xs) ++ ys) (none (eqb q p)) ∙ append-nil (scripts_of (by p xs)))))
    where
      none : (b : Bool) → scripts_of (cond b ((redelivery q d).1 ∷ []) []) ≡ []
      none true = refl
      none false = refl

  pub left_other : (xs : List Step) (p q : ℕ) (a : Ask Envelope) (r : Reply Envelope) → q ≢ p
      → left behaviour l (xs ++ (q, (a, r)) ∷ []) p ≡ left behaviour l xs p
  left_other xs p q a r apart = ap (λ ys. left_after (worker behaviour l) taking (scripts_of ys)) (by_other p q xs (a, r) apart)

  -- the answer is one to the ask
  pub answers_suit : (n : ℕ) (xs : List Step) (a : Ask Envelope) (r : Reply Envelope) → of_scripts a ≡ true → Answers behaviour l n xs a r → Suits a r
  answers_suit n xs (to_queue queue.take) (from_queue x) o h = tt
  answers_suit n xs (to_queue (queue.publish e)) (from_queue None) o h = tt
  answers_suit n xs (to_queue (queue.publish e)) (from_queue (Some x)) o h = absurd cc
  answers_suit n xs (to_queue (queue.redeliver e)) r o h = absurd (false≢true o)
  answers_suit n xs (to_table (table.store t o)) (from_table (table.was b)) g h = tt
  answers_suit n xs (to_table (table.part g t)) (from_table (table.count m)) o h = tt
  answers_suit n xs (to_table (table.read t)) (from_table (table.found x)) o h = tt
  answers_suit n xs (to_table c) (from_table r) o h = absurd cc
  answers_suit n xs rest (rested m) o h = tt
  answers_suit n xs ack acked o h = tt
  answers_suit n xs a r o h = elim h [ ]

  -- ---- turns put together

  pub turned_append : (n : ℕ) (before : List Step) (us vs : List ℕ) (xs ys : List Step) → Turned behaviour l n before us xs
      → Turned behaviour l n (before ++ xs) vs ys → Turned behaviour l n before (us ++ vs) (xs ++ ys)
  turned_append n before [] vs [] ys all_taken u = subst (λ b. Turned behaviour l n b vs ys) (append-nil before) u
  turned_append n before (p ∷ us) vs xs ys (skips_turn e t) u = skips_turn e (turned_append n before us vs xs ys t u)
  turned_append n before (p ∷ us) vs ((q, (a, r)) ∷ xs) ys (takes_turn b e h t) u =
      takes_turn b e h (turned_append n (before ++ (q, (a, r)) ∷ []) us vs xs ys t
      (subst (λ z. Turned behaviour l n z vs ys) (sym (append_assoc before ((q, (a, r)) ∷ []) xs)) u))
  turned_append n before us vs (x ∷ xs) ys (delivers_again w e t) u =
      delivers_again w e (turned_append n (before ++ x ∷ []) us vs xs ys t
      (subst (λ z. Turned behaviour l n z vs ys) (sym (append_assoc before (x ∷ []) xs)) u))

  -- one more turn, of a worker that has ended
  pub turned_skip : (n : ℕ) (us : List ℕ) (xs : List Step) (p : ℕ) → Turned behaviour l n [] us xs → HasEnded behaviour l xs p
      → Turned behaviour l n [] (us ++ p ∷ []) xs
  turned_skip n us xs p t e = subst (Turned behaviour l n [] (us ++ p ∷ [])) (append-nil xs) (turned_append n [] us (p ∷ []) xs [] t (skips_turn e all_taken))

  -- one more turn with its step
  pub turned_step : (n : ℕ) (us : List ℕ) (xs : List Step) (p : ℕ) (a : Ask Envelope) (r : Reply Envelope) → Turned behaviour l n [] us xs
      → ReadsBack (worker behaviour l) (left behaviour l xs p) → a ≡ ask (worker behaviour l) (left behaviour l xs p) → Answers behaviour l n xs a r
      → Turned behaviour l n [] (us ++ p ∷ []) (xs ++ (p, (a, r)) ∷ [])
  turned_step n us xs p a r t b e h = turned_append n [] us (p ∷ []) xs ((p, (a, r)) ∷ []) t (takes_turn b e h all_taken)

  -- ---- and taken apart

  abbrev pub Parted : ℕ → List Step → List ℕ → List ℕ → List Step → Type 0
  Parted n before us vs zs = (xs : List Step) × (ys : List Step) × (zs ≡ xs ++ ys) × Turned behaviour l n before us xs
      × Turned behaviour l n (before ++ xs) vs ys

  part_at : (n : ℕ) (before : List Step) (ws us vs : List ℕ) (zs : List Step) → ws ≡ us ++ vs → Turned behaviour l n before ws zs → Parted n before us vs zs
  part_at n before ws [] vs zs same t =
      ([], zs, refl, all_taken, subst (λ b. Turned behaviour l n b vs zs) (sym (append-nil before)) (subst (λ w. Turned behaviour l n before w zs) same t))
  part_at n before ws (u ∷ us) vs (x ∷ zs) same (delivers_again w e t) =
      let s = part_at n (before ++ x ∷ []) ws (u ∷ us) vs zs same t in
      (x ∷ s.0, s.1, ap (λ z. x ∷ z) s.2, delivers_again w e s.3, subst (λ z. Turned behaviour l n z vs s.1) (append_assoc before (x ∷ []) s.0) s.4)
  part_at n before (p ∷ ws) (u ∷ us) vs zs same (skips_turn e t) =
      let who : p ≡ u = head_same p u ws (us ++ vs) same in
      let r = part_at n before ws us vs zs (tail_same p u ws (us ++ vs) same) t in
      (r.0, r.1, r.2, subst (λ k. Turned behaviour l n before (k ∷ us) r.0) who (skips_turn e r.3), r.4)
  part_at n before (p ∷ ws) (u ∷ us) vs ((q, (a, r)) ∷ zs) same (takes_turn b e h t) =
      let x : Step = (q, (a, r)) in
      let who : q ≡ u = head_same q u ws (us ++ vs) same in
      let s = part_at n (before ++ x ∷ []) ws us vs zs (tail_same q u ws (us ++ vs) same) t in (
        x ∷ s.0,
        s.1,
        ap (λ z. x ∷ z) s.2,
        subst (λ k. Turned behaviour l n before (k ∷ us) (x ∷ s.0)) who (takes_turn b e h s.3),
        subst (λ z. Turned behaviour l n z vs s.1) (append_assoc before (x ∷ []) s.0) s.4,
      )
  part_at n before [] (u ∷ us) vs zs same t = absurd (cc)

  pub turned_part : (n : ℕ) (before : List Step) (us vs : List ℕ) (zs : List Step) → Turned behaviour l n before (us ++ vs) zs → Parted n before us vs zs
  turned_part n before us vs zs t = part_at n before (us ++ vs) us vs zs refl t

  -- no more steps than turns and redeliveries
  pub few_steps : (n : ℕ) (before : List Step) (us : List ℕ) (xs : List Step) → Turned behaviour l n before us xs → length xs ≤ length us + redeliveries_in xs
  few_steps n before [] [] all_taken = omega arith
  few_steps n before us (x ∷ xs) (delivers_again w e t) = let h = few_steps n (before ++ x ∷ []) us xs t in omega (arith, h)
  few_steps n before (p ∷ us) xs (skips_turn e t) = let h = few_steps n before us xs t in omega (arith, h)
  few_steps n before (p ∷ us) ((q, (a, r)) ∷ xs) (takes_turn b e h t) = let k = few_steps n (before ++ (q, (a, r)) ∷ []) us xs t in omega (arith, k)
