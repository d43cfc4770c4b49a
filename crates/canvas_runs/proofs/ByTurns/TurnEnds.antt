-- A run by turns ends: it has few steps.
use Rattle.std.proofs.Common.{◌≡◌, ℕ, zero, suc, ◌+◌, ◌-◌, ◌*◌, ◌^◌, ◌≤◌, ◌<◌, List, [], ◌∷◌, ◌++◌, length, refl, sym, ap, ◌∙◌, subst, append_assoc, append-nil, ⊎_elim, arith, suc-mul, suc-add, zero-add, zero-mul, mul-le-mul_right}
use Rattle.std.proofs.lemmas.Nat.{mul-le}
use Rattle.std.proofs.lemmas.Bool.{cases_lt}
use Rattle.std.proofs.lemmas.List.{length-append}
use Rattle.canvas_task.specs.Apply.{Behaviour}
use Rattle.canvas_semantics.specs.Line.{Line, count_line}
use Rattle.canvas_rewrite.specs.Planned.{IsPlan}
use Rattle.canvas_history.specs.Lists.{Each}
use Rattle.canvas_runs.proofs.Lists.Sums.{total-append}
use Rattle.canvas_runs.proofs.Lists.Words.{each_left, each_right}
use Rattle.canvas_runs.specs.Progress.{most_calls as of_a_run}
use Rattle.canvas_runs.specs.Termination.{most_calls, most_steps, IsFair, one_after_another}
use Rattle.canvas_runs.specs.TurnLaws.{ByTurns}
use Rattle.canvas_runs.specs.Turns.{Step, IsWorker, HasEnded, Turned, skips_turn, AllEnded, round, rounds, Begins, RanUntil, redeliveries_in, redelivers_one}
use Rattle.canvas_runs.proofs.ByTurns.TurnLaw.{until_turns}
use Rattle.canvas_runs.proofs.ByTurns.TurnRounds.{fair_round, lists_go, none_further, each_round}
use Rattle.canvas_runs.proofs.ByTurns.TurnSums.{calls_of, calls_in, few_calls, fewer_calls}
use Rattle.canvas_runs.proofs.ByTurns.TurnWalk.{holds_first, holds_turned}
use Rattle.canvas_runs.proofs.ByTurns.Turning.{turned_part, few_steps}

-- ---- lists

-- where two lists begin with the same, the longer one goes on from the shorter one
goes_on : (us zs rest ws : List ℕ) → us ++ rest ≡ zs ++ ws → length zs ≤ length us → (vs : List ℕ) × (us ≡ zs ++ vs)
goes_on us [] rest ws e h = (us, refl)
goes_on [] (z ∷ zs) rest ws e h = absurd (omega (arith, h))
goes_on (u ∷ us) (z ∷ zs) rest ws e h =
    let same : u ≡ z = cc in
    let tails : us ++ rest ≡ zs ++ ws = cc in
    let r = goes_on us zs rest ws tails (omega (arith, h)) in
    (r.0, ap (λ l. u ∷ l) r.1 ∙ ap (λ k. k ∷ zs ++ r.0) same)

pub round_length : (n : ℕ) → length (round n) ≡ n
round_length zero = refl
round_length (suc n) = let r = round_length n in omega (arith, r, length-append (round n) (suc n ∷ []))

pub rounds_length : (n k : ℕ) → length (rounds n k) ≡ k * n
rounds_length n zero = sym (zero-mul n)
rounds_length n (suc k) = let r = rounds_length n k in omega (arith, r, round_length n, length-append (round n) (rounds n k), suc-mul k n)

pub rounds_more : (n k j : ℕ) → rounds n (k + j) ≡ rounds n k ++ rounds n j
rounds_more n zero j = ap (rounds n) (zero-add j)
rounds_more n (suc k) j =
    ap (rounds n) (suc-add k j) ∙ (ap (λ l. round n ++ l) (rounds_more n k j) ∙ sym (append_assoc (round n) (rounds n k) (rounds n j)))

-- one more round at the end
pub rounds_next : (n k : ℕ) → rounds n (suc k) ≡ rounds n k ++ round n
rounds_next n zero = append-nil (round n)
rounds_next n (suc k) = ap (λ l. round n ++ l) (rounds_next n k) ∙ sym (append_assoc (round n) (rounds n k) (round n))

-- rounds as fair lists of turns
abbrev same_rounds : (n k : ℕ) → List (List ℕ)
same_rounds n zero = []
same_rounds n (suc k) = round n ∷ same_rounds n k

rounds_are : (n k : ℕ) → rounds n k ≡ one_after_another (same_rounds n k)
rounds_are n zero = refl
rounds_are n (suc k) = ap (λ g. round n ++ g) (rounds_are n k)

same_length : (n k : ℕ) → length (same_rounds n k) ≡ k
same_length n zero = refl
same_length n (suc k) = let r = same_length n k in omega (arith, r)

same_fair : (n k : ℕ) → Each (IsFair n) (same_rounds n k)
same_fair n zero = tt
same_fair n (suc k) = (fair_round n, same_fair n k)

module _ (behaviour : Behaviour) (l : Line) (n : ℕ) (us : List ℕ) (xs : List Step) (t : ByTurns behaviour l n us xs) (some : 1 ≤ n) where
  abbrev busy : ℕ
  busy = suc (most_calls l (redeliveries_in xs))

  -- the turns of the list, and rotation by which all have ended
  abbrev whole : List ℕ → List ℕ
  whole ts = ts ++ rounds n (2 * busy)

  whole_length : (ts : List ℕ) → length (whole ts) + redeliveries_in xs ≡ most_steps l n (length ts) (redeliveries_in xs)
  whole_length ts = let a = length-append ts (rounds n (2 * busy)) in let b = rounds_length n (2 * busy) in omega (arith, a, b)

  -- by then all have ended
  all_done : (ts vs : List ℕ) → us ≡ whole ts ++ vs → length xs ≤ length (whole ts) + redeliveries_in xs
  all_done ts vs e =
      let workers : Each (IsWorker n) (whole ts ++ vs) = subst (Each (IsWorker n)) e t.workers in
      let firsts : Each (IsWorker n) (whole ts) = each_left (IsWorker n) (whole ts) vs workers in
      let cut = turned_part behaviour l n [] (whole ts) vs xs (subst (λ z. Turned behaviour l n [] z xs) e t.turned) in
      let parts = turned_part behaviour l n [] ts (rounds n (2 * busy)) cut.0 cut.3 in
      let before = holds_turned behaviour l t.plan t.opens_back n [] ts parts.0 (each_left (IsWorker n) ts (rounds n (2 * busy)) firsts)
      (holds_first behaviour l t.plan t.opens_back n) parts.3 in
      let rotation : Turned behaviour l n parts.0 (one_after_another (same_rounds n (2 * busy))) parts.1 =
      subst (λ z. Turned behaviour l n parts.0 z parts.1) (rounds_are n (2 * busy)) parts.4 in
      let enough = same_length n (2 * busy) in
      let sums : calls_in behaviour l xs ≡ calls_in behaviour l cut.0 + calls_in behaviour l cut.1 =
      ap (calls_in behaviour l) cut.2 ∙ total-append (λ x. calls_of behaviour l x.1) cut.0 cut.1 in
      let parted : calls_in behaviour l cut.0 ≡ calls_in behaviour l parts.0 + calls_in behaviour l parts.1 =
      ap (calls_in behaviour l) parts.2 ∙ total-append (λ x. calls_of behaviour l x.1) parts.0 parts.1 in
      let lengths : length xs ≡ length cut.0 + length cut.1 = ap length cut.2 ∙ length-append cut.0 cut.1 in
      let fewer = few_steps behaviour l n [] (whole ts) cut.0 cut.3 in
      let copies : redeliveries_in xs ≡ redeliveries_in cut.0 + redeliveries_in cut.1 =
      ap redeliveries_in cut.2 ∙ total-append (λ (x : Step). redelivers_one x.1.0) cut.0 cut.1 in
      let sound = holds_turned behaviour l t.plan t.opens_back n [] (whole ts) cut.0 firsts (holds_first behaviour l t.plan t.opens_back n) cut.3 in
      ⊎_elim
      (λ done.
      let stop = none_further behaviour l t.plan t.opens_back n cut.0 vs cut.1 sound (subst (AllEnded behaviour l n) (sym parts.2) done)
      (each_right (IsWorker n) (whole ts) vs workers) cut.4 in
      let none : length cut.1 ≡ 0 = ap length stop in
      omega (arith, lengths, none, fewer, copies))
      (λ many. absurd (let few = few_calls behaviour l n us xs t in omega (arith, many, few, sums, parted)))
      (lists_go behaviour l t.plan t.opens_back n busy (same_rounds n (2 * busy)) (same_fair n (2 * busy)) (omega (arith, enough)) parts.0 parts.1 before
      rotation)

  -- turns that are more than these begin with them
  more_turns : (ts rest : List ℕ) (k : ℕ) → us ++ rest ≡ ts ++ rounds n k → length (whole ts) ≤ length us → (vs : List ℕ) × (us ≡ whole ts ++ vs)
  more_turns ts rest k e h = ⊎_elim (λ less. absurd (too_few less)) (λ more. further more) (cases_lt k (2 * busy))
    where
      too_few : k < 2 * busy → ⊥
      too_few less =
          let a : length us + length rest ≡ length ts + k * n =
          sym (length-append us rest) ∙ (ap length e ∙ (length-append ts (rounds n k) ∙ ap (λ m. length ts + m) (rounds_length n k))) in
          let b : length (whole ts) ≡ length ts + 2 * busy * n =
          length-append ts (rounds n (2 * busy)) ∙ ap (λ m. length ts + m) (rounds_length n (2 * busy)) in
          let c : suc k * n ≤ 2 * busy * n = mul-le-mul_right n less in
          omega (arith, a, b, c, suc-mul k n, h, some)

      further : 2 * busy ≤ k → (vs : List ℕ) × (us ≡ whole ts ++ vs)
      further more =
          let count : k ≡ 2 * busy + (k - 2 * busy) = omega (arith, more) in
          goes_on us (whole ts) rest (rounds n (k - 2 * busy))
          (e ∙ (ap (λ j. ts ++ rounds n j) count
          ∙ (ap (λ g. ts ++ g) (rounds_more n (2 * busy) (k - 2 * busy)) ∙ sym (append_assoc ts (rounds n (2 * busy)) (rounds n (k - 2 * busy)))))) h

  pub few : (ts : List ℕ) → Begins us ts n → length xs ≤ most_steps l n (length ts) (redeliveries_in xs)
  few ts (k, rest, e) =
      let same = whole_length ts in
      ⊎_elim (λ short. let a = few_steps behaviour l n [] us xs t.turned in omega (arith, a, short, same))
      (λ long. let m = more_turns ts rest k e long in let a = all_done ts m.0 m.1 in omega (arith, a, same)) (cases_lt (length us) (length (whole ts)))

module _ (behaviour : Behaviour) where
  pub stops_soon : (l : Line) → IsPlan l → (n : ℕ) (ts : List ℕ) (most : ℕ) → 1 ≤ n → Each (IsWorker n) ts → RanUntil behaviour l n ts most
      → most ≤ most_steps l n (length ts) 0
  stops_soon l plan n ts most some w r = let a = few behaviour l n r.turns r.steps (until_turns behaviour l plan n ts most w r) some ts r.begin in
      let b : most_steps l n (length ts) (redeliveries_in r.steps) ≡ most_steps l n (length ts) 0 = ap (most_steps l n (length ts)) r.plain in
      omega (arith, a, b, r.many)

pub steps_fit : (l : Line) (n k again : ℕ) → count_line l < 2 ^ 32 → n ≤ 16 → k < 2 ^ 64 → again < 2 ^ 64 → most_steps l n k again < 2 ^ 127
steps_fit l n k again tasks workers listed some =
    let a = mul-le (count_line l + 5) (suc (count_line l)) 4294967300 4294967296 (omega (arith, tasks)) (omega (arith, tasks)) in
    let b = mul-le (2 * suc (most_calls l again)) n (2 * (4294967300 * 4294967296 + 4 * 18446744073709551616 + 1)) 16 (omega (arith, a, some)) workers in
    omega (arith, b, listed, some)

module _ (behaviour : Behaviour) where
  -- a round without a step
  none_taken : (l : Line) (n : ℕ) (before : List Step) (us : List ℕ) → Turned behaviour l n before us [] → Each (HasEnded behaviour l before) us
  none_taken l n before [] t = tt
  none_taken l n before (p ∷ us) (skips_turn e t) = (e, none_taken l n before us t)

  pub rounds_go : (l : Line) (n : ℕ) (before : List Step) → Turned behaviour l n before (round n) [] → AllEnded behaviour l n before
  rounds_go l n before t p w = each_round n (HasEnded behaviour l before) (none_taken l n before (round n) t) p w

-- ---- fair turns

module _ (behaviour : Behaviour) where
  pub fair_end : (l : Line) (n : ℕ) (uss : List (List ℕ)) (xs : List Step) → Each (IsFair n) uss
      → ByTurns behaviour l n (one_after_another uss) xs → 2 * suc (of_a_run l (redeliveries_in xs)) ≤ length uss → AllEnded behaviour l n xs
  fair_end l n uss xs fair t many =
      ⊎_elim (λ done. done)
      (λ k. absurd (let few = fewer_calls behaviour l n (one_after_another uss) xs t in omega (arith, k, few)))
      (lists_go behaviour l t.plan t.opens_back n (suc (of_a_run l (redeliveries_in xs))) uss fair many [] xs
      (holds_first behaviour l t.plan t.opens_back n) t.turned)

-- ---- turns of the list so far, and turns in rotation so far

pub begins_list : (n : ℕ) (us rest ts : List ℕ) → us ++ rest ≡ ts → Begins us ts n
begins_list n us rest ts e = (0, rest, e ∙ sym (append-nil ts))

-- a round has begun with its first turns
round_begins : (n i : ℕ) → i ≤ n → (rest : List ℕ) × (round i ++ rest ≡ round n)
round_begins n i h = ⊎_elim (λ less. further n less) (λ more. let same : i ≡ n = omega (arith, h, more) in whole_round i n same) (cases_lt i n)
  where
    whole_round : (j m : ℕ) → j ≡ m → (rest : List ℕ) × (round j ++ rest ≡ round m)
    whole_round j m same = ([], append-nil (round j) ∙ ap round same)

    onward : (m : ℕ) → (rest : List ℕ) × (round i ++ rest ≡ round m) → (rest : List ℕ) × (round i ++ rest ≡ round (suc m))
    onward m r = (r.0 ++ suc m ∷ [], sym (append_assoc (round i) r.0 (suc m ∷ [])) ∙ ap (λ l. l ++ suc m ∷ []) r.1)

    further : (m : ℕ) → i < m → (rest : List ℕ) × (round i ++ rest ≡ round m)
    further zero less = absurd (omega (arith, less))
    further (suc m) less = onward m (⊎_elim (λ l. further m l) (λ more. let same : i ≡ m = omega (arith, less, more) in whole_round i m same) (cases_lt i m))

pub begins_rotation : (n k i : ℕ) (ts : List ℕ) → i ≤ n → Begins ((ts ++ rounds n k) ++ round i) ts n
begins_rotation n k i ts h =
    let r = round_begins n i h in (
      suc k,
      r.0,
      append_assoc (ts ++ rounds n k) (round i) r.0
          ∙ (ap (λ l. (ts ++ rounds n k) ++ l) r.1 ∙ (append_assoc ts (rounds n k) (round n) ∙ ap (λ l. ts ++ l) (sym (rounds_next n k)))),
    )
