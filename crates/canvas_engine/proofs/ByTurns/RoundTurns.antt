-- Turns of a list and of rounds, one after the other.
use Rattle.std.proofs.Common.{◌≡◌, ◌≤◌, ◌<◌, ◌+◌, ◌⊎◌, inl, inr, ℕ, suc, Bool, true, false, ◌∷◌, [], List, ◌++◌, take, length, length-append, get_or, sym, ap, ◌∙◌, subst, append_assoc, arith}
use Rattle.std.specs.Prelude.{◌||◌}
use Rattle.std.proofs.Math.Nat.{eq-or-lt_of_le}
use Rattle.std.proofs.Math.Seq.{take-suc}
use Rattle.std.proofs.lemmas.List.{take_all}
use Rattle.canvas_task.specs.Apply.{Behaviour}
use Rattle.canvas_semantics.specs.Line.{Line}
use Rattle.canvas_runs.proofs.Lists.Sums.{total-append}
use Rattle.canvas_runs.specs.Turns.{Step, IsWorker, HasEnded, round, rounds, redelivers_one, redeliveries_in}
use Rattle.canvas_runs.proofs.ByTurns.TurnEnds.{begins_list, begins_rotation, rounds_next}
use Rattle.canvas_core.specs.declared.cause.Cause.{Cause}
use Rattle.canvas_core.specs.declared.cause.Cause.TheVariants.{Memory, Stopped}
use Rattle.canvas_engine.specs.steps.TurnRuns.{Given, Reached, HasReached, IsTurn, IsHalt, IsPartOfRound, IsHaltInRound, IsEarlyEnd, IsRunThrough}
use Rattle.canvas_engine.specs.declared.by_turns.turn_run.TurnRun.{TurnRun}

module _ (behaviour : Behaviour) (l : Line) (n most : ℕ) (es : Given) (us : List ℕ) (xs : List Step) where
  -- one more turn of the round, which answered an ask or not
  abbrev OneTurn : Bool → ℕ → TurnRun → TurnRun → Type 0
  OneTurn b p s s' = (n most : ℕ) (es : Given) (us : List ℕ) (xs : List Step) → Reached behaviour l n most es us xs s
      → IsTurn behaviour b l n most es us xs p s'

  turns_so : (i p : ℕ) → p ≡ suc i → (us ++ round i) ++ p ∷ [] ≡ us ++ round (suc i)
  turns_so i p e = append_assoc us (round i) (p ∷ []) ∙ ap (λ q. us ++ (round i ++ q ∷ [])) e

  ended_too : (i p : ℕ) → p ≡ suc i → ((q : ℕ) → IsWorker i q → HasEnded behaviour l xs q) → HasEnded behaviour l xs p → (q : ℕ) → IsWorker (suc i) q
      → HasEnded behaviour l xs q
  ended_too i p e before here q w = go (eq-or-lt_of_le w.1)
    where
      go : (q ≡ suc i) ⊎ (q < suc i) → HasEnded behaviour l xs q
      go (inl same) = subst (HasEnded behaviour l xs) (e ∙ sym same) here
      go (inr less) = before q (w.0, omega (arith, less))

  pub part_of_round : (b : Bool) (i p j steps : ℕ) (s s' : TurnRun) → p ≡ suc i → j ≡ suc i → length xs + steps ≡ most + redeliveries_in xs
      → IsPartOfRound behaviour b l n most es us xs i steps s → OneTurn false p s s'
      → IsPartOfRound behaviour b l n most es us xs j steps s'
  part_of_round true i p j steps s s' e f start part turn =
      let got = turn n most es (us ++ round i) part.0.0 part.0.1 in (
        (part.0.0, subst (λ vs. Reached behaviour l n most es vs part.0.0 s') (turns_so i p e ∙ ap (λ k. us ++ round k) (sym f)) got.1),
        omega (arith, part.1, part.0.1.count, got.1.count),
      )
  part_of_round false i p j steps s s' e f start part turn =
      let got = turn n most es (us ++ round i) xs part.0 in (
        subst (λ vs. Reached behaviour l n most es vs xs s') (turns_so i p e ∙ ap (λ k. us ++ round k) (sym f)) got.1,
        λ q w. ended_too i p e part.1 got.0 q (subst (λ k. IsWorker k q) f w),
      )

  fewer : (ys zs : List Step) (s s' : TurnRun) (vs ws : List ℕ) → Reached behaviour l n most es vs ys s → Reached behaviour l n most es ws (ys ++ zs) s'
      → length zs ≡ suc (redeliveries_in zs) → s'.steps < s.steps
  fewer ys zs s s' vs ws r t one =
      let long = length-append ys zs in
      let copies = total-append (λ (y : Step). redelivers_one y.1.0) ys zs in
      omega (arith, long, copies, r.count, t.count, one)

  pub step_of_round : (b : Bool) (i p j steps : ℕ) (s s' : TurnRun) → p ≡ suc i → j ≡ suc i → length xs + steps ≡ most + redeliveries_in xs
      → IsPartOfRound behaviour b l n most es us xs i steps s → OneTurn true p s s'
      → IsPartOfRound behaviour true l n most es us xs j steps s'
  step_of_round true i p j steps s s' e f start part turn =
      let got = turn n most es (us ++ round i) part.0.0 part.0.1 in
      let ys = part.0.0 ++ got.0 in (
        (ys, subst (λ vs. Reached behaviour l n most es vs ys s') (turns_so i p e ∙ ap (λ k. us ++ round k) (sym f)) got.1),
        omega (arith, part.1, fewer part.0.0 got.0 s s' _ _ part.0.1 got.1 got.2),
      )
  step_of_round false i p j steps s s' e f start part turn =
      let got = turn n most es (us ++ round i) xs part.0 in
      let ys = xs ++ got.0 in (
        (ys, subst (λ vs. Reached behaviour l n most es vs ys s') (turns_so i p e ∙ ap (λ k. us ++ round k) (sym f)) got.1),
        omega (arith, start, part.0.count, fewer xs got.0 s s' _ _ part.0 got.1 got.2),
      )

  -- what there is to go on from
  pub part_reached : (b : Bool) (i steps : ℕ) (s : TurnRun) → IsPartOfRound behaviour b l n most es us xs i steps s
      → HasReached behaviour l n most es (us ++ round i) s
  part_reached true i steps s part = part.0
  part_reached false i steps s part = (xs, part.0)

  pub halt_in_round : (cause : Cause) (i : ℕ) (s : TurnRun) → i ≤ n → IsHalt behaviour cause l n most es (us ++ round i) s
      → IsHaltInRound behaviour cause l n most es us s
  halt_in_round Memory i s h halt = halt
  halt_in_round Stopped i s h halt = (i, h, halt)

-- ---- a list of turns

module _ (behaviour : Behaviour) (l : Line) (n most : ℕ) (es : Given) (ts : List ℕ) where
  pub halt_in_list : (cause : Cause) (us rest : List ℕ) (s : TurnRun) → us ++ rest ≡ ts → IsHalt behaviour cause l n most es us s
      → IsEarlyEnd behaviour cause l n most es ts s
  halt_in_list Memory us rest s e halt = (halt.plan_is, inr halt)
  halt_in_list Stopped us rest s e halt = (us, begins_list n us rest ts e, halt)

  pub halt_in_rounds : (cause : Cause) (k : ℕ) (s : TurnRun) → IsHaltInRound behaviour cause l n most es (ts ++ rounds n k) s
      → IsEarlyEnd behaviour cause l n most es ts s
  halt_in_rounds Memory k s halt = (halt.plan_is, inr halt)
  halt_in_rounds Stopped k s halt = ((ts ++ rounds n k) ++ round halt.0, begins_rotation n k halt.0 ts halt.1, halt.2)

  pub another_round : (k : ℕ) (s : TurnRun) → HasReached behaviour l n most es ((ts ++ rounds n k) ++ round n) s
      → HasReached behaviour l n most es (ts ++ rounds n (suc k)) s
  another_round k s r = (
    r.0,
    subst (λ vs. Reached behaviour l n most es vs r.0 s) (append_assoc ts (rounds n k) (round n) ∙ ap (λ vs. ts ++ vs) (sym (rounds_next n k))) r.1,
  )

  pub last_round : (k : ℕ) (xs : List Step) (s : TurnRun) → Reached behaviour l n most es ((ts ++ rounds n k) ++ round n) xs s
      → ((p : ℕ) → IsWorker n p → HasEnded behaviour l xs p) → IsRunThrough behaviour l n most es ts s
  last_round k xs s r ended = record {
    further = suc k;
    steps = xs;
    reached = subst (λ vs. Reached behaviour l n most es vs xs s) (append_assoc ts (rounds n k) (round n) ∙ ap (λ vs. ts ++ vs) (sym (rounds_next n k))) r;
    ended = ended;
  }

-- a turn of the round
pub one_more_turn : (behaviour : Behaviour) → (l : Line) (n most : ℕ) (es : Given) (us : List ℕ) (xs : List Step) (b t : Bool) (i steps : ℕ) (s s' : TurnRun)
    → length xs + steps ≡ most + redeliveries_in xs → IsPartOfRound behaviour b l n most es us xs i steps s
    → ((n most : ℕ) (es : Given) (us : List ℕ) (xs : List Step) → Reached behaviour l n most es us xs s → IsTurn behaviour t l n most es us xs (i + 1) s')
    → IsPartOfRound behaviour (b || t) l n most es us xs (i + 1) steps s'
one_more_turn behaviour l n most es us xs true true i steps s s' start part turn =
    step_of_round behaviour l n most es us xs true i (i + 1) (i + 1) steps s s' (omega arith) (omega arith) start part turn
one_more_turn behaviour l n most es us xs true false i steps s s' start part turn =
    part_of_round behaviour l n most es us xs true i (i + 1) (i + 1) steps s s' (omega arith) (omega arith) start part turn
one_more_turn behaviour l n most es us xs false true i steps s s' start part turn =
    step_of_round behaviour l n most es us xs false i (i + 1) (i + 1) steps s s' (omega arith) (omega arith) start part turn
one_more_turn behaviour l n most es us xs false false i steps s s' start part turn =
    part_of_round behaviour l n most es us xs false i (i + 1) (i + 1) steps s s' (omega arith) (omega arith) start part turn

-- ---- what there is after a turn, whether it answered an ask or not

pub turn_reached : (behaviour : Behaviour) → (b : Bool) (l : Line) (n most : ℕ) (es : Given) (us : List ℕ) (xs : List Step) (p : ℕ) (s : TurnRun)
    → IsTurn behaviour b l n most es us xs p s → HasReached behaviour l n most es (us ++ p ∷ []) s
turn_reached behaviour true l n most es us xs p s h = (xs ++ h.0, h.1)
turn_reached behaviour false l n most es us xs p s h = (xs, h.1)

pub list_more : (behaviour : Behaviour) → (b : Bool) (l : Line) (n most : ℕ) (es : Given) (ts : List ℕ) (i : ℕ) (s s' : TurnRun) → i < length ts
    → HasReached behaviour l n most es (take i ts) s
    → ((n most : ℕ) (es : Given) (us : List ℕ) (xs : List Step) → Reached behaviour l n most es us xs s
    → IsTurn behaviour b l n most es us xs (get_or ts i 0) s') → HasReached behaviour l n most es (take (i + 1) ts) s'
list_more behaviour b l n most es ts i s s' h r turn =
    let next = turn_reached behaviour b l n most es (take i ts) r.0 (get_or ts i 0) s' (turn n most es (take i ts) r.0 r.1) in
    let up : suc i ≡ i + 1 = omega arith in
    subst (λ us. HasReached behaviour l n most es us s') (sym (take-suc ts i 0 h) ∙ ap (λ j. take j ts) up) next

pub all_taken : (behaviour : Behaviour) → (l : Line) (n most : ℕ) (es : Given) (ts : List ℕ) (i : ℕ) (s : TurnRun) → length ts ≤ i
    → HasReached behaviour l n most es (take i ts) s → HasReached behaviour l n most es ts s
all_taken behaviour l n most es ts i s h r = subst (λ us. HasReached behaviour l n most es us s) (take_all i ts h) r
