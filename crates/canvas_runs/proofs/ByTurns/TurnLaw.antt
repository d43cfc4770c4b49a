-- The laws of runs by turns.
use Rattle.std.proofs.Common.{◌≡◌, ◌≢◌, ◌⊎◌, ℕ, zero, suc, ◌≤◌, true, cond, List, [], ◌∷◌, length, map, Option, Some, None, refl, sym, ap, ap₂, ◌∙◌, subst, inl, inr, ⊎_elim, ne_eqb, arith}
use Rattle.std.proofs.lemmas.Bool.{cases_eq, cases_Bool, false≢true, le-leb, leb-true}
use Rattle.std.specs.Prelude.{leb}
use Rattle.canvas_task.specs.Apply.{AnswersInRange, IsInRange, Behaviour}
use Rattle.canvas_task.specs.declared.outcome.Outcome.{Outcome}
use Rattle.canvas_semantics.specs.Evaluation as eval
use Rattle.canvas_semantics.specs.Line.{Line, count_line, tree_of}
use Rattle.canvas_semantics.specs.States.{states, numbers_from}
use Rattle.canvas_semantics.proofs.Numbered.{count_elements}
use Rattle.canvas_rewrite.specs.Planned.{IsPlan}
use Rattle.canvas_history.specs.Lists.{In, Each, by}
use Rattle.canvas_effects.specs.Job.{store, publish, part}
use Rattle.canvas_history.proofs.TableLaws.{member_test}
use Rattle.canvas_history.proofs.Rosters.{roster_sound}
use Rattle.canvas_history.specs.Roster.{roster_of, members}
use Rattle.canvas_runs.specs.Calls.{scripts_of}
use Rattle.canvas_runs.specs.Core.{taking, resting, over, failed, owning, doing, reading, acking, ask, left_after, Between, Doing}
use Rattle.canvas_runs.specs.Law.{its_state}
use Rattle.canvas_semantics.specs.States.{EachMay}
use Rattle.canvas_runs.specs.Run.{Run, Closed}
use Rattle.canvas_runs.specs.Worker.{worker}
use Rattle.canvas_runs.proofs.Laws.Facts.{X, form, Does, order, value}
use Rattle.canvas_runs.proofs.Runs.Finish.{at_in}
use Rattle.canvas_runs.proofs.Laws.FirstLaw.{first_part, has_state}
use Rattle.canvas_runs.proofs.Plans.Knowing.{found as among_members}
use Rattle.canvas_runs.proofs.Runs.Right.{right_closed}
use Rattle.canvas_runs.proofs.Laws.SecondLaw.{second_part}
use Rattle.canvas_runs.proofs.Lists.Words.{in_each, each_append, each_left}
use Rattle.canvas_runs.specs.TurnLaws.{ByTurns, RunOf, Answerable, held_rows}
use Rattle.canvas_runs.specs.Turns.{Step, results_after, IsWorker, queue_after, left, HasEnded, AllEnded, RanWhole, RanUntil, round, rounds}
use Rattle.canvas_runs.proofs.ByTurns.RowRanges.{state_range}
use Rattle.canvas_runs.proofs.ByTurns.TurnRuns.{run, closed, table_log}
use Rattle.canvas_runs.proofs.ByTurns.TurnStates.{Good, good_left, Ready, part_may, was_in}
use Rattle.canvas_runs.proofs.ByTurns.TurnWalk.{Holds, ended_over, holds_first, holds_turned}
use Rattle.canvas_runs.proofs.Ends.TaskSums.{state_task}

-- ---- the numbers 1 to n, again and again, are workers'

pub round_workers : (n : ℕ) → Each (IsWorker n) (round n)
round_workers n = go n n (omega arith)
  where
    go : (k m : ℕ) → k ≤ m → Each (IsWorker m) (round k)
    go zero m le = tt
    go (suc k) m le = each_append (IsWorker m) (round k) (suc k ∷ []) (go k m (omega (arith, le))) ((omega arith, le), tt)

pub rounds_workers : (n k : ℕ) → Each (IsWorker n) (rounds n k)
rounds_workers n zero = tt
rounds_workers n (suc k) = each_append (IsWorker n) (round n) (rounds n k) (round_workers n) (rounds_workers n k)

-- a key that no entry has
by_none : {A : Type 0} (P : ℕ → Type 0) (p : ℕ) (xs : List (ℕ × A)) → Each (λ x. P x.0) xs → (P p → ⊥) → by p xs ≡ []
by_none P p [] a f = refl
by_none P p (x ∷ xs) a f =
    ap (λ b. cond b (x.1 ∷ by p xs) (by p xs)) (ne_eqb x.0 p (λ e. f (subst P e a.0))) ∙ by_none P p xs a.1 f

not_none : {A : Type 0} (x : Option A) (o : A) → x ≡ Some o → x ≢ None
not_none x o e f = let bad : ◌≡◌ {A = Option _} (Some o) None = sym e ∙ f in cc

module _ (behaviour : Behaviour) (l : Line) (n : ℕ) (us : List ℕ) (xs : List Step) (t : ByTurns behaviour l n us xs) where
  pub holds : Holds behaviour l t.plan t.opens_back n xs
  holds = holds_turned behaviour l t.plan t.opens_back n [] us xs t.workers (holds_first behaviour l t.plan t.opens_back n) t.turned

  abbrev pub the_run : Run behaviour l
  the_run = run behaviour l t.opens_back n xs holds.lawful

  pub is_over : (p : ℕ) → IsWorker n p → HasEnded behaviour l xs p → left behaviour l xs p ≡ over
  is_over p w e = ended_over behaviour l t.plan t.opens_back n xs p (left behaviour l xs p) (holds.ready p w) e

  pub is_empty : 1 ≤ n → AllEnded behaviour l n xs → queue_after l xs ≡ []
  is_empty some all = let w : IsWorker n 1 = (omega arith, some) in (holds.idle 1 w (is_over 1 w (all 1 w))).empty

  pub all_between : AllEnded behaviour l n xs → (p : ℕ) → Between (left behaviour l xs p)
  all_between all p = elim (is_one (cases_eq p 0)) [
    | inl w ↦ subst (λ s. Between s) (sym (is_over p w (all p w))) tt
    | inr off ↦ subst (λ ys. Between (left_after (worker behaviour l) taking (scripts_of ys))) (sym (by_none (IsWorker n) p xs holds.workers off)) tt
  ]
    where
      is_one : (p ≡ 0) ⊎ (p ≢ 0) → IsWorker n p ⊎ (IsWorker n p → ⊥)
      is_one (inl e) = inr (λ w. omega (arith, w.0, e))
      is_one (inr f) = elim (cases_Bool (leb p n)) [
        | inl e ↦ inl (omega (arith, f), leb-true p n e)
        | inr e ↦ inr (λ w. let yes : leb p n ≡ true = le-leb p n w.1 in false≢true (sym e ∙ yes))
      ]

  pub the_closed : 1 ≤ n → AllEnded behaviour l n xs → Closed behaviour l the_run
  the_closed some all = closed behaviour l t.opens_back n xs holds.lawful (is_empty some all) (all_between all)

  pub run_of : RunOf behaviour l n xs
  run_of = record {
    run = the_run;
    core = λ p. refl;
    opening = refl;
    closing = refl;
    queue = holds.lawful.queue_is;
    table = holds.lawful.table_is;
    closed = the_closed;
  }

  pub rows_may : (k : ℕ) → ((results_after xs).outcomes k ≡ None) ⊎ ((results_after xs).outcomes k ≡ its_state behaviour l k)
  rows_may k = subst (λ s. (s.outcomes k ≡ None) ⊎ (s.outcomes k ≡ its_state behaviour l k)) holds.lawful.table_is
      ((first_part behaviour l t.plan the_run).rows k)

  pub rows_are : 1 ≤ n → AllEnded behaviour l n xs → (k : ℕ) → (results_after xs).outcomes k ≡ its_state behaviour l k
  rows_are some all k = subst (λ s. s.outcomes k ≡ its_state behaviour l k) holds.lawful.table_is
      ((second_part behaviour l t.plan the_run (the_closed some all)).rows k)

  -- ---- outcomes

  pub held_right : (k : ℕ) (o : Outcome) → (results_after xs).outcomes k ≡ Some o → its_state behaviour l k ≡ Some o
  held_right k o e = ⊎_elim (λ none. absurd (not_none ((results_after xs).outcomes k) o e none)) (λ same. sym same ∙ e) (rows_may k)

  pub held_range : AnswersInRange behaviour → (k : ℕ) (o : Outcome) → (results_after xs).outcomes k ≡ Some o → (k ≤ (roster_of l).tasks) × IsInRange o
  held_range ranged k o e = let s = held_right k o e in ((state_task behaviour l t.plan k o s).1, state_range behaviour l t.plan ranged k o s)

  -- ---- the next ask

  member_known : (g k : ℕ) → In k (members (roster_of l) g) → k ≤ (roster_of l).tasks
  member_known g k i =
      let some = (member_test k (members (roster_of l) g)).0 (among_members k (members (roster_of l) g) i) in
      (roster_sound l t.plan).known g k (omega (arith, some))

  answerable : AnswersInRange behaviour → (p : ℕ) (s : Doing (worker behaviour l)) → Good behaviour l t.plan s → Ready behaviour l t.plan n xs p s
      → Answerable (roster_of l) xs (ask (worker behaviour l) s)
  answerable ranged p taking good k = tt
  answerable ranged p resting good k = tt
  answerable ranged p over good k = tt
  answerable ranged p failed good k = tt
  answerable ranged p (owning m) good k =
      let has = (right_closed (X behaviour l t.plan) (form behaviour l t.plan) (Does behaviour l t.plan) (order behaviour l t.plan)
      (value behaviour l t.plan)).own m good in
      let s = has_state behaviour l t.plan ((worker behaviour l).no m) ((worker behaviour l).outcome m) has in (
        (state_task behaviour l t.plan ((worker behaviour l).no m) ((worker behaviour l).outcome m) s).1,
        state_range behaviour l t.plan ranged ((worker behaviour l).no m) ((worker behaviour l).outcome m) s,
      )
  answerable ranged p (doing [] b) good k = tt
  answerable ranged p (doing (store u o ∷ js) b) good k =
      let s = has_state behaviour l t.plan u o (good.0.0, good.0.2) in
      ((state_task behaviour l t.plan u o s).1, state_range behaviour l t.plan ranged u o s)
  answerable ranged p (doing (publish m ∷ js) b) good k = tt
  answerable ranged p (doing (part g u c ∷ js) b) good k =
      let may = part_may behaviour l t.plan n xs p (doing (part g u c ∷ js) b) holds.lawful.table_is good k in
      let first = may.2 in
      let held = was_in behaviour l t.plan (table_log behaviour l n xs) u first.outcome
      (record { before = first.before; rest = first.rest; caller = first.caller; is = first.is }) in (
        may.0,
        may.1,
        not_none ((results_after xs).outcomes u) held.0 (ap (λ s. s.outcomes u) (sym holds.lawful.table_is) ∙ held.1),
        ap (λ s. s.returned u) (sym holds.lawful.table_is) ∙ may.3,
      )
  answerable ranged p acking good k = tt
  answerable ranged p (reading g c u fs) good k =
      let member = at_in (length fs) (members (roster_of l) g) u good.1 in
      let held = in_each (λ v. (o : Outcome) × ((results_after xs).outcomes v ≡ Some o)) (members (roster_of l) g) k.0 u member in
      (member_known g u member, (held.0, held.1, (held_range ranged u held.0 held.1).1))

  pub next_answerable : AnswersInRange behaviour → (p : ℕ) → IsWorker n p → Answerable (roster_of l) xs (ask (worker behaviour l) (left behaviour l xs p))
  next_answerable ranged p w = answerable ranged p (left behaviour l xs p) (good_left behaviour l t.plan t.opens_back n xs holds.lawful p) (holds.ready p w)

-- ---- rows, task by task

module _ (f g : ℕ → eval.State) where
  map_same : ((k : ℕ) → f k ≡ g k) → (ks : List ℕ) → map f ks ≡ map g ks
  map_same same [] = refl
  map_same same (k ∷ ks) = ap₂ (λ (a : eval.State) (b : List eval.State). a ∷ b) (same k) (map_same same ks)

  map_may : ((k : ℕ) → (f k ≡ None) ⊎ (f k ≡ g k)) → (ks : List ℕ) → EachMay (map f ks) (map g ks)
  map_may same [] = tt
  map_may same (k ∷ ks) = (same k, map_may same ks)

module _ (behaviour : Behaviour) (l : Line) (n : ℕ) (us : List ℕ) (xs : List Step) (t : ByTurns behaviour l n us xs) where
  its_rows : map (its_state behaviour l) (numbers_from 1 (count_line l)) ≡ states behaviour (tree_of l)
  its_rows = ap (λ k. map (its_state behaviour l) (numbers_from 1 k)) (sym (count_elements l))

  pub states_are : 1 ≤ n → AllEnded behaviour l n xs → held_rows l xs ≡ states behaviour (tree_of l)
  states_are some all = map_same (results_after xs).outcomes (its_state behaviour l) (rows_are behaviour l n us xs t some all) (numbers_from 1 (count_line l))
      ∙ its_rows

  pub states_may : EachMay (held_rows l xs) (states behaviour (tree_of l))
  states_may = subst (EachMay (held_rows l xs)) its_rows
      (map_may (results_after xs).outcomes (its_state behaviour l) (rows_may behaviour l n us xs t) (numbers_from 1 (count_line l)))

-- ---- lists of turns with the rotation after them

module _ (behaviour : Behaviour) where
  pub whole_turns : (l : Line) → IsPlan l → (n : ℕ) (ts : List ℕ) → Each (IsWorker n) ts → (r : RanWhole behaviour l n ts)
      → ByTurns behaviour l n r.turns r.steps
  whole_turns l plan n ts w r = record {
    plan = plan;
    opens_back = r.opens_back;
    workers = subst (Each (IsWorker n)) (sym r.follow) (each_append (IsWorker n) ts (rounds n r.further) w (rounds_workers n r.further));
    turned = r.turned;
  }

  pub until_turns : (l : Line) → IsPlan l → (n : ℕ) (ts : List ℕ) (most : ℕ) → Each (IsWorker n) ts → (r : RanUntil behaviour l n ts most)
      → ByTurns behaviour l n r.turns r.steps
  until_turns l plan n ts most w r = record {
    plan = plan;
    opens_back = r.opens_back;
    workers = each_left (IsWorker n) r.turns r.begin.1
        (subst (Each (IsWorker n)) (sym r.begin.2) (each_append (IsWorker n) ts (rounds n r.begin.0) w (rounds_workers n r.begin.0)));
    turned = r.turned;
  }
