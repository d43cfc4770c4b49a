-- A run from its first publish to its end, and the rows that it leaves.
use Rattle.std.proofs.Common.{◌≡◌, ◌≤◌, ◌⊎◌, inl, inr, ℕ, zero, suc, All, List, [], ◌∷◌, ◌++◌, map, length, get_or, Some, None, Result, Ok, Err, OnOk, IfErr, refl, sym, ap, ◌∙◌, subst, append-nil, arith}
use Rattle.std.specs.Prelude.{slice_get}
use Rattle.std.proofs.lemmas.Bool.{false≢true}
use Rattle.std.proofs.lemmas.Option.{slice_get_within}
use Rattle.canvas_task.specs.Apply.{Behaviour}
use Rattle.canvas_semantics.specs.Evaluation.{State}
use Rattle.canvas_semantics.specs.Line.{Line, count_line, tree_of}
use Rattle.canvas_semantics.proofs.Numbered.{count_elements}
use Rattle.canvas_rewrite.specs.Planned.{IsPlan}
use Rattle.canvas_semantics.specs.States.{numbers_from, states}
use Rattle.canvas_effects.specs.Effects.{first_messages}
use Rattle.canvas_history.specs.Table.{no_results}
use Rattle.canvas_backend.specs.Plain.{held}
use Rattle.canvas_runs.specs.Tally.{greatest_count}
use Rattle.canvas_runs.specs.Law.{its_state}
use Rattle.canvas_runs.specs.Termination.{most_steps}
use Rattle.canvas_runs.specs.Redeliveries.{Entry, TurnedAgain, no_turn, ByEntries, RunEntries, agains_in}
use Rattle.canvas_semantics.specs.States.{EachMay}
use Rattle.canvas_runs.specs.Worker.{sealed}
use Rattle.canvas_runs.specs.TurnLaws.{held_rows}
use Rattle.canvas_runs.specs.Turns.{Step, FirstsRead, all_taken, rounds, redeliveries_in}
use Rattle.canvas_runs.proofs.ByTurns.Agains.{few_again, agains_few, agains_are}
use Rattle.canvas_runs.proofs.ByTurns.Redeliveries.{are_turns}
use Rattle.canvas_runs.proofs.ByTurns.Spends.{spends_length}
use Rattle.canvas_runs.proofs.ByTurns.TurnLaw.{states_are, states_may}
use Rattle.canvas_core.specs.CoreState.{CoreView, begun}
use Rattle.canvas_core.specs.declared.cause.Cause.{Cause}
use Rattle.canvas_core.specs.declared.cause.Cause.TheVariants.{Memory, Stopped}
use Rattle.canvas_engine.specs.Correct.{IsAsked, IsWholeRun, IsWholeWithin, IsWholeAgain, IsRunFault, IsFaultWithin}
use Rattle.canvas_envelope.specs.declared.envelope.Envelope.{Envelope}
use Rattle.canvas_engine.specs.Noted.{IsStepped, opening_steps, step_seen}
use Rattle.canvas_engine.specs.Traced.{IsTraced, sent_in}
use Rattle.canvas_engine.specs.steps.Noting.{Noted, kept}
use Rattle.canvas_engine.specs.declared.by_turns.notes.Keeps.{Keeps}
use Rattle.canvas_engine.specs.declared.by_turns.notes.Keeps.TheVariants as keep
use Rattle.canvas_engine.proofs.ByTurns.Noting.{sent_noted}
use Rattle.canvas_engine.specs.steps.AgainRuns.{IsAgainWithin, IsNotedWithin, IsCutAgain, IsAgainFault}
use Rattle.canvas_engine.specs.steps.TurnRuns.{rows_of, IsNew, AreNew, IsCoreAt, Given, Reached, IsHalfway, IsEarlyEnd, IsRunThrough}
use Rattle.canvas_report.specs.declared.report.Report.{Report}
use Rattle.canvas_engine.specs.declared.by_turns.fault.RunFault.{RunFault}
use Rattle.canvas_engine.specs.declared.by_turns.fault.RunFault.TheVariants.{BadWorkers, BadTurn, Halted}
use Rattle.canvas_engine.specs.declared.by_turns.turn_run.TurnRun.{TurnRun}

-- ---- how it starts

new_core : (behaviour : Behaviour) → (l : Line) (cores : List CoreView) → AreNew cores → (i : ℕ) (c : CoreView) → slice_get cores i ≡ Some c
    → IsCoreAt behaviour l [] c
new_core behaviour l cores new i c here =
    let is : c ≡ begun = at_get cores i c here (λ d. d ≡ begun) new in
    subst (IsCoreAt behaviour l []) (sym is)
    (record { left = refl; is_in = refl; holds = refl; has_one = λ inside. absurd (false≢true inside); task = λ inside. absurd (false≢true inside) })
  where
    at_get : (xs : List CoreView) (j : ℕ) (d : CoreView) → slice_get xs j ≡ Some d → (P : CoreView → Type 0) → All P xs → P d
    at_get xs j d e P a = subst P (got xs j d e) (a j d (slice_get_within xs j d e))
      where
        got : (ys : List CoreView) (k : ℕ) (x : CoreView) → slice_get ys k ≡ Some x → get_or ys k x ≡ x
        got [] zero x e = absurd cc
        got [] (suc k) x e = absurd cc
        got (y ∷ ys) zero x e = cc
        got (y ∷ ys) (suc k) x e = got ys k x e

pub starts : (behaviour : Behaviour) → (l : Line) (n : ℕ) (old s : TurnRun) → IsPlan l → IsNew l n old → s.queue ≡ map sealed (first_messages l) → FirstsRead l
    → s.table ≡ old.table → s.cores ≡ old.cores → s.steps ≡ old.steps
    → s.again ≡ old.again → s.repeats ≡ old.repeats → Noted old.notes (opening_steps l) s.notes
    → Reached behaviour l n old.steps (old.again.items, old.notes.keeps) [] [] s
starts behaviour l n old s plan new queue back table cores steps again repeats noted = record {
  leads = record {
    by_turns = record { plan = plan; opens_back = back; workers = tt; turned = all_taken };
    runs = λ p. tt;
    queue_is = queue;
    plan_is = ap (λ t. t.plan) table ∙ new.plan_is;
    table_is = ap held table ∙ new.table_is;
    many = ap (λ c. length c.items) cores ∙ new.many;
    cores_are = λ i c here. new_core behaviour l old.cores.items new.new i c (ap (λ cs. slice_get cs.items i) (sym cores) ∙ here);
  };
  turned = subst (λ es. TurnedAgain behaviour l n [] old.again.items [] [] es) (ap (λ v. v.items) (sym again)) no_turn;
  agains = repeats ∙ new.repeats_is;
  count = omega (arith, steps);
  keeps = noted.0;
  noted =
      noted.1 ∙ ap (λ ss. map step_seen ss ++ kept old.notes.keeps (opening_steps l)) new.notes_is
      ∙ ap (kept old.notes.keeps) (sym (append-nil (opening_steps l)));
}

-- ---- how it ends

pub ok_at : {E : Type 0} (r : Result (Unit {0}) E) (Q P : ℕ → Given → Type 0) (m : ℕ) (es : Given) → Q m es
    → OnOk r ((k : ℕ) (ds : Given) → Q k ds → P k ds) → OnOk r (P m es)
ok_at (Ok u) Q P m es q h = h m es q
ok_at (Err e) Q P m es q h = tt

pub err_at : {T : Type 0} (r : Result T Cause) (Q : ℕ → Given → Type 0) (P : Cause → ℕ → Given → Type 0) (m : ℕ) (es : Given) → Q m es
    → IfErr r (λ cause. (k : ℕ) (ds : Given) → Q k ds → P cause k ds) → IfErr r (λ cause. P cause m es)
err_at (Ok u) Q P m es q h = tt
err_at (Err e) Q P m es q h = h m es q

module _ (behaviour : Behaviour) (l : Line) (n most : ℕ) (ts : List ℕ) (es : List Entry) (keeps : Keeps) (rows : List State) (s : TurnRun)
    (are : rows ≡ rows_of (count_line l) (held s.table)) where
  pub whole_rows : 1 ≤ n → length es ≤ greatest_count → IsRunThrough behaviour l n most (es, keeps) ts s → IsAgainWithin behaviour l n ts es most rows s.repeats
  whole_rows some fits done =
      let reached = done.reached in
      let by_turns = reached.leads.by_turns in
      let us = ts ++ rounds n done.further in
      let by_entries : ByEntries behaviour l n es us done.steps s.again.items =
      record { plan = by_turns.plan; opens_back = by_turns.opens_back; workers = by_turns.workers; turned = reached.turned } in
      let same : rows ≡ held_rows l done.steps = are ∙ ap (rows_of (count_line l)) reached.leads.table_is in
      let few = agains_few behaviour l n es us done.steps s.again.items by_entries in
      let again : s.repeats ≡ agains_in done.steps = omega (arith, reached.agains, few, fits) in (
        record {
          run = record {
            opens_back = by_turns.opens_back;
            turns = us;
            further = done.further;
            follow = refl;
            steps = done.steps;
            rest = s.again.items;
            turned = reached.turned;
            ended = done.ended;
          };
          rows_held = same;
          are = same ∙ states_are behaviour l n _ done.steps by_turns some done.ended;
          again = again;
          number = subst (RunEntries behaviour l es) (sym again) (agains_are behaviour l n es us done.steps s.again.items by_entries some done.ended);
        },
        omega (arith, reached.count),
      )

  pub noted_rows : 1 ≤ n → length es ≤ greatest_count → IsRunThrough behaviour l n most (es, keeps) ts s
      → IsNotedWithin behaviour l n ts es most keeps rows s.repeats (map step_seen s.notes.steps.items)
  unfolding whole_rows
  noted_rows some fits done = (whole_rows some fits done, done.reached.noted)

  none_yet : (f : ℕ → State) (ks : List ℕ) → EachMay (map (λ k. None) ks) (map f ks)
  none_yet f [] = tt
  none_yet f (k ∷ ks) = (inl refl, none_yet f ks)

  pub halted_rows : IsPlan l → IsEarlyEnd behaviour Memory l n most (es, keeps) ts s → EachMay rows (states behaviour (tree_of l))
  halted_rows plan ended = go ended.1
    where
      go : (held s.table ≡ no_results) ⊎ IsHalfway behaviour l n s → EachMay rows (states behaviour (tree_of l))
      go (inl none) = subst (λ rs. EachMay rs (states behaviour (tree_of l))) (ap (rows_of (count_line l)) (sym none) ∙ sym are)
          (subst (λ k. EachMay (rows_of (count_line l) no_results) (map (λ t. its_state behaviour l t) (numbers_from 1 k))) (sym (count_elements l))
          (none_yet (its_state behaviour l) (numbers_from 1 (count_line l))))
      go (inr half) = subst (λ rs. EachMay rs (states behaviour (tree_of l))) (ap (rows_of (count_line l)) (sym half.table_is) ∙ sym are)
          (states_may behaviour l n half.turns half.steps half.by_turns)

  pub cut_rows : IsEarlyEnd behaviour Stopped l n most (es, keeps) ts s → IsCutAgain behaviour l n ts es most rows
  cut_rows ended =
      let stopped = ended.2 in
      let reached = stopped.reached in
      let by_turns = reached.leads.by_turns in
      let same : rows ≡ held_rows l stopped.steps = are ∙ ap (rows_of (count_line l)) reached.leads.table_is in
      record {
        so_far = ended.0;
        begin = ended.1;
        steps = stopped.steps;
        rest = s.again.items;
        by_entries = record { plan = by_turns.plan; opens_back = by_turns.opens_back; workers = by_turns.workers; turned = reached.turned };
        many = omega (arith, reached.count, stopped.none_left);
        going = stopped.going;
        is_worker = stopped.is_worker;
        has_more = stopped.has_more;
        rows_held = same;
        may = subst (λ rs. EachMay rs (states behaviour (tree_of l))) (sym same) (states_may behaviour l n ended.0 stopped.steps by_turns);
      }

  pub early_fault : (cause : Cause) (report : Report) → report.rows ≡ rows → IsPlan l → IsAsked n ts → IsEarlyEnd behaviour cause l n most (es, keeps) ts s
      → IsAgainFault behaviour l n ts es most (Halted cause (Some report))
  early_fault Memory report is plan asked ended = (asked, subst (λ rs. EachMay rs (states behaviour (tree_of l))) (sym is) (halted_rows plan ended))
  early_fault Stopped report is plan asked ended = (asked, subst (IsCutAgain behaviour l n ts es most) (sym is) (cut_rows ended))

-- a run that may have more asks than it can have isn't stopped
pub never_stopped : (behaviour : Behaviour) → (l : Line) (n most : ℕ) (ts : List ℕ) (es : List Entry) (f : RunFault)
    → most ≡ suc (most_steps l n (length ts) (length es)) → IsAgainFault behaviour l n ts es most f → IsRunFault n ts (states behaviour (tree_of l)) f
never_stopped behaviour l n most ts es BadWorkers e h = h
never_stopped behaviour l n most ts es BadTurn e h = h
never_stopped behaviour l n most ts es (Halted Memory rows) e h = h
never_stopped behaviour l n most ts es (Halted Stopped None) e h = absurd h
never_stopped behaviour l n most ts es (Halted Stopped (Some report)) e h =
    let cut = h.1 in
    let soon = few_again behaviour l n es cut.so_far cut.steps cut.rest cut.by_entries ts h.0.0.0 cut.begin in absurd (omega (arith, soon, e, cut.many))

-- ---- without entries

none_spent : (behaviour : Behaviour) (l : Line) (n : ℕ) (us : List ℕ) (xs : List Step) (rest : List Entry) → TurnedAgain behaviour l n [] [] us xs rest
    → redeliveries_in xs ≡ 0
none_spent behaviour l n us xs rest t = let all = spends_length behaviour l n [] [] us xs rest t in omega (arith, all)

pub plain_run : (behaviour : Behaviour) (l : Line) (n : ℕ) (ts : List ℕ) (rows : List State) (m : ℕ) → IsWholeAgain behaviour l n ts [] rows m
    → IsWholeRun behaviour l n ts rows
plain_run behaviour l n ts rows m whole = record {
  run = record {
    opens_back = whole.run.opens_back;
    turns = whole.run.turns;
    further = whole.run.further;
    follow = whole.run.follow;
    steps = whole.run.steps;
    turned = are_turns behaviour l n [] [] whole.run.turns whole.run.steps whole.run.rest whole.run.turned;
    ended = whole.run.ended;
  };
  plain = none_spent behaviour l n whole.run.turns whole.run.steps whole.run.rest whole.run.turned;
  rows_held = whole.rows_held;
  are = whole.are;
}

pub traced_run : (behaviour : Behaviour) (l : Line) (n most : ℕ) (ts : List ℕ) (rows : List State) (m : ℕ) (steps : List Step) (sent : List Envelope)
    → IsNotedWithin behaviour l n ts [] most keep.Published rows m steps → sent ≡ sent_in steps → IsTraced behaviour l n ts rows sent
unfolding plain_run
traced_run behaviour l n most ts rows m steps sent (within, are) e =
    record { whole = plain_run behaviour l n ts rows m within.0; sent_are = e ∙ sent_noted l within.0.run.steps steps are }

pub stepped_run : (behaviour : Behaviour) (l : Line) (n most : ℕ) (ts : List ℕ) (es : List Entry) (rows : List State) (m : ℕ) (steps : List Step)
    → IsNotedWithin behaviour l n ts es most keep.All rows m steps → IsStepped behaviour l n ts es rows m steps
stepped_run behaviour l n most ts es rows m steps (within, are) = record { whole = within.0; steps_are = are }

pub plain_within : (behaviour : Behaviour) (l : Line) (n most : ℕ) (ts : List ℕ) (rows : List State) (m : ℕ) → IsAgainWithin behaviour l n ts [] most rows m
    → IsWholeWithin behaviour l n ts most rows
unfolding plain_run
plain_within behaviour l n most ts rows m (whole, few) =
    let none = none_spent behaviour l n whole.run.turns whole.run.steps whole.run.rest whole.run.turned in
    let few_steps : length whole.run.steps ≤ most = omega (arith, few, none) in
    (plain_run behaviour l n ts rows m whole, few_steps)

pub plain_fault : (behaviour : Behaviour) (l : Line) (n most : ℕ) (ts : List ℕ) (f : RunFault) → IsAgainFault behaviour l n ts [] most f
    → IsFaultWithin behaviour l n ts most f
plain_fault behaviour l n most ts BadWorkers h = h
plain_fault behaviour l n most ts BadTurn h = h
plain_fault behaviour l n most ts (Halted Memory rows) h = h
plain_fault behaviour l n most ts (Halted Stopped None) h = absurd h
plain_fault behaviour l n most ts (Halted Stopped (Some report)) (asked, cut) =
    let none : redeliveries_in cut.steps ≡ 0 = none_spent behaviour l n cut.so_far cut.steps cut.rest cut.by_entries.turned in (
      asked,
      record {
        run = record {
          opens_back = cut.by_entries.opens_back;
          turns = cut.so_far;
          begin = cut.begin;
          steps = cut.steps;
          turned = are_turns behaviour l n [] [] cut.so_far cut.steps cut.rest cut.by_entries.turned;
          many = omega (arith, cut.many, none);
          plain = none;
          going = cut.going;
          is_worker = cut.is_worker;
          has_more = cut.has_more;
        };
        rows_held = cut.rows_held;
        may = cut.may;
      },
    )
