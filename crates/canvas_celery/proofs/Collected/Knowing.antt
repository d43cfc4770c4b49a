-- Completing the outcomes of the engine's own tasks gives those of evaluating.
use Rattle.std.proofs.Common.{◌≡◌, ◌∙◌, ◌-◌, ◌+◌, ◌≤◌, ◌⊎◌, ℕ, List, [], ◌++◌, length, get_or, Some, None, IsSome, refl, sym, ap, subst, inl, inr, ⊎_elim, arith}
use Rattle.std.specs.Prelude.{slice_set}
use Rattle.std.proofs.lemmas.Bool.{cases_lt}
use Rattle.std.proofs.lemmas.List.{get_or-set_same, get_or_past}
use Rattle.canvas_task.specs.Apply.{Behaviour}
use Rattle.canvas_task.specs.declared.outcome.Fault.{Fault}
use Rattle.canvas_task.specs.declared.outcome.Fault.TheVariants as fault
use Rattle.canvas_task.specs.declared.outcome.Outcome.{Outcome}
use Rattle.canvas_task.specs.declared.outcome.Outcome.TheVariants.{Failure}
use Rattle.canvas_semantics.specs.Tree.{Call, Task, task, Tasks}
use Rattle.canvas_semantics.specs.Evaluation.{Flow, nothing, State, Rows, why_of, state, passed_on, task_rows, task_meaning, as_group}
use Rattle.canvas_semantics.specs.Evaluation.{eval_chain, member_rows}
use Rattle.canvas_semantics.specs.FileOrder.{LineIn, LinesIn}
use Rattle.canvas_semantics.specs.Line.{Line, stop, step, group_end, chord_end, Lines, no_lines, and_line, no_of, elements_of, members_of, tree_of, count_line, members, number_line}
use Rattle.canvas_semantics.specs.States.{states, EachMay}
use Rattle.canvas_semantics.proofs.EndLemmas.{ends_of_tree}
use Rattle.canvas_celery.specs.Called.{task_called, called, chain_called, members_called}
use Rattle.canvas_celery.specs.Completed.{HasRows, Keeps, Completes, state_at}
use Rattle.canvas_celery.specs.Completing.{after, same_failure, chord_failure, put, reached, into_body, completed, all_completed}
use Rattle.canvas_celery.specs.Looks.{Look, known, look_at}
use Rattle.canvas_celery.specs.declared.results.completing.Flow as flow
use Rattle.canvas_celery.specs.declared.results.completing.Flow.TheVariants.{Value, Skip, Raise, Pending}
use Rattle.canvas_celery.proofs.Collected.Bodies.{known_kept, passed_known, passed_told, body_known, body_told}
use Rattle.canvas_celery.proofs.Collected.Flows.{IsValue, IsKnown, IsTold, Within, AllThere, shown}
use Rattle.canvas_celery.proofs.Collected.KeptRows.{kept_refl, kept_trans, set_kept, set_within}
use Rattle.canvas_celery.proofs.Collected.Reached.{has_split, meaning_rows}
use Rattle.canvas_celery.proofs.Collected.Shown.{shown_at, shown_one, put_full, put_empty, put_past, line_kept}
use Rattle.canvas_celery.proofs.Collected.Walking.{table_has, table_rows, within_by_each, each_long, each_by_within}
use Rattle.canvas_celery.proofs.Collected.Whole.{has_join, has_kept, own_row, own_value, task_among, chain_among, members_among, outcome_task, all_there, is_table}

-- ---- one row

record Filled (old s : List State) (i : ℕ) (f : Fault) : Type 0 where
  pub now : List State
  pub is : put (shown old) i (known (Some (Failure f))) ≡ shown now
  pub keeps : Keeps old now
  pub within : Within now s
  pub there : length old ≡ length s → get_or now i None ≡ Some (Failure f)

full_row : (row other : State) (o p : Outcome) → (row ≡ None) ⊎ (row ≡ other) → row ≡ Some o → other ≡ Some p → row ≡ Some p
full_row row other o p (inl none) at e = absurd (let bad : Some o ≡ None = sym at ∙ none in cc)
full_row row other o p (inr same) at e = same ∙ e

no_row : (s : List State) (i : ℕ) (o : Outcome) → length s ≤ i → get_or s i None ≡ Some o → ⊥
no_row s i o past e = let bad : Some o ≡ None = sym e ∙ get_or_past s i None past in absurd cc

fill_by : (old s : List State) (i : ℕ) (f : Fault) (st : State) → get_or s i None ≡ Some (Failure f) → Within old s → get_or old i None ≡ st → Filled old s i f
fill_by old s i f (Some o) e w at =
    record {
      now = old;
      is = put_full old i (known (Some (Failure f))) o at;
      keeps = kept_refl old;
      within = w;
      there = λ long. full_row (get_or old i None) (get_or s i None) o (Failure f) (w i) at e;
    }
fill_by old s i f None e w at =
    ⊎_elim
    (λ lt.
    record {
      now = slice_set old i (Some (Failure f));
      is = put_empty old i (Some (Failure f)) at;
      keeps = set_kept old i f lt at;
      within = set_within old s i f lt e w;
      there = λ long. get_or-set_same old i (Some (Failure f)) None lt;
    })
    (λ ge.
    record {
      now = old;
      is = put_past old i (Some (Failure f)) ge at;
      keeps = kept_refl old;
      within = w;
      there = λ long. absurd (no_row s i (Failure f) (omega (arith, ge, long)) e);
    })
    (cases_lt i (length old))

module _ (b : Behaviour) (s : List State) where
  -- ---- one task

  record TaskDone (u : Task) (way : flow.Flow) (old : List State) (x : Flow) : Type 0 where
    pub now : List State
    pub is : reached way (no_of u) (shown old) ≡ shown now
    pub keeps : Keeps old now
    pub within : Within now s
    pub known : IsKnown now (after way (no_of u) (look_at (shown now) (no_of u))) (task_meaning b u x).out
    pub whole : IsTold way → length old ≡ length s → HasRows old (task_called b u (Some x))
        → IsTold (after way (no_of u) (look_at (shown now) (no_of u))) × HasRows now (task_rows b u (Some x))

  called_done : (k : ℕ) (call : Call) (ls es : Tasks) (old : List State) (x : Flow) → IsValue x → HasRows s (task_rows b (task k call ls es) (Some x))
      → Within old s → TaskDone (task k call ls es) Value old x
  called_done k call ls es old x value has w =
      record {
        now = old;
        is = refl;
        keeps = kept_refl old;
        within = w;
        known = passed_known old s k _ w (ap passed_on has.0);
        whole = λ told long calls.
            let same : state_at old k ≡ state_at s k = own_value b old s w k call ls es x value has calls in
            let P : State → Type 0 = λ st. IsSome st in
            (passed_told old k (subst P (sym same) (outcome_task b s k call ls es x has)), own_row b old s w k call ls es x same has calls);
      }

  -- what is known of a task that isn't called, once its row is filled
  record Reaches (k : ℕ) (call : Call) (ls es : Tasks) (old : List State) (x : Flow) (f : Fault) : Type 0 where
    pub row : Filled old s (k - 1) f
    pub has : HasRows s (task_rows b (task k call ls es) (Some x))
    pub at : state_at s k ≡ Some (Failure f)

  reaches : (k : ℕ) (call : Call) (ls es : Tasks) (old : List State) (x : Flow) (f : Fault) → HasRows s (task_rows b (task k call ls es) (Some x))
      → state b call (Some x) ≡ Some (Failure f) → Within old s → Reaches k call ls es old x f
  reaches k call ls es old x f has failed w =
      let at : state_at s k ≡ Some (Failure f) = has.0 ∙ failed in
      record { row = fill_by old s (k - 1) f (get_or old (k - 1) None) at w refl; has = has; at = at }

  whole_by : (k : ℕ) (call : Call) (ls es : Tasks) (old : List State) (x : Flow) (f : Fault) (q : Reaches k call ls es old x f) → length old ≡ length s
      → HasRows old (task_called b (task k call ls es) (Some x))
      → (state_at q.row.now k ≡ state_at s k) × HasRows q.row.now (task_rows b (task k call ls es) (Some x))
  whole_by k call ls es old x f q long calls =
      let u = task k call ls es in
      let r = q.row in
      let same : state_at r.now k ≡ state_at s k = r.there long ∙ sym q.at in
      let kept = has_kept old r.now s (task_called b u (Some x)) r.keeps r.within (task_among b s u (Some x) q.has) calls in
      (same, own_row b r.now s r.within k call ls es x same q.has kept)

  skipped_done : (k : ℕ) (call : Call) (ls es : Tasks) (d : ℕ) (old : List State) (x : Flow) (f : Fault) → state_at old d ≡ Some (Failure f)
      → Reaches k call ls es old x f → TaskDone (task k call ls es) (Skip d) old x
  skipped_done k call ls es d old x f there q =
      let r = q.row in
      let seen : same_failure (look_at (shown old) d) ≡ known (Some (Failure f)) = ap same_failure (shown_at old d ∙ ap (λ st. known st) there) in
      record {
        now = r.now;
        is = ap (λ y. put (shown old) (k - 1) y) seen ∙ r.is;
        keeps = r.keeps;
        within = r.within;
        known = passed_known r.now s k _ r.within (ap passed_on q.has.0);
        whole = λ told long calls.
            let both = whole_by k call ls es old x f q long calls in
            let P : State → Type 0 = λ st. IsSome st in
            (passed_told r.now k (subst P (sym both.0) (outcome_task b s k call ls es x q.has)), both.1);
      }

  raised_done : (k : ℕ) (call : Call) (ls es : Tasks) (d : ℕ) (old : List State) (x : Flow) (f : Fault) → state_at old d ≡ Some (Failure f)
      → Reaches k call ls es old x (fault.Chord d (why_of f)) → TaskDone (task k call ls es) (Raise d) old x
  raised_done k call ls es d old x f there q =
      let r = q.row in
      let g = fault.Chord d (why_of f) in
      let seen : chord_failure d (look_at (shown old) d) ≡ known (Some (Failure g)) = ap (chord_failure d) (shown_at old d ∙ ap (λ st. known st) there) in
      record {
        now = r.now;
        is = ap (λ y. put (shown old) (k - 1) y) seen ∙ r.is;
        keeps = r.keeps;
        within = r.within;
        known = passed_known r.now s k _ r.within (ap passed_on q.has.0);
        whole = λ told long calls.
            let both = whole_by k call ls es old x g q long calls in
            let P : State → Type 0 = λ st. IsSome st in
            (passed_told r.now k (subst P (sym both.0) (outcome_task b s k call ls es x q.has)), both.1);
      }

  task_done : (u : Task) (way : flow.Flow) (old : List State) (x : Flow) → IsKnown old way x → HasRows s (task_rows b u (Some x)) → Within old s
      → TaskDone u way old x
  task_done (task k call ls es) Value old x value has w = called_done k call ls es old x value has w
  task_done (task k call ls es) (Skip d) old x (f, at, e) has w =
      skipped_done k call ls es d old x f at (reaches k call ls es old x f has (ap (λ y. state b call (Some y)) e) w)
  task_done (task k call ls es) (Raise d) old x (f, at, e) has w =
      raised_done k call ls es d old x f at (reaches k call ls es old x (fault.Chord d (why_of f)) has (ap (λ y. state b call (Some y)) e) w)
  task_done (task k call ls es) Pending old x h has w =
      record { now = old; is = refl; keeps = kept_refl old; within = w; known = tt; whole = λ told. absurd told }

  -- ---- lines

  record Done (ls : List Look) (old : List State) (told : Type 0) (calls rows : Rows) : Type 0 where
    pub now : List State
    pub is : ls ≡ shown now
    pub keeps : Keeps old now
    pub within : Within now s
    pub whole : told → length old ≡ length s → HasRows old calls → HasRows now rows

  module _ (table : ℕ → List ℕ) where
    step_done : (u : Task) (rest : Line) (way : flow.Flow) (old : List State) (x : Flow)
        → HasRows s (eval_chain b (elements_of (step u rest)) x).rows
        → (t : TaskDone u way old x)
        → (r : Done (completed table rest (after way (no_of u) (look_at (shown t.now) (no_of u))) (shown t.now)) t.now
        (IsTold (after way (no_of u) (look_at (shown t.now) (no_of u))))
        (chain_called b (elements_of rest) (task_meaning b u x).out) (eval_chain b (elements_of rest) (task_meaning b u x).out).rows)
        → Done (completed table (step u rest) way (shown old)) old (IsTold way) (chain_called b (elements_of (step u rest)) x)
        (eval_chain b (elements_of (step u rest)) x).rows
    step_done u rest way old x has t r =
        let k = no_of u in
        let out = (task_meaning b u x).out in
        let tail = (eval_chain b (elements_of rest) out).rows in
        let both = has_split s (task_meaning b u x).rows tail has in
        let P : Rows → Type 0 = λ es. HasRows s es in
        let own : HasRows s (task_rows b u (Some x)) = subst P (meaning_rows b u x) both.0 in
        record {
          now = r.now;
          is = ap (λ ls. completed table rest (after way k (look_at ls k)) ls) t.is ∙ r.is;
          keeps = kept_trans old t.now r.now t.keeps r.keeps;
          within = r.within;
          whole = λ told long calls.
              let had = has_split old (task_called b u (Some x)) (chain_called b (elements_of rest) out) calls in
              let q = t.whole told long had.0 in
              let later = has_kept old t.now s (chain_called b (elements_of rest) out) t.keeps t.within (chain_among b s (elements_of rest) out both.1) had.1 in
              let behind = r.whole q.0 (t.keeps.count ∙ long) later in
              let first = has_kept t.now r.now s (task_rows b u (Some x)) r.keeps r.within own q.1 in
              let Q : Rows → Type 0 = λ es. HasRows r.now es in
              has_join r.now (task_meaning b u x).rows tail (subst Q (sym (meaning_rows b u x)) first) behind;
        }

    group_done : (g : ℕ) (ms : Lines) (way : flow.Flow) (old : List State) (x : Flow)
        → Done (all_completed table ms way (shown old)) old (IsTold way) (members_called b (members_of ms) x) (member_rows b (members_of ms) x)
        → Done (completed table (group_end g ms) way (shown old)) old (IsTold way) (chain_called b (elements_of (group_end g ms)) x)
        (eval_chain b (elements_of (group_end g ms)) x).rows
    group_done g ms way old x r =
        record {
          now = r.now;
          is = r.is;
          keeps = r.keeps;
          within = r.within;
          whole = λ told long calls.
              has_join r.now (member_rows b (members_of ms) x) [] (r.whole told long (has_split old (members_called b (members_of ms) x) [] calls).0) tt;
        }

    chord_done : (g : ℕ) (ms : Lines) (body : Line) (way : flow.Flow) (old : List State) (x : Flow)
        → HasRows s (eval_chain b (elements_of (chord_end g ms body)) x).rows
        → IsKnown old way x
        → (IsTold way → (now : List State) → AllThere now (table g) → IsTold (into_body way (table g) (shown now)))
        → ((now : List State) → HasRows now (member_rows b (members_of ms) x) → AllThere now (table g))
        → (m : Done (all_completed table ms way (shown old)) old (IsTold way) (members_called b (members_of ms) x) (member_rows b (members_of ms) x))
        → (r : Done (completed table body (into_body way (table g) (shown m.now)) (shown m.now)) m.now (IsTold (into_body way (table g) (shown m.now)))
        (chain_called b (elements_of body) (as_group x (members_of ms) (member_rows b (members_of ms) x)).out)
        (eval_chain b (elements_of body) (as_group x (members_of ms) (member_rows b (members_of ms) x)).out).rows)
        → Done (completed table (chord_end g ms body) way (shown old)) old (IsTold way) (chain_called b (elements_of (chord_end g ms body)) x)
        (eval_chain b (elements_of (chord_end g ms body)) x).rows
    chord_done g ms body way old x has h going ends m r =
        let hd = members_of ms in
        let rows = member_rows b hd x in
        let out = (as_group x hd rows).out in
        let tail = (eval_chain b (elements_of body) out).rows in
        let left = chain_called b (elements_of body) out in
        let both = has_split s rows tail (has_split s (rows ++ tail) [] has).0 in
        record {
          now = r.now;
          is = ap (λ ls. completed table body (into_body way (table g) ls) ls) m.is ∙ r.is;
          keeps = kept_trans old m.now r.now m.keeps r.keeps;
          within = r.within;
          whole = λ told long calls.
              let had = has_split old (members_called b hd x) left (has_split old (members_called b hd x ++ left) [] calls).0 in
              let done = m.whole told long had.0 in
              let later = has_kept old m.now s left m.keeps m.within (chain_among b s (elements_of body) out both.1) had.1 in
              let behind = r.whole (going told m.now (ends m.now done)) (m.keeps.count ∙ long) later in
              let first = has_kept m.now r.now s rows r.keeps r.within both.0 done in
              has_join r.now (rows ++ tail) [] (has_join r.now rows tail first behind) tt;
        }

    member_done : (m : Line) (ms : Lines) (way : flow.Flow) (old : List State) (x : Flow)
        → HasRows s (member_rows b (members_of (and_line m ms)) x)
        → (q : Done (completed table m way (shown old)) old (IsTold way) (chain_called b (elements_of m) x) (eval_chain b (elements_of m) x).rows)
        → Done (all_completed table ms way (shown q.now)) q.now (IsTold way) (members_called b (members_of ms) x) (member_rows b (members_of ms) x)
        → Done (all_completed table (and_line m ms) way (shown old)) old (IsTold way) (members_called b (members_of (and_line m ms)) x)
        (member_rows b (members_of (and_line m ms)) x)
    member_done m ms way old x has q r =
        let own = (eval_chain b (elements_of m) x).rows in
        let others = member_rows b (members_of ms) x in
        let both = has_split s own others has in
        record {
          now = r.now;
          is = ap (λ ls. all_completed table ms way ls) q.is ∙ r.is;
          keeps = kept_trans old q.now r.now q.keeps r.keeps;
          within = r.within;
          whole = λ told long calls.
              let had = has_split old (chain_called b (elements_of m) x) (members_called b (members_of ms) x) calls in
              let done = q.whole told long had.0 in
              let later = has_kept old q.now s (members_called b (members_of ms) x) q.keeps q.within (members_among b s (members_of ms) x both.1) had.1 in
              let behind = r.whole told (q.keeps.count ∙ long) later in
              has_join r.now own others (has_kept q.now r.now s own r.keeps r.within both.0 done) behind;
        }

    mutual
      line_done : (l : Line) (way : flow.Flow) (old : List State) (x : Flow) (low high : ℕ) → IsKnown old way x → LineIn table l low high
          → HasRows s (eval_chain b (elements_of l) x).rows → Within old s
          → Done (completed table l way (shown old)) old (IsTold way) (chain_called b (elements_of l) x) (eval_chain b (elements_of l) x).rows
      line_done stop way old x low high h inn has w =
          record { now = old; is = refl; keeps = kept_refl old; within = w; whole = λ told long calls. tt }
      line_done (step u rest) way old x low high h (middle, first, place) has w =
          let out = (task_meaning b u x).out in
          let both = has_split s (task_meaning b u x).rows (eval_chain b (elements_of rest) out).rows has in
          let P : Rows → Type 0 = λ es. HasRows s es in
          let t = task_done u way old x h (subst P (meaning_rows b u x) both.0) w in
          step_done u rest way old x has t
          (line_done rest (after way (no_of u) (look_at (shown t.now) (no_of u))) t.now out middle high t.known place both.1 t.within)
      line_done (group_end g ms) way old x low high h (inside, named) has w =
          group_done g ms way old x (lines_done ms way old x low high h inside (has_split s (member_rows b (members_of ms) x) [] has).0 w)
      line_done (chord_end g ms body) way old x low high h (middle, inside, place, named) has w =
          let hd = members_of ms in
          let rows = member_rows b hd x in
          let out = (as_group x hd rows).out in
          let tail = (eval_chain b (elements_of body) out).rows in
          let both = has_split s rows tail (has_split s (rows ++ tail) [] has).0 in
          let ends = named ∙ ends_of_tree (group_end g ms) in
          let m = lines_done ms way old x low middle h inside both.0 w in
          let told = known_kept way old m.now x m.keeps h in
          let known = body_known b (table g) way m.now s x hd m.within told ends both.0 in
          let A : List State → List ℕ → Type 0 = λ now ks. AllThere now ks in
          chord_done g ms body way old x has h (λ told now all. body_told (table g) way now all told)
          (λ now done. subst (A now) (sym ends) (all_there b now hd x done)) m
          (line_done body (into_body way (table g) (shown m.now)) m.now out middle high known place both.1 m.within)

      lines_done : (ms : Lines) (way : flow.Flow) (old : List State) (x : Flow) (low high : ℕ) → IsKnown old way x → LinesIn table ms low high
          → HasRows s (member_rows b (members_of ms) x) → Within old s
          → Done (all_completed table ms way (shown old)) old (IsTold way) (members_called b (members_of ms) x) (member_rows b (members_of ms) x)
      lines_done no_lines way old x low high h inn has w =
          record { now = old; is = refl; keeps = kept_refl old; within = w; whole = λ told long calls. tt }
      lines_done (and_line m ms) way old x low high h (middle, first, ended, rest) has w =
          let both = has_split s (eval_chain b (elements_of m) x).rows (member_rows b (members_of ms) x) has in
          let q = line_done m way old x low middle h first both.0 w in
          member_done m ms way old x has q (lines_done ms way q.now x middle high (known_kept way old q.now x q.keeps h) rest both.1 q.within)

-- ---- a plan

module _ (plan : Line) (numbered : number_line 1 1 plan ≡ plan) (inn : LineIn (λ g. members plan g) plan 1 (1 + count_line plan)) where
  states_done : (b : Behaviour) (old : List State) → EachMay old (states b (tree_of plan))
      → Done b (states b (tree_of plan)) (completed (λ g. members plan g) plan Value (shown old)) old (IsTold Value)
      (chain_called b (elements_of plan) nothing) (eval_chain b (elements_of plan) nothing).rows
  states_done b old each =
      let s = states b (tree_of plan) in
      line_done b s (λ g. members plan g) plan Value old nothing 1 (1 + count_line plan) tt inn (table_has b plan numbered) (within_by_each old s each)

  within_all : (b : Behaviour) (old now : List State) → completed (λ g. members plan g) plan Value (shown old) ≡ shown now → Keeps old now
      → EachMay old (states b (tree_of plan)) → EachMay now (states b (tree_of plan))
  within_all b old now is keeps each =
      let s = states b (tree_of plan) in
      let d = states_done b old each in
      let same : d.now ≡ now = shown_one d.now now (sym d.is ∙ is) in
      let W : List State → Type 0 = λ rows. Within rows s in
      each_by_within now s (keeps.count ∙ each_long old s each) (subst W same d.within)

  whole_all : (b : Behaviour) (old now : List State) → completed (λ g. members plan g) plan Value (shown old) ≡ shown now → Keeps old now
      → EachMay old (states b (tree_of plan)) → HasRows old (called b (tree_of plan) nothing) → now ≡ states b (tree_of plan)
  whole_all b old now is keeps each calls =
      let s = states b (tree_of plan) in
      let d = states_done b old each in
      let same : d.now ≡ now = shown_one d.now now (sym d.is ∙ is) in
      let H : List State → Type 0 = λ rows. HasRows rows (eval_chain b (elements_of plan) nothing).rows in
      let R : Rows → Type 0 = λ es. HasRows now es in
      let all = subst H same (d.whole tt (each_long old s each) calls) in
      is_table now s (subst R (sym (table_rows b plan numbered)) all) (keeps.count ∙ each_long old s each)

  pub completes : (old : List State)
      → (now : List State) × (completed (λ g. members plan g) plan Value (shown old) ≡ shown now) × Completes plan old now
  completes old =
      let q = line_kept (λ g. members plan g) plan Value old in (
        q.now,
        q.is,
        record {
          keeps = q.keeps;
          within = λ b each. within_all b old q.now q.is q.keeps each;
          whole = λ b each calls. whole_all b old q.now q.is q.keeps each calls;
        },
      )
