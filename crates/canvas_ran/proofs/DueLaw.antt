-- What a skipped task shows comes from the task to blame.
use Rattle.std.proofs.Common.{◌≡◌, ◌∙◌, ℕ, List, [], ◌∷◌, ◌++◌, Option, Some, None, refl, sym, ap, subst, inl, inr}
use Rattle.std.specs.Prelude.{ℤ}
use Rattle.canvas_task.specs.Apply.{Behaviour}
use Rattle.canvas_task.specs.declared.outcome.Outcome.{Outcome}
use Rattle.canvas_task.specs.declared.outcome.Outcome.TheVariants.{Success, Failure}
use Rattle.canvas_history.specs.Lists.{In}
use Rattle.canvas_semantics.specs.Tree.{Call, Task, task, Tasks, no_tasks, and_task}
use Rattle.canvas_semantics.specs.Evaluation.{Flow, nothing, num, list, id, skip, raised, State, Rows, state_of, with_states, state, to_links, to_errbacks, passed_on, in_front, why_of, gathered, group_value, task_rows, all_ends}
use Rattle.canvas_semantics.specs.Line.{Line, stop, step, group_end, chord_end, Lines, no_lines, and_line, members_of, all_ends_of}
use Rattle.canvas_semantics.proofs.EndLemmas.{ends_of_tree}
use Rattle.canvas_rewrite.specs.Planned.{IsPlan}
use Rattle.canvas_report.specs.Fates.{Fates}
use Rattle.canvas_ran.specs.Ran.{fate, blamed_behind, blamed_for, task_fates, tasks_fates, header_out, line_fates, lines_fates, fates}
use Rattle.canvas_ran.specs.RanLaws.{IsShown, IsDueTo, SkipsAreDue}
use Rattle.canvas_report.specs.declared.fate.Fate.{Fate}
use Rattle.canvas_report.specs.declared.fate.Fate.TheVariants.{Ran, Skipped, Idle}
use Rattle.canvas_ran.proofs.RanLaw.{Holds, holds_left, holds_right, same_states, line_rows, all_rows, members_there, plan_holds, IsNoFault, links_get, errbacks_get, fine_passed, fine_out}

module _ (w : Rows) where
  abbrev Due : ℕ → Fate → Type 0
  Due k Ran = Unit {0}
  Due k (Skipped d) = IsDueTo w k d
  Due k Idle = Unit {0}

  abbrev EachDue : Fates → Type 0
  EachDue [] = Unit {0}
  EachDue (f ∷ fs) = Due f.0 f.1 × EachDue fs

  due_both : (xs ys : Fates) → EachDue xs → EachDue ys → EachDue (xs ++ ys)
  due_both [] ys a b = b
  due_both (x ∷ xs) ys a b = (a.0, due_both xs ys a.1 b)

  -- what flows, where it is an exception, is shown by the task to blame
  abbrev Blames : Flow → ℕ → Type 0
  Blames (skip f) d = IsShown w f d
  Blames (raised f) d = IsShown w f d
  Blames x d = Unit {0}

  idle_due : (k d : ℕ) (x : Option Flow) → IsNoFault x → Due k (fate d x)
  idle_due k d None i = tt
  idle_due k d (Some nothing) i = tt
  idle_due k d (Some (num n)) i = tt
  idle_due k d (Some (list ns)) i = tt
  idle_due k d (Some (id j)) i = tt
  idle_due k d (Some (skip f)) i = absurd i
  idle_due k d (Some (raised f)) i = absurd i

  front : (n : ℤ) (d : ℕ) (y : Flow) → Blames y (blamed_for d y) → Blames (in_front n y) (blamed_for d (in_front n y))
  front n d nothing b = tt
  front n d (num m) b = tt
  front n d (list ns) b = tt
  front n d (id k) b = tt
  front n d (skip f) b = b
  front n d (raised f) b = b

  one_more : (k d : ℕ) (es : Rows) (s : State) → state_of k w ≡ s → Blames (gathered es) (blamed_for d (gathered es))
      → Blames (gathered ((k, s) ∷ es)) (blamed_for d (gathered ((k, s) ∷ es)))
  one_more k d es None e b = b
  one_more k d es (Some (Success n)) e b = front n d (gathered es) b
  one_more k d es (Some (Failure f)) e b = (inr (why_of f, refl), (f, e))

  gathering : (d : ℕ) (ks : List ℕ) → Blames (gathered (with_states w ks)) (blamed_for d (gathered (with_states w ks)))
  gathering d [] = tt
  gathering d (k ∷ ks) = one_more k d (with_states w ks) (state_of k w) refl (gathering d ks)

  grouped : (x : Flow) (d : ℕ) (ks : List ℕ) → Blames x d → blamed_for d x ≡ d
      → Blames (group_value x (with_states w ks)) (blamed_for d (group_value x (with_states w ks)))
  grouped nothing d ks b f = gathering d ks
  grouped (num n) d ks b f = gathering d ks
  grouped (list ns) d ks b f = gathering d ks
  grouped (id k) d ks b f = gathering d ks
  grouped (skip g) d ks b f = b
  grouped (raised g) d [] b f = subst (λ e. IsShown w g e) (sym f) b
  grouped (raised g) d (k ∷ ks) b f = gathering d (k ∷ ks)

  by_outcome : (k : ℕ) (o : Outcome) → state_of k w ≡ Some o → Blames (passed_on (Some o)) k
  by_outcome k (Success n) e = tt
  by_outcome k (Failure f) e = (inl e, (f, e))

module _ (behaviour : Behaviour) (w : Rows) where
  mutual
    callback_due : (t : Task) (x : Option Flow) (d : ℕ) → IsNoFault x → EachDue w (task_fates behaviour t x d)
    callback_due (task k call ls es) x d i =
        let s : State = state behaviour call x in (
          idle_due w k d x i,
          due_both w (tasks_fates behaviour ls (to_links s) d) (tasks_fates behaviour es (to_errbacks k x s) d)
              (callbacks_due ls (to_links s) d (links_get s))
              (callbacks_due es (to_errbacks k x s) d (errbacks_get k x s)),
        )

    callbacks_due : (ts : Tasks) (x : Option Flow) (d : ℕ) → IsNoFault x → EachDue w (tasks_fates behaviour ts x d)
    callbacks_due no_tasks x d i = tt
    callbacks_due (and_task t ts) x d i =
        due_both w (task_fates behaviour t x d) (tasks_fates behaviour ts x d) (callback_due t x d i)
        (callbacks_due ts x d i)

  own_due : (k : ℕ) (call : Call) (x : Flow) (d : ℕ) → state_of k w ≡ state behaviour call (Some x) → Blames w x d
      → Due w k (fate d (Some x))
  own_due k call nothing d e b = tt
  own_due k call (num n) d e b = tt
  own_due k call (list ns) d e b = tt
  own_due k call (id j) d e b = tt
  own_due k call (skip f) d e b = (f, e, b)
  own_due k call (raised f) d e b = (f, e, b)

  next_blames : (k : ℕ) (call : Call) (x : Flow) (d : ℕ) → state_of k w ≡ state behaviour call (Some x) → Blames w x d
      → Blames w (passed_on (state behaviour call (Some x))) (blamed_behind k d x)
  next_blames k call nothing d e b = by_outcome w k _ e
  next_blames k call (num n) d e b = by_outcome w k _ e
  next_blames k call (list ns) d e b = by_outcome w k _ e
  next_blames k call (id j) d e b = by_outcome w k _ e
  next_blames k call (skip f) d e b = b
  next_blames k call (raised f) d e b = b

  task_due : (k : ℕ) (call : Call) (ls es : Tasks) (x : Flow) (d : ℕ) → state_of k w ≡ state behaviour call (Some x)
      → Blames w x d
      → EachDue w (task_fates behaviour (task k call ls es) (Some x) d)
  task_due k call ls es x d e b =
      let s : State = state behaviour call (Some x) in (
        own_due k call x d e b,
        due_both w (tasks_fates behaviour ls (to_links s) d) (tasks_fates behaviour es (to_errbacks k (Some x) s) d)
            (callbacks_due ls (to_links s) d (links_get s))
            (callbacks_due es (to_errbacks k (Some x) s) d (errbacks_get k (Some x) s)),
      )

  mutual
    line_due : (l : Line) (x : Flow) (d : ℕ) → Holds w (line_rows behaviour l x) → blamed_for d x ≡ d → Blames w x d
        → EachDue w (line_fates behaviour l x d)
    line_due stop x d h f b = tt
    line_due (step (task k call ls es) rest) x d h f b =
        let t : Task = task k call ls es in
        let s : State = state behaviour call (Some x) in
        let out : Flow = passed_on s in
        let blamed : ℕ = blamed_behind k d x in
        due_both w (task_fates behaviour t (Some x) d) (line_fates behaviour rest out blamed)
        (task_due k call ls es x d h.0 b)
        (line_due rest out blamed (holds_right w (task_rows behaviour t (Some x)) (line_rows behaviour rest out) h)
        (fine_passed blamed s)
        (next_blames k call x d h.0 b))
    line_due (group_end g ms) x d h f b = members_due ms x d (holds_left w (all_rows behaviour ms x) [] h) f b
    line_due (chord_end g ms body) x d h f b =
        let out : Flow = header_out behaviour ms x in
        let all : Holds w (all_rows behaviour ms x ++ line_rows behaviour body out) =
        holds_left w (all_rows behaviour ms x ++ line_rows behaviour body out) [] h
        in
        let of_header : Holds w (all_rows behaviour ms x) =
        holds_left w (all_rows behaviour ms x) (line_rows behaviour body out) all in
        let ends : with_states w (all_ends_of ms) ≡ with_states (all_rows behaviour ms x) (all_ends (members_of ms)) =
        same_states w (all_rows behaviour ms x) (all_ends_of ms) of_header (members_there behaviour ms x)
        ∙ ap (with_states (all_rows behaviour ms x)) (ends_of_tree (group_end g ms))
        in
        let blames : Blames w out (blamed_for d out) =
        subst (λ es. Blames w (group_value x es) (blamed_for d (group_value x es))) ends
        (grouped w x d (all_ends_of ms) b f)
        in
        due_both w (lines_fates behaviour ms x d) (line_fates behaviour body out (blamed_for d out))
        (members_due ms x d of_header f b)
        (line_due body out (blamed_for d out) (holds_right w (all_rows behaviour ms x)
        (line_rows behaviour body out) all) (fine_out d out) blames)

    members_due : (ms : Lines) (x : Flow) (d : ℕ) → Holds w (all_rows behaviour ms x) → blamed_for d x ≡ d
        → Blames w x d
        → EachDue w (lines_fates behaviour ms x d)
    members_due no_lines x d h f b = tt
    members_due (and_line m ms) x d h f b =
        due_both w (line_fates behaviour m x d) (lines_fates behaviour ms x d)
        (line_due m x d (holds_left w (line_rows behaviour m x) (all_rows behaviour ms x) h) f b)
        (members_due ms x d (holds_right w (line_rows behaviour m x) (all_rows behaviour ms x) h) f b)

-- one of the skipped
one_due : (w : Rows) (k d : ℕ) (fs : Fates) → EachDue w fs → In (k, Skipped d) fs → IsDueTo w k d
one_due w k d [] a i = absurd i
one_due w k d (f ∷ fs) a (inl e) = subst (λ p. Due w p.0 p.1) (sym e) a.0
one_due w k d (f ∷ fs) a (inr i) = one_due w k d fs a.1 i

pub skips_are_due : (behaviour : Behaviour) (l : Line) → IsPlan l → SkipsAreDue behaviour l
skips_are_due behaviour l plan k d i =
    let w : Rows = line_rows behaviour l nothing in
    one_due w k d (fates behaviour l) (line_due behaviour w l nothing 0 (plan_holds behaviour l plan) refl tt) i
