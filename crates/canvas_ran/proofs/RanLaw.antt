-- What is seen of the rows that evaluation gives is what becomes of the tasks where the line is evaluated.
use Rattle.std.proofs.Common.{◌≡◌, ◌∙◌, ◌⊎◌, ℕ, suc, ◌+◌, ◌<◌, ◌==◌, Bool, true, false, List, [], ◌∷◌, ◌++◌, Option, Some, None, refl, sym, ap, subst, inl, inr, arith}
use Rattle.std.specs.Prelude.{if◌then◌else◌, ℤ}
use Rattle.std.proofs.lemmas.Bool.{eqb-true, eq-eqb}
use Rattle.std.proofs.lemmas.Bool.Decides.{nat_tests}
use Rattle.canvas_task.specs.Apply.{Behaviour}
use Rattle.canvas_task.specs.declared.outcome.Fault.TheVariants as fault
use Rattle.canvas_task.specs.declared.outcome.Outcome.{Outcome}
use Rattle.canvas_task.specs.declared.outcome.Outcome.TheVariants.{Success, Failure}
use Rattle.canvas_semantics.specs.Tree.{Call, Task, task, Tasks, no_tasks, and_task, numbered}
use Rattle.canvas_semantics.specs.Evaluation.{Flow, nothing, num, list, id, skip, raised, State, Rows, state_of, with_states, state, to_links, to_errbacks, passed_on, in_front, gathered, group_value, task_rows, tasks_rows, task_meaning, eval, eval_chain, member_rows, all_ends}
use Rattle.canvas_semantics.specs.FileOrder.{LineIn, LinesIn}
use Rattle.canvas_semantics.specs.Line.{Line, stop, step, group_end, chord_end, Lines, no_lines, and_line, elements_of, members_of, ends_of, all_ends_of, tree_of, count_line, members}
use Rattle.canvas_semantics.specs.States.{rows_from, states}
use Rattle.canvas_semantics.proofs.EndLemmas.{ends_of_tree}
use Rattle.canvas_semantics.proofs.Numbered.{tree_numbered}
use Rattle.canvas_semantics.proofs.RowNumbers.{same_number, states_whole}
use Rattle.canvas_rewrite.specs.Planned.{IsPlan}
use Rattle.canvas_ran.specs.Ran.{fate, blamed_behind, blamed_for, task_fates, tasks_fates, header_out, line_fates, lines_fates, fates}
use Rattle.canvas_ran.specs.Seen.{fate_by, after, first_failed, into_body, seen_callbacks, seen_task, seen, seen_all}
use Rattle.canvas_ran.specs.declared.came.Came.{Came}
use Rattle.canvas_ran.specs.declared.came.Came.TheVariants.{Value, Skip, Raise}

-- ---- rows that a table of states has

abbrev pub Holds : Rows → Rows → Type 0
Holds w [] = Unit {0}
Holds w (r ∷ rs) = (state_of r.0 w ≡ r.1) × Holds w rs

pub holds_left : (w xs ys : Rows) → Holds w (xs ++ ys) → Holds w xs
holds_left w [] ys h = tt
holds_left w (x ∷ xs) ys h = (h.0, holds_left w xs ys h.1)

pub holds_right : (w xs ys : Rows) → Holds w (xs ++ ys) → Holds w ys
holds_right w [] ys h = h
holds_right w (x ∷ xs) ys h = holds_right w xs ys h.1

other_number : (j k : ℕ) → j < k → (j == k) ≡ false
other_number j k h = grind (arith, nat_tests)

past : (r : ℕ × State) (j : ℕ) (ss : List State) (w : Rows) → r.0 < j → Holds w (rows_from j ss)
    → Holds (r ∷ w) (rows_from j ss)
past r j [] w h a = tt
past r j (s ∷ ss) w h a =
    (ap (λ b. if b then r.1 else state_of j w) (other_number r.0 j h) ∙ a.0, past r (suc j) ss w (omega (arith, h)) a.1)

pub whole : (j : ℕ) (ss : List State) → Holds (rows_from j ss) (rows_from j ss)
whole j [] = tt
whole j (s ∷ ss) = (
  ap (λ b. if b then s else state_of j (rows_from (suc j) ss)) (same_number j),
  past (j, s) (suc j) ss (rows_from (suc j) ss) (omega arith) (whole (suc j) ss),
)

-- ---- tasks that have a row

abbrev pub Has : ℕ → Rows → Type 0
Has k [] = ⊥
Has k (r ∷ rs) = (r.0 ≡ k) ⊎ Has k rs

has_left : (k : ℕ) (xs ys : Rows) → Has k xs → Has k (xs ++ ys)
has_left k [] ys h = absurd h
has_left k (x ∷ xs) ys (inl e) = inl e
has_left k (x ∷ xs) ys (inr h) = inr (has_left k xs ys h)

has_right : (k : ℕ) (xs ys : Rows) → Has k ys → Has k (xs ++ ys)
has_right k [] ys h = h
has_right k (x ∷ xs) ys h = inr (has_right k xs ys h)

abbrev pub EachHas : List ℕ → Rows → Type 0
EachHas [] rs = Unit {0}
EachHas (k ∷ ks) rs = Has k rs × EachHas ks rs

each_left : (ks : List ℕ) (xs ys : Rows) → EachHas ks xs → EachHas ks (xs ++ ys)
each_left [] xs ys h = tt
each_left (k ∷ ks) xs ys h = (has_left k xs ys h.0, each_left ks xs ys h.1)

each_right : (ks : List ℕ) (xs ys : Rows) → EachHas ks ys → EachHas ks (xs ++ ys)
each_right [] xs ys h = tt
each_right (k ∷ ks) xs ys h = (has_right k xs ys h.0, each_right ks xs ys h.1)

each_both : (ks js : List ℕ) (rs : Rows) → EachHas ks rs → EachHas js rs → EachHas (ks ++ js) rs
each_both [] js rs h i = i
each_both (k ∷ ks) js rs h i = (h.0, each_both ks js rs h.1 i)

looked : (w rs : Rows) (k : ℕ) → Holds w rs → Has k rs → state_of k w ≡ state_of k rs
looked w [] k h i = absurd i
looked w (r ∷ rs) k h i = go (looked w rs k h.1) (r.0 == k) refl i
  where
    go : (Has k rs → state_of k w ≡ state_of k rs) → (b : Bool) → (r.0 == k) ≡ b → (r.0 ≡ k) ⊎ Has k rs
        → state_of k w ≡ (if r.0 == k then r.1 else state_of k rs)
    go later true e j = ap (λ n. state_of n w) (sym (eqb-true r.0 k e))
        ∙ (h.0 ∙ sym (ap (λ b. if b then r.1 else state_of k rs) e))
    go later false e (inl same) = absurd (let bad : true ≡ false = sym (eq-eqb r.0 k same) ∙ e in cc)
    go later false e (inr j) = later j ∙ sym (ap (λ b. if b then r.1 else state_of k rs) e)

pub same_states : (w rs : Rows) (ks : List ℕ) → Holds w rs → EachHas ks rs → with_states w ks ≡ with_states rs ks
same_states w rs [] h i = refl
same_states w rs (k ∷ ks) h i = λ j. (k, looked w rs k h i.0 j) ∷ same_states w rs ks h i.1 j

-- ---- flows

abbrev pub came : Flow → ℕ → Came
came (skip f) d = Skip d
came (raised f) d = Raise d
came x d = Value

by_outcome : (k : ℕ) (o : Outcome) → after Value k (Some o) ≡ came (passed_on (Some o)) k
by_outcome k (Success n) = refl
by_outcome k (Failure f) = refl

pub fine_passed : (d : ℕ) (s : State) → blamed_for d (passed_on s) ≡ d
fine_passed d None = refl
fine_passed d (Some (Success n)) = refl
fine_passed d (Some (Failure f)) = refl

front : (n : ℤ) (d : ℕ) (y : Flow) → came (in_front n y) (blamed_for d (in_front n y)) ≡ came y (blamed_for d y)
front n d nothing = refl
front n d (num m) = refl
front n d (list ns) = refl
front n d (id k) = refl
front n d (skip f) = refl
front n d (raised f) = refl

gathering : (d : ℕ) (es : Rows) → first_failed es ≡ came (gathered es) (blamed_for d (gathered es))
gathering d [] = refl
gathering d ((k, Some (Success n)) ∷ es) = gathering d es ∙ sym (front n d (gathered es))
gathering d ((k, Some (Failure f)) ∷ es) = refl
gathering d ((k, None) ∷ es) = gathering d es

came_out : (x : Flow) (d : ℕ) (es : Rows) → blamed_for d x ≡ d
    → into_body (came x d) es ≡ came (group_value x es) (blamed_for d (group_value x es))
came_out nothing d es f = gathering d es
came_out (num n) d es f = gathering d es
came_out (list ns) d es f = gathering d es
came_out (id k) d es f = gathering d es
came_out (skip g) d es f = refl
came_out (raised g) d [] f = ap Raise (sym f)
came_out (raised g) d (e ∷ es) f = gathering d (e ∷ es)

pub fine_out : (d : ℕ) (y : Flow) → blamed_for (blamed_for d y) y ≡ blamed_for d y
fine_out d nothing = refl
fine_out d (num m) = refl
fine_out d (list ns) = refl
fine_out d (id k) = refl
fine_out d (skip f) = refl
fine_out d (raised (fault.Plain kind)) = refl
fine_out d (raised (fault.Chord k w)) = refl

-- ---- callbacks

-- what a callback is evaluated with is no exception
abbrev pub IsNoFault : Option Flow → Type 0
IsNoFault None = Unit {0}
IsNoFault (Some (skip f)) = ⊥
IsNoFault (Some (raised f)) = ⊥
IsNoFault (Some x) = Unit {0}

pub links_get : (s : State) → IsNoFault (to_links s)
links_get None = tt
links_get (Some (Success n)) = tt
links_get (Some (Failure f)) = tt

pub errbacks_get : (k : ℕ) (x : Option Flow) (s : State) → IsNoFault (to_errbacks k x s)
errbacks_get k (Some (skip f)) s = tt
errbacks_get k x (Some (Failure f)) = tt
errbacks_get k x s = tt

module _ (behaviour : Behaviour) where
  called : (call : Call) (x : Option Flow) (d : ℕ) → IsNoFault x → fate_by Value (state behaviour call x) ≡ fate d x
  called call None d i = refl
  called call (Some nothing) d i = refl
  called call (Some (num n)) d i = refl
  called call (Some (list ns)) d i = refl
  called call (Some (id k)) d i = refl
  called call (Some (skip f)) d i = absurd i
  called call (Some (raised f)) d i = absurd i

  fate_came : (call : Call) (x : Flow) (d : ℕ) → fate_by (came x d) (state behaviour call (Some x)) ≡ fate d (Some x)
  fate_came call nothing d = refl
  fate_came call (num n) d = refl
  fate_came call (list ns) d = refl
  fate_came call (id k) d = refl
  fate_came call (skip f) d = refl
  fate_came call (raised f) d = refl

  mutual
    callback_right : (w : Rows) (t : Task) (x : Option Flow) (d : ℕ) → IsNoFault x → Holds w (task_rows behaviour t x)
        → seen_task w t Value ≡ task_fates behaviour t x d
    callback_right w (task k call ls es) x d i h =
        let s : State = state behaviour call x in
        let own : fate_by Value (state_of k w) ≡ fate d x = ap (fate_by Value) h.0 ∙ called call x d i in
        let links : seen_callbacks w ls ≡ tasks_fates behaviour ls (to_links s) d =
        callbacks_right w ls (to_links s) d (links_get s)
        (holds_left w (tasks_rows behaviour ls (to_links s)) (tasks_rows behaviour es (to_errbacks k x s)) h.1)
        in
        let errbacks : seen_callbacks w es ≡ tasks_fates behaviour es (to_errbacks k x s) d =
        callbacks_right w es (to_errbacks k x s) d (errbacks_get k x s)
        (holds_right w (tasks_rows behaviour ls (to_links s)) (tasks_rows behaviour es (to_errbacks k x s)) h.1)
        in
        λ j. (k, own j) ∷ links j ++ errbacks j

    pub callbacks_right : (w : Rows) (ts : Tasks) (x : Option Flow) (d : ℕ) → IsNoFault x
        → Holds w (tasks_rows behaviour ts x)
        → seen_callbacks w ts ≡ tasks_fates behaviour ts x d
    callbacks_right w no_tasks x d i h = refl
    callbacks_right w (and_task t ts) x d i h =
        let first : seen_task w t Value ≡ task_fates behaviour t x d =
        callback_right w t x d i (holds_left w (task_rows behaviour t x) (tasks_rows behaviour ts x) h)
        in
        let rest : seen_callbacks w ts ≡ tasks_fates behaviour ts x d =
        callbacks_right w ts x d i (holds_right w (task_rows behaviour t x) (tasks_rows behaviour ts x) h)
        in
        λ j. first j ++ rest j

  -- ---- a task of a line

  task_right : (w : Rows) (t : Task) (x : Flow) (d : ℕ) → Holds w (task_rows behaviour t (Some x))
      → seen_task w t (came x d) ≡ task_fates behaviour t (Some x) d
  task_right w (task k call ls es) x d h =
      let s : State = state behaviour call (Some x) in
      let own : fate_by (came x d) (state_of k w) ≡ fate d (Some x) = ap (fate_by (came x d)) h.0
      ∙ fate_came call x d in
      let links : seen_callbacks w ls ≡ tasks_fates behaviour ls (to_links s) d =
      callbacks_right w ls (to_links s) d (links_get s)
      (holds_left w (tasks_rows behaviour ls (to_links s)) (tasks_rows behaviour es (to_errbacks k (Some x) s)) h.1)
      in
      let errbacks : seen_callbacks w es ≡ tasks_fates behaviour es (to_errbacks k (Some x) s) d =
      callbacks_right w es (to_errbacks k (Some x) s) d (errbacks_get k (Some x) s)
      (holds_right w (tasks_rows behaviour ls (to_links s)) (tasks_rows behaviour es (to_errbacks k (Some x) s)) h.1)
      in
      λ j. (k, own j) ∷ links j ++ errbacks j

  after_came : (k : ℕ) (call : Call) (x : Flow) (d : ℕ)
      → after (came x d) k (state behaviour call (Some x)) ≡ came (passed_on (state behaviour call (Some x)))
      (blamed_behind k d x)
  after_came k call nothing d = by_outcome k _
  after_came k call (num n) d = by_outcome k _
  after_came k call (list ns) d = by_outcome k _
  after_came k call (id j) d = by_outcome k _
  after_came k call (skip f) d = refl
  after_came k call (raised f) d = refl

  -- ---- the last tasks of a line have rows

  abbrev pub line_rows : Line → Flow → Rows
  line_rows l x = (eval_chain behaviour (elements_of l) x).rows

  abbrev pub all_rows : Lines → Flow → Rows
  all_rows ms x = member_rows behaviour (members_of ms) x

  mutual
    ends_there : (l : Line) (x : Flow) → EachHas (ends_of l) (line_rows l x)
    ends_there stop x = tt
    ends_there (step (task k call ls es) stop) x = (inl refl, tt)
    ends_there (step t (step u l)) x =
        each_right (ends_of (step u l)) (task_meaning behaviour t x).rows _
        (ends_there (step u l) (task_meaning behaviour t x).out)
    ends_there (step t (group_end g ms)) x =
        each_right (all_ends_of ms) (task_meaning behaviour t x).rows _
        (ends_there (group_end g ms) (task_meaning behaviour t x).out)
    ends_there (step t (chord_end g ms b)) x =
        each_right (ends_of b) (task_meaning behaviour t x).rows _
        (ends_there (chord_end g ms b) (task_meaning behaviour t x).out)
    ends_there (group_end g ms) x = each_left (all_ends_of ms) (all_rows ms x) [] (members_there ms x)
    ends_there (chord_end g ms b) x =
        each_left (ends_of b) (all_rows ms x ++ line_rows b (header_out behaviour ms x)) []
        (each_right (ends_of b) (all_rows ms x) (line_rows b (header_out behaviour ms x))
        (ends_there b (header_out behaviour ms x)))

    pub members_there : (ms : Lines) (x : Flow) → EachHas (all_ends_of ms) (all_rows ms x)
    members_there no_lines x = tt
    members_there (and_line m ms) x =
        each_both (ends_of m) (all_ends_of ms) (line_rows m x ++ all_rows ms x)
        (each_left (ends_of m) (line_rows m x) (all_rows ms x) (ends_there m x))
        (each_right (all_ends_of ms) (line_rows m x) (all_rows ms x) (members_there ms x))

  -- ---- lines

  module _ (table : ℕ → List ℕ) where
    mutual
      line_right : (w : Rows) (l : Line) (x : Flow) (d low high : ℕ) → LineIn table l low high → Holds w (line_rows l x)
          → blamed_for d x ≡ d
          → seen w table l (came x d) ≡ line_fates behaviour l x d
      line_right w stop x d low high i h f = refl
      line_right w (step (task k call ls es) rest) x d low high (middle, i, j) h f =
          let t : Task = task k call ls es in
          let s : State = state behaviour call (Some x) in
          let out : Flow = passed_on s in
          let blamed : ℕ = blamed_behind k d x in
          let next : after (came x d) k (state_of k w) ≡ came out blamed = ap (after (came x d) k) h.0
          ∙ after_came k call x d in
          let first : seen_task w t (came x d) ≡ task_fates behaviour t (Some x) d =
          task_right w t x d (holds_left w (task_rows behaviour t (Some x)) (line_rows rest out) h)
          in
          let later : seen w table rest (came out blamed) ≡ line_fates behaviour rest out blamed =
          line_right w rest out blamed middle high j (holds_right w (task_rows behaviour t (Some x))
          (line_rows rest out) h) (fine_passed blamed s)
          in
          ap (λ c. seen_task w t (came x d) ++ seen w table rest c) next ∙ (λ n. first n ++ later n)
      line_right w (group_end g ms) x d low high i h f =
          members_right w ms x d low high i.0 (holds_left w (all_rows ms x) [] h) f
      line_right w (chord_end g ms b) x d low high (middle, i, j, e) h f =
          let out : Flow = header_out behaviour ms x in
          let all : Holds w (all_rows ms x ++ line_rows b out) = holds_left w (all_rows ms x ++ line_rows b out) [] h in
          let of_header : Holds w (all_rows ms x) = holds_left w (all_rows ms x) (line_rows b out) all in
          let ends : with_states w (table g) ≡ with_states (all_rows ms x) (all_ends (members_of ms)) =
          ap (with_states w) e ∙ (same_states w (all_rows ms x) (all_ends_of ms) of_header (members_there ms x)
          ∙ ap (with_states (all_rows ms x)) (ends_of_tree (group_end g ms)))
          in
          let next : into_body (came x d) (with_states w (table g)) ≡ came out (blamed_for d out) =
          ap (into_body (came x d)) ends ∙ came_out x d (with_states (all_rows ms x) (all_ends (members_of ms))) f
          in
          let first : seen_all w table ms (came x d) ≡ lines_fates behaviour ms x d =
          members_right w ms x d low middle i of_header f in
          let later : seen w table b (came out (blamed_for d out)) ≡ line_fates behaviour b out (blamed_for d out) =
          line_right w b out (blamed_for d out) middle high j (holds_right w (all_rows ms x) (line_rows b out) all)
          (fine_out d out)
          in
          ap (λ c. seen_all w table ms (came x d) ++ seen w table b c) next ∙ (λ n. first n ++ later n)

      members_right : (w : Rows) (ms : Lines) (x : Flow) (d low high : ℕ) → LinesIn table ms low high
          → Holds w (all_rows ms x) → blamed_for d x ≡ d
          → seen_all w table ms (came x d) ≡ lines_fates behaviour ms x d
      members_right w no_lines x d low high i h f = refl
      members_right w (and_line m ms) x d low high (middle, i, e, j) h f =
          let first : seen w table m (came x d) ≡ line_fates behaviour m x d =
          line_right w m x d low middle i (holds_left w (line_rows m x) (all_rows ms x) h) f
          in
          let later : seen_all w table ms (came x d) ≡ lines_fates behaviour ms x d =
          members_right w ms x d middle high j (holds_right w (line_rows m x) (all_rows ms x) h) f
          in
          λ n. first n ++ later n

  -- the rows of a plan are in it
  plan_rows : (l : Line) → IsPlan l → rows_from 1 (states behaviour (tree_of l)) ≡ line_rows l nothing
  plan_rows l p =
      let tree : tree_of l ≡ numbered (tree_of l) = ap tree_of (sym p.numbered) ∙ tree_numbered l in
      ap (λ t. rows_from 1 (states behaviour t)) tree ∙
      (states_whole behaviour (tree_of l) ∙ ap (λ t. (eval behaviour t nothing).rows) (sym tree))

  pub plan_holds : (l : Line) → IsPlan l → Holds (line_rows l nothing) (line_rows l nothing)
  plan_holds l p = subst (λ rs. Holds rs rs) (plan_rows l p) (whole 1 (states behaviour (tree_of l)))

  pub plan_right : (l : Line) (rows : List State) → IsPlan l → LineIn (members l) l 1 (1 + count_line l)
      → rows ≡ states behaviour (tree_of l)
      → seen (rows_from 1 rows) (members l) l Value ≡ fates behaviour l
  plan_right l rows p i e =
      let w : Rows = rows_from 1 rows in
      let same : w ≡ line_rows l nothing = ap (rows_from 1) e ∙ plan_rows l p in
      line_right (members l) w l nothing 0 1 (1 + count_line l) i (subst (λ rs. Holds w rs) same (whole 1 rows)) refl
