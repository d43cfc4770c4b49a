-- The fates and the fronts of a plan's tasks are at the indices of their numbers.
use Rattle.std.proofs.Common.{◌≡◌, ◌∙◌, ℕ, zero, suc, ◌+◌, ◌≤◌, true, List, [], ◌∷◌, ◌++◌, length, length-append, slice_get, Option, Some, None, option_map, refl, sym, ap, subst, inl, inr, arith}
use Rattle.canvas_task.specs.Apply.{Behaviour}
use Rattle.canvas_semantics.specs.Evaluation.{Flow, state, task_meaning, to_errbacks, to_links}
use Rattle.canvas_semantics.specs.FileOrder.{TaskIn, TasksIn}
use Rattle.canvas_semantics.specs.Line.{Line, stop, step, group_end, chord_end, Lines, no_lines, and_line, count_line, count_lines, no_of}
use Rattle.canvas_semantics.specs.Tree.{Task, task, Tasks, no_tasks, and_task, count_task, count_tasks}
use Rattle.canvas_history.specs.Lists.{In}
use Rattle.canvas_report.specs.Fates.{Fates}
use Rattle.canvas_report.specs.declared.fate.Fate.{Fate}
use Rattle.canvas_report.specs.declared.fate.Fate.TheVariants.{Ran, Skipped, Idle}
use Rattle.canvas_ran.specs.Ran.{blamed_behind, blamed_for, header_out, line_fates, lines_fates, task_fates, tasks_fates}
use Rattle.canvas_runs.proofs.Plans.FileOrder.{LineIn, LinesIn}
use Rattle.canvas_runs.proofs.Runs.Finish.{at_in}
use Rattle.canvas_ran.specs.Fronts.{behind, beyond, front_of, has_run, known_front, line_fronts, lines_end, lines_fronts, task_fronts, tasks_fronts, was_called}
use Rattle.canvas_ran.specs.declared.calls.front.Front.{Front}

-- ---- tasks that are numbered in the order of the file have as many numbers as they need

mutual
  pub task_room : (t : Task) (low high : ℕ) → TaskIn t low high → low + count_task t ≤ high
  task_room (task k call ls es) low high (from, middle, a, b) =
      let x = tasks_room ls (suc k) middle a in let y = tasks_room es middle high b in omega arith

  pub tasks_room : (ts : Tasks) (low high : ℕ) → TasksIn ts low high → low + count_tasks ts ≤ high
  tasks_room no_tasks low high n = omega (arith, n)
  tasks_room (and_task t ts) low high (middle, a, b) =
      let x = task_room t low middle a in let y = tasks_room ts middle high b in omega arith

module _ (members : ℕ → List ℕ) where
  mutual
    pub line_room : (l : Line) (low high : ℕ) → LineIn members l low high → low + count_line l ≤ high
    line_room stop low high n = omega (arith, n)
    line_room (step t rest) low high (middle, a, b) =
        let x = task_room t low middle a in let y = line_room rest middle high b in omega arith
    line_room (group_end g ms) low high n = lines_room ms low high n.0
    line_room (chord_end g ms body) low high (middle, a, b, e) =
        let x = lines_room ms low middle a in let y = line_room body middle high b in omega arith

    pub lines_room : (ms : Lines) (low high : ℕ) → LinesIn members ms low high → low + count_lines ms ≤ high
    lines_room no_lines low high n = omega (arith, n)
    lines_room (and_line m ms) low high (middle, a, e, b) =
        let x = line_room m low middle a in let y = lines_room ms middle high b in omega arith

-- ---- the fates of a plan

-- the first is that of this task, and so on
abbrev pub Numbered : ℕ → Fates → Type 0
Numbered low [] = Unit {0}
Numbered low (e ∷ es) = (e.0 ≡ low) × Numbered (suc low) es

numbered_append : (low : ℕ) (xs ys : Fates) → Numbered low xs → Numbered (low + length xs) ys → Numbered low (xs ++ ys)
numbered_append low [] ys a b = subst (λ n. Numbered n ys) (omega arith) b
numbered_append low (x ∷ xs) ys a b = (a.0, numbered_append (suc low) xs ys a.1 (subst (λ n. Numbered n ys) (omega arith) b))

-- n fates, numbered from low on
abbrev Counted : ℕ → Fates → ℕ → Type 0
Counted low fs n = Numbered low fs × (length fs ≡ n)

counted_both : (low middle n m : ℕ) (xs ys : Fates) → middle ≡ low + n → Counted low xs n → Counted middle ys m → Counted low (xs ++ ys) (n + m)
counted_both low middle n m xs ys at (a, x) (b, y) = (
  numbered_append low xs ys a (subst (λ k. Numbered k ys) (omega (arith, at, x)) b),
  omega (arith, length-append xs ys, x, y),
)

module _ (behaviour : Behaviour) where
  mutual
    task_counted : (t : Task) (x : Option Flow) (d low high : ℕ) → TaskIn t low high → high ≤ low + count_task t
        → Counted low (task_fates behaviour t x d) (count_task t)
    task_counted (task k call ls es) x d low high (from, middle, a, b) dense =
        let p = tasks_room ls (suc k) middle a in
        let q = tasks_room es middle high b in
        let its : k ≡ low = omega arith in
        let links = tasks_counted ls (to_links (state behaviour call x)) d (suc k) middle a (omega arith) in
        let errbacks = tasks_counted es (to_errbacks k x (state behaviour call x)) d middle high b (omega arith) in
        let both = counted_both (suc k) middle (count_tasks ls) (count_tasks es) (tasks_fates behaviour ls (to_links (state behaviour call x)) d)
        (tasks_fates behaviour es (to_errbacks k x (state behaviour call x)) d) (omega arith) links errbacks in (
          (
            its,
            subst (λ n. Numbered (suc n) (tasks_fates behaviour ls (to_links (state behaviour call x)) d
                ++ tasks_fates behaviour es (to_errbacks k x (state behaviour call x)) d)) its both.0,
          ),
          omega (arith, both.1),
        )

    tasks_counted : (ts : Tasks) (x : Option Flow) (d low high : ℕ) → TasksIn ts low high → high ≤ low + count_tasks ts
        → Counted low (tasks_fates behaviour ts x d) (count_tasks ts)
    tasks_counted no_tasks x d low high n dense = (tt, refl)
    tasks_counted (and_task t ts) x d low high (middle, a, b) dense =
        let p = task_room t low middle a in
        let q = tasks_room ts middle high b in
        counted_both low middle (count_task t) (count_tasks ts) (task_fates behaviour t x d) (tasks_fates behaviour ts x d) (omega arith)
        (task_counted t x d low middle a (omega arith)) (tasks_counted ts x d middle high b (omega arith))

  module _ (members : ℕ → List ℕ) where
    mutual
      line_counted : (l : Line) (x : Flow) (d low high : ℕ) → LineIn members l low high → high ≤ low + count_line l
          → Counted low (line_fates behaviour l x d) (count_line l)
      line_counted stop x d low high n dense = (tt, refl)
      line_counted (step t rest) x d low high (middle, a, b) dense =
          let p = task_room t low middle a in
          let q = line_room members rest middle high b in
          counted_both low middle (count_task t) (count_line rest) (task_fates behaviour t (Some x) d)
          (line_fates behaviour rest (task_meaning behaviour t x).out (blamed_behind (no_of t) d x)) (omega arith)
          (task_counted t (Some x) d low middle a (omega arith))
          (line_counted rest (task_meaning behaviour t x).out (blamed_behind (no_of t) d x) middle high b (omega arith))
      line_counted (group_end g ms) x d low high n dense = lines_counted ms x d low high n.0 dense
      line_counted (chord_end g ms body) x d low high (middle, a, b, e) dense =
          let p = lines_room members ms low middle a in
          let q = line_room members body middle high b in
          counted_both low middle (count_lines ms) (count_line body) (lines_fates behaviour ms x d)
          (line_fates behaviour body (header_out behaviour ms x) (blamed_for d (header_out behaviour ms x))) (omega arith)
          (lines_counted ms x d low middle a (omega arith))
          (line_counted body (header_out behaviour ms x) (blamed_for d (header_out behaviour ms x)) middle high b (omega arith))

      lines_counted : (ms : Lines) (x : Flow) (d low high : ℕ) → LinesIn members ms low high → high ≤ low + count_lines ms
          → Counted low (lines_fates behaviour ms x d) (count_lines ms)
      lines_counted no_lines x d low high n dense = (tt, refl)
      lines_counted (and_line m ms) x d low high (middle, a, e, b) dense =
          let p = line_room members m low middle a in
          let q = lines_room members ms middle high b in
          counted_both low middle (count_line m) (count_lines ms) (line_fates behaviour m x d) (lines_fates behaviour ms x d) (omega arith)
          (line_counted m x d low middle a (omega arith)) (lines_counted ms x d middle high b (omega arith))

    pub line_numbered : (l : Line) (x : Flow) (d low high : ℕ) → LineIn members l low high → high ≤ low + count_line l
        → Numbered low (line_fates behaviour l x d)
    line_numbered l x d low high n dense = (line_counted l x d low high n dense).0

ran_place : (low : ℕ) (fs : Fates) (k : ℕ) (f : Fate) → Numbered low fs → In (k, f) fs → (i : ℕ) × (k ≡ low + i) × (slice_get fs i ≡ Some (k, f))
ran_place low [] k f n i = elim i [ ]
ran_place low (e ∷ es) k f n (inl same) =
    let number : k ≡ e.0 = ap (λ q. q.0) same in
    (0, omega (arith, number, n.0), ap Some (sym same))
ran_place low (e ∷ es) k f n (inr i) = let r = ran_place (suc low) es k f n.1 i in (suc r.0, omega (arith, r.1), r.2)

number_there : (low : ℕ) (fs : Fates) (i : ℕ) (e : ℕ × Fate) → Numbered low fs → slice_get fs i ≡ Some e → e.0 ≡ low + i
number_there low [] i e n s = absurd (cc)
number_there low (f ∷ fs) zero e n s =
    let same : f ≡ e = cc in
    let number : e.0 ≡ f.0 = ap (λ q. q.0) (sym same) in
    omega (arith, number, n.0)
number_there low (f ∷ fs) (suc i) e n s = let r = number_there (suc low) fs i e n.1 s in omega (arith, r)

-- a task was called just where it ran
pub ran_called : (fs : Fates) (k : ℕ) → Numbered 1 fs → In (k, Ran) fs → was_called fs k ≡ true
ran_called fs k n i =
    let r = ran_place 1 fs k Ran n i in
    let same : k ≡ suc r.0 = omega (arith, r.1) in
    subst (λ j. was_called fs j ≡ true) (sym same) (ap (λ o. has_run (option_map (λ f. f.1) o)) r.2)

ran_only : (k : ℕ) (f : Fate) (fs : Fates) → has_run (Some f) ≡ true → In (k, f) fs → In (k, Ran) fs
ran_only k Ran fs e i = i
ran_only k (Skipped d) fs e i = absurd (cc)
ran_only k Idle fs e i = absurd (cc)

pub called_ran : (fs : Fates) (k : ℕ) → Numbered 1 fs → was_called fs k ≡ true → In (k, Ran) fs
called_ran fs zero n c = absurd (cc)
called_ran fs (suc i) n c = go (slice_get fs i) refl
  where
    go : (o : Option (ℕ × Fate)) → slice_get fs i ≡ o → In (suc i, Ran) fs
    go None e = absurd (let bad : has_run (option_map (λ f. f.1) (slice_get fs i)) ≡ true = c in cc)
    go (Some x) e =
        let number = number_there 1 fs i x n e in
        let its : x.0 ≡ suc i = omega (arith, number) in
        let has : has_run (Some x.1) ≡ true = ap (λ o. has_run (option_map (λ f. f.1) o)) (sym e) ∙ c in
        ran_only (suc i) x.1 fs has (subst (λ j. In (j, x.1) fs) its (at_in i fs x e))

-- ---- the front of a task, where the first is that of the task low

abbrev pub FrontAt : List Front → (low n : ℕ) → Front → Type 0
FrontAt fs low n f = (i : ℕ) × (n ≡ low + i) × (slice_get fs i ≡ Some f)

get_left : (xs ys : List Front) (i : ℕ) (x : Front) → slice_get xs i ≡ Some x → slice_get (xs ++ ys) i ≡ Some x
get_left [] ys i x e = absurd (cc)
get_left (z ∷ xs) ys zero x e = e
get_left (z ∷ xs) ys (suc i) x e = get_left xs ys i x e

get_right : (xs ys : List Front) (i j : ℕ) (x : Front) → j ≡ length xs + i → slice_get ys i ≡ Some x → slice_get (xs ++ ys) j ≡ Some x
get_right [] ys i j x same e = subst (λ n. slice_get ys n ≡ Some x) (omega (arith, same)) e
get_right (z ∷ xs) ys i zero x same e = absurd (omega (arith, same))
get_right (z ∷ xs) ys i (suc j) x same e = get_right xs ys i j x (omega (arith, same)) e

pub front_left : (xs ys : List Front) (low n : ℕ) (f : Front) → FrontAt xs low n f → FrontAt (xs ++ ys) low n f
front_left xs ys low n f (i, number, e) = (i, number, get_left xs ys i f e)

pub front_right : (xs ys : List Front) (low middle n : ℕ) (f : Front) → middle ≡ low + length xs → FrontAt ys middle n f → FrontAt (xs ++ ys) low n f
front_right xs ys low middle n f at (i, number, e) = (length xs + i, omega (arith, at, number), get_right xs ys i (length xs + i) f refl e)

pub front_found : (fs : List Front) (n : ℕ) (f : Front) → FrontAt fs 1 n f → front_of fs n ≡ f
front_found fs n f (i, number, e) =
    let same : n ≡ suc i = omega (arith, number) in
    subst (λ k. front_of fs k ≡ f) (sym same) (ap known_front e)

module _ (fates : Fates) where
  mutual
    pub task_length : (t : Task) (f : Front) → length (task_fronts fates t f) ≡ count_task t
    task_length (task k call ls es) f =
        let x = tasks_length ls (behind fates k f) in
        let y = tasks_length es (behind fates k f) in
        omega (arith, length-append (tasks_fronts fates ls (behind fates k f)) (tasks_fronts fates es (behind fates k f)), x, y)

    pub tasks_length : (ts : Tasks) (f : Front) → length (tasks_fronts fates ts f) ≡ count_tasks ts
    tasks_length no_tasks f = refl
    tasks_length (and_task t ts) f =
        omega (arith, length-append (task_fronts fates t f) (tasks_fronts fates ts f), task_length t f, tasks_length ts f)

  mutual
    pub line_length : (l : Line) (f : Front) → length (line_fronts fates l f) ≡ count_line l
    line_length stop f = refl
    line_length (step t rest) f =
        omega (
          arith,
          length-append (task_fronts fates t f) (line_fronts fates rest (behind fates (no_of t) f)),
          task_length t f,
          line_length rest (behind fates (no_of t) f),
        )
    line_length (group_end g ms) f = lines_length ms f
    line_length (chord_end g ms body) f =
        omega (
          arith,
          length-append (lines_fronts fates ms f) (line_fronts fates body (beyond (lines_end fates ms) f)),
          lines_length ms f,
          line_length body (beyond (lines_end fates ms) f),
        )

    pub lines_length : (ms : Lines) (f : Front) → length (lines_fronts fates ms f) ≡ count_lines ms
    lines_length no_lines f = refl
    lines_length (and_line m ms) f =
        omega (arith, length-append (line_fronts fates m f) (lines_fronts fates ms f), line_length m f, lines_length ms f)
