-- Sums over the tasks of a plan, from 1 on, and which numbers tasks have.
use Rattle.std.proofs.Common.{◌≡◌, ℕ, zero, suc, ◌+◌, ◌≤◌, ◌<◌, Bool, true, false, cond, eqb, List, [], ◌∷◌, length, Option, Some, None, refl, ap, inl, inr, eq-eqb, ne_eqb, arith}
use Rattle.std.proofs.lemmas.Bool.{cases_eq}
use Rattle.canvas_task.specs.Apply.{Behaviour}
use Rattle.canvas_task.specs.declared.outcome.Outcome.{Outcome}
use Rattle.canvas_semantics.specs.Evaluation.{State, Rows, eval, nothing}
use Rattle.canvas_semantics.specs.Line.{Line, tree_of, count_line}
use Rattle.canvas_rewrite.specs.Planned.{IsPlan}
use Rattle.canvas_history.specs.Lists.{In, Each, total}
use Rattle.canvas_runs.specs.Law.{its_state}
use Rattle.canvas_runs.proofs.Laws.Facts.{p}
use Rattle.canvas_runs.proofs.Plans.Rising.{Rises, rises_span}
use Rattle.canvas_runs.proofs.Plans.StateRows.{kept, looked, line_up}
use Rattle.canvas_runs.proofs.Lists.Sums.{sum_to}

-- the sum over the numbers 1 to n
abbrev pub up : ℕ → (ℕ → ℕ) → ℕ
up zero f = 0
up (suc n) f = up n f + f (suc n)

up-both : (n : ℕ) (f g : ℕ → ℕ) → up n (λ k. f k + g k) ≡ up n f + up n g
up-both zero f g = refl
up-both (suc n) f g = let r = up-both n f g in omega (arith, r)

pub zeros : (n : ℕ) → up n (λ k. 0) ≡ 0
zeros zero = refl
zeros (suc n) = let r = zeros n in omega (arith, r)

up-few : (n : ℕ) (f g : ℕ → ℕ) → ((k : ℕ) → f k ≤ 1 + g k) → up n f ≤ n + up n g
up-few zero f g l = omega arith
up-few (suc n) f g l = let r = up-few n f g l in let h = l (suc n) in omega (arith, r, h)

bit : (b : Bool) → cond b 1 0 ≤ 1
bit true = omega arith
bit false = omega arith

pub picked : (n t : ℕ) → 1 ≤ t → t ≤ n → 1 ≤ up n (λ k. cond (eqb t k) 1 0)
picked zero t h l = absurd (omega (arith, h, l))
picked (suc n) t h l = elim (cases_eq t (suc n)) [
  | inl e ↦ let one : ◌≡◌ {A = ℕ} (cond (eqb t (suc n)) 1 0) 1 = ap (λ b. cond b 1 0) (eq-eqb t (suc n) e) in omega (arith, one)
  | inr f ↦ let r = picked n t h (omega (arith, l, f)) in omega (arith, r)
]

below : (t m : ℕ) → m < t → sum_to m (λ k. cond (eqb t k) 1 0) ≡ 0
below t zero h = ap (λ b. cond b 1 0) (ne_eqb t 0 (λ e. omega (arith, h, e)))
below t (suc m) h =
    let r = below t m (omega (arith, h)) in
    let z : ◌≡◌ {A = ℕ} (cond (eqb t (suc m)) 1 0) 0 = ap (λ b. cond b 1 0) (ne_eqb t (suc m) (λ e. omega (arith, h, e))) in
    omega (arith, r, z)

pub within : (m t : ℕ) → sum_to m (λ k. cond (eqb t k) 1 0) ≤ 1
within zero t = bit (eqb t 0)
within (suc m) t = elim (cases_eq t (suc m)) [
  | inl e ↦ let r = below t m (omega (arith, e)) in let z = bit (eqb t (suc m)) in omega (arith, r, z)
  | inr f ↦ let r = within m t in let z : ◌≡◌ {A = ℕ} (cond (eqb t (suc m)) 1 0) 0 = ap (λ b. cond b 1 0) (ne_eqb t (suc m) f) in omega (arith, r, z)
]

pub up-within : (n : ℕ) (f : ℕ → ℕ) → up n f ≤ sum_to n f
up-within zero f = omega arith
up-within (suc n) f = let r = up-within n f in omega (arith, r)

-- Where each element is of some number from 1 to n, and no number has more than one and some more, these are the elements at most.
pub spread : {A : Type 0} (w : A → ℕ) (v : ℕ → A → ℕ) (g : ℕ → ℕ) (n : ℕ) (xs : List A) → Each (λ x. w x ≤ up n (λ k. v k x)) xs
    → ((k : ℕ) → total (v k) xs ≤ 1 + g k) → total w xs ≤ n + up n g
spread {A} w v g n xs each one = let a = lower xs each in let b = up-few n (λ k. total (v k) xs) g one in omega (arith, a, b)
  where
    lower : (ys : List A) → Each (λ x. w x ≤ up n (λ k. v k x)) ys → total w ys ≤ up n (λ k. total (v k) ys)
    lower [] e = omega arith
    lower (y ∷ ys) e = let r = lower ys e.1 in omega (arith, r, e.0, up-both n (λ k. v k y) (λ k. total (v k) ys))

-- how often a number is in a list
abbrev pub times_in : ℕ → List ℕ → ℕ
times_in k ms = total (λ m. cond (eqb m k) 1 0) ms

pub all_picked : (n : ℕ) (ms : List ℕ) → Each (λ m. (1 ≤ m) × (m ≤ n)) ms → length ms ≤ up n (λ k. times_in k ms)
all_picked n [] e = omega arith
all_picked n (m ∷ ms) e =
    let r = all_picked n ms e.1 in
    let one = picked n m e.0.0 e.0.1 in
    omega (arith, r, one, up-both n (λ k. cond (eqb m k) 1 0) (λ k. times_in k ms))

-- ---- the tasks that have a state

abbrev key : ℕ × State → Option ℕ
key r = Some r.0

-- rows whose numbers rise from a bound to a bound have theirs between
row_between : (low : ℕ) (rows : Rows) (high : ℕ) → Rises key low rows high → (t : ℕ) (o : Outcome) → In (t, o) (kept rows) → (low ≤ t) × (t < high)
row_between low [] high r t o i = elim i [ ]
row_between low ((k, None) ∷ rows) high r t o i = let h = row_between (suc k) rows high r.1 t o i in (omega (arith, r.0, h.0), h.1)
row_between low ((k, Some q) ∷ rows) high r t o (inl e) =
    let tasks : t ≡ k = ap (λ (p : ℕ × Outcome). p.0) e in let span = rises_span key (suc k) rows high r.1 in
    (omega (arith, r.0, tasks), omega (arith, span, tasks))
row_between low ((k, Some q) ∷ rows) high r t o (inr i) = let h = row_between (suc k) rows high r.1 t o i in (omega (arith, r.0, h.0), h.1)

module _ (behaviour : Behaviour) (l : Line) (plan : IsPlan l) where
  pub state_task : (t : ℕ) (o : Outcome) → its_state behaviour l t ≡ Some o → (1 ≤ t) × (t ≤ count_line l)
  state_task t o e =
      let k = row_between 1 (eval behaviour (tree_of l) nothing).rows (p behaviour l plan).limit
      (line_up behaviour (p behaviour l plan).members l nothing 1 (p behaviour l plan).limit (p behaviour l plan).numbered) t o
      (looked behaviour (eval behaviour (tree_of l) nothing).rows t o e) in
      (k.0, omega (arith, k.1))
