-- A list nests within a bound where each of its elements does.
use Rattle.std.proofs.Common.{◌≡◌, ℕ, ◌≤◌, ◌↔◌, ◌+◌, ◌-◌, ◌<◌, max, Bool, true, false, IsTrue, true≢false, List, [], ◌∷◌, map, All, arith, sym, subst, ◌∙◌}
use Rattle.std.proofs.lemmas.List.Elements.{All-nil, All-cons, All-head, All-tail}
use Rattle.canvas_semantics.specs.Nesting.{nesting, all_nesting, task_nesting, tasks_nesting}
use Rattle.canvas_values.specs.SignatureView.{view, task_view, tasks_of, trees_of}
use Rattle.canvas_values.specs.declared.task_sig.TaskSig.{TaskSig}
use Rattle.canvas_values.specs.declared.node.Node.{Node}

module _ (m : ℕ) where
  abbrev Within : Node → Type 0
  Within n = nesting (view n) ≤ m

  abbrev TaskWithin : TaskSig → Type 0
  TaskWithin s = task_nesting (task_view s) ≤ m

  pub within : (ns : List Node) → All Within ns → all_nesting (trees_of (map view ns)) ≤ m
  within [] h = omega arith
  within (n ∷ ns) h = omega (arith, All-head Within n ns h, within ns (All-tail Within n ns h))

  pub all_within : (ns : List Node) → all_nesting (trees_of (map view ns)) ≤ m → All Within ns
  all_within [] h = All-nil Within
  all_within (n ∷ ns) h = All-cons Within n ns (omega arith) (all_within ns (omega arith))

  pub tasks_within : (ss : List TaskSig) → All TaskWithin ss → tasks_nesting (tasks_of (map task_view ss)) ≤ m
  tasks_within [] h = omega arith
  tasks_within (s ∷ ss) h = omega (arith, All-head TaskWithin s ss h, tasks_within ss (All-tail TaskWithin s ss h))

  pub all_tasks_within : (ss : List TaskSig) → tasks_nesting (tasks_of (map task_view ss)) ≤ m → All TaskWithin ss
  all_tasks_within [] h = All-nil TaskWithin
  all_tasks_within (s ∷ ss) h = All-cons TaskWithin s ss (omega arith) (all_tasks_within ss (omega arith))

-- ---- what a test of the parts says of the whole

-- a list a level below
pub listed : (b : Bool) (xs ns : List Node) (whole most : ℕ) → whole ≡ 1 + all_nesting (trees_of (map view ns)) → xs ≡ ns → 0 < most
    → IsTrue b ↔ All (λ n. nesting (view n) ≤ most - 1) xs → IsTrue b ↔ (whole ≤ most)
listed b xs ns whole most e same some h =
    let P : List Node → Type 0 = All (λ n. nesting (view n) ≤ most - 1) in
    (λ t. omega (arith, within (most - 1) ns (subst P same (h.0 t))), λ le. h.1 (subst P (sym same) (all_within (most - 1) ns (omega arith))))

-- two parts a level below, the second looked at where the first passes
pub both : (a b : Bool) (l r whole most : ℕ) → whole ≡ 1 + max l r → 0 < most → a ≡ true → IsTrue a ↔ (l ≤ most - 1) → IsTrue b ↔ (r ≤ most - 1)
    → IsTrue b ↔ (whole ≤ most)
both a b l r whole most e some is ha hb =
    let left = ha.0 is in
    (λ t. omega (arith, hb.0 t), λ le. hb.1 (omega arith))

pub first_fails : (a : Bool) (l r whole most : ℕ) → whole ≡ 1 + max l r → 0 < most → a ≡ false → IsTrue a ↔ (l ≤ most - 1) → IsTrue a ↔ (whole ≤ most)
first_fails a l r whole most e some is ha =
    (λ t. absurd (true≢false (sym t ∙ is)), λ le. ha.1 (omega arith))

pub of_nodes : (b : Bool) (xs ns : List Node) (m : ℕ) → xs ≡ ns → IsTrue b ↔ All (λ n. nesting (view n) ≤ m) xs
    → IsTrue b ↔ (all_nesting (trees_of (map view ns)) ≤ m)
of_nodes b xs ns m same h =
    let P : List Node → Type 0 = All (λ n. nesting (view n) ≤ m) in
    (λ t. within m ns (subst P same (h.0 t)), λ le. h.1 (subst P (sym same) (all_within m ns le)))

pub of_sigs : (b : Bool) (xs ns : List TaskSig) (m : ℕ) → xs ≡ ns → IsTrue b ↔ All (λ n. task_nesting (task_view n) ≤ m) xs
    → IsTrue b ↔ (tasks_nesting (tasks_of (map task_view ns)) ≤ m)
of_sigs b xs ns m same h =
    let P : List TaskSig → Type 0 = All (λ n. task_nesting (task_view n) ≤ m) in
    (λ t. tasks_within m ns (subst P same (h.0 t)), λ le. h.1 (subst P (sym same) (all_tasks_within m ns le)))
