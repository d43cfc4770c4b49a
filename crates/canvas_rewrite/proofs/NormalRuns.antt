-- The normal line of a canvas that passed every check is runnable, and numbering a tree changes nothing of it.
use Rattle.std.proofs.Common.{◌≡◌, ◌≤◌, ◌∙◌, ◌+◌, ◌||◌, ℕ, Bool, true, false, if◌then◌else◌, max, nat_lt, Option, Some, None, refl, sym, ap, subst, arith}
use Rattle.std.proofs.lemmas.Bool.{or_parts, or_from, ltb-false}
use Rattle.canvas_values.specs.declared.fault.SigFault.{SigFault}
use Rattle.canvas_values.specs.declared.fault.SigFault.TheVariants.{NestedGroup, TooDeep, TooMany}
use Rattle.canvas_semantics.specs.Tree.{Task, task, Tasks, no_tasks, and_task, Tree, one, chain, group, chord, Trees, no_trees, and_tree, IsFull, AreFull, ends_in_group, last_in_group, count, count_all, count_task, count_tasks, count_groups, count_all_groups, number, number_all, number_task, number_tasks, numbered}
use Rattle.canvas_semantics.specs.Bounds.{nests_group, some_nests_group, some_ends_in_group, is_too_deep, is_too_many, most_tasks, most_groups, most_nesting, most_reach}
use Rattle.canvas_semantics.specs.Nesting.{nesting}
use Rattle.canvas_semantics.specs.NormalLine.{onto, all_onto, normal_all, normal}
use Rattle.canvas_semantics.specs.Reach.{reach, line_reach, members_reach, task_reach, tasks_reach}
use Rattle.canvas_values.specs.Writable.{IsCanvas}
use Rattle.canvas_values.proofs.Fits.{call_fine, TaskFits, TasksFit, TreeFits, TreesFit, canvas_fits, canvas_within}
use Rattle.canvas_semantics.specs.SameMeaning.{IsSame}
use Rattle.canvas_rewrite.specs.Runnable.{TaskSound, TasksSound, IsSound, AreSound, IsRunnable}
use Rattle.canvas_semantics.proofs.NormalEnds.{in_group_onto}
use Rattle.canvas_semantics.proofs.NumberLemmas.{count_normal_tree, groups_normal_tree, full_number, same}

-- ---- no chain of a normal line is empty

are_full : (ts : Trees) → IsFull (chain ts) → AreFull ts
are_full no_trees h = absurd h
are_full (and_tree t ts) h = h

mutual
  full_onto : (t : Tree) (after : Trees) → IsFull t → AreFull after → IsFull (chain (onto t after))
  full_onto (one t) after h f = (tt, f)
  full_onto (chain no_trees) after h f = absurd h
  full_onto (chain (and_tree t ts)) after h f = full_onto t (all_onto ts after) h.0 (full_all ts after h.1 f)
  full_onto (group g ms) no_trees h f = (full_normal ms h, tt)
  full_onto (group g ms) (and_tree u us) h f = ((full_normal ms h, f), tt)
  full_onto (chord g ms b) after h f = ((full_normal ms h.0, full_onto b after h.1 f), tt)

  full_all : (ts after : Trees) → AreFull ts → AreFull after → AreFull (all_onto ts after)
  full_all no_trees after h f = f
  full_all (and_tree t ts) after h f = are_full (onto t (all_onto ts after)) (full_onto t (all_onto ts after) h.0 (full_all ts after h.1 f))

  full_normal : (ms : Trees) → AreFull ms → AreFull (normal_all ms)
  full_normal no_trees h = tt
  full_normal (and_tree t ts) h = (full_onto t no_trees h.0 tt, full_normal ts h.1)

-- ---- members end as they did

ends_normal : (ms : Trees) → AreFull ms → some_ends_in_group (normal_all ms) ≡ some_ends_in_group ms
ends_normal no_trees h = refl
ends_normal (and_tree t ts) h =
    ap (λ b. b || some_ends_in_group (normal_all ts)) (in_group_onto t no_trees h.0) ∙ ap (λ b. ends_in_group t || b) (ends_normal ts h.1)

mutual
  nests_onto : (t : Tree) (after : Trees) → IsFull t → nests_group t ≡ false → some_nests_group after ≡ false → some_nests_group (onto t after) ≡ false
  nests_onto (one t) after h n f = f
  nests_onto (chain no_trees) after h n f = absurd h
  nests_onto (chain (and_tree t ts)) after h n f = nests_all (and_tree t ts) after h n f
  nests_onto (group g ms) no_trees h n f =
      let p = or_parts _ _ n in or_from _ _ (or_from _ _ (ends_normal ms h ∙ p.0) (nests_normal ms h p.1)) refl
  nests_onto (group g ms) (and_tree u us) h n f =
      let p = or_parts _ _ n in or_from _ _ (or_from _ _ (or_from _ _ (ends_normal ms h ∙ p.0) (nests_normal ms h p.1)) f) refl
  nests_onto (chord g ms b) after h n f =
      let p = or_parts _ _ n in
      let q = or_parts _ _ p.0 in
      or_from _ _ (or_from _ _ (or_from _ _ (ends_normal ms h.0 ∙ q.0) (nests_normal ms h.0 q.1)) (nests_onto b after h.1 p.1 f)) refl

  nests_all : (ts after : Trees) → AreFull ts → some_nests_group ts ≡ false → some_nests_group after ≡ false → some_nests_group (all_onto ts after) ≡ false
  nests_all no_trees after h n f = f
  nests_all (and_tree t ts) after h n f = let p = or_parts _ _ n in nests_onto t (all_onto ts after) h.0 p.0 (nests_all ts after h.1 p.1 f)

  nests_normal : (ms : Trees) → AreFull ms → some_nests_group ms ≡ false → some_nests_group (normal_all ms) ≡ false
  nests_normal no_trees h n = refl
  nests_normal (and_tree t ts) h n = let p = or_parts _ _ n in or_from _ _ (nests_onto t no_trees h.0 p.0 refl) (nests_normal ts h.1 p.1)

-- ---- calls stay as they were

mutual
  task_sound : (t : Task) → TaskFits t → TaskSound t
  task_sound (task k call ls es) h = (call_fine call h.1, h.1.ordered, tasks_sound ls h.2, tasks_sound es h.3)

  tasks_sound : (ts : Tasks) → TasksFit ts → TasksSound ts
  tasks_sound no_tasks h = tt
  tasks_sound (and_task t ts) h = (task_sound t h.0, tasks_sound ts h.1)

mutual
  fits_sound : (t : Tree) → TreeFits t → IsSound t × IsFull t
  fits_sound (one t) h = (task_sound t h, tt)
  fits_sound (chain no_trees) h = absurd h
  fits_sound (chain (and_tree t ts)) h =
      let p = fits_sound t h.0 in let q = all_fit_sound ts h.1 in ((p.0, q.0), (p.1, q.1))
  fits_sound (group g ms) h = all_fit_sound ms h.1
  fits_sound (chord g ms b) h =
      let p = all_fit_sound ms h.1 in let q = fits_sound b h.2 in ((p.0, q.0), (p.1, q.1))

  all_fit_sound : (ts : Trees) → TreesFit ts → AreSound ts × AreFull ts
  all_fit_sound no_trees h = (tt, tt)
  all_fit_sound (and_tree t ts) h = let p = fits_sound t h.0 in let q = all_fit_sound ts h.1 in ((p.0, q.0), (p.1, q.1))

mutual
  sound_onto : (t : Tree) (after : Trees) → IsSound t → AreSound after → AreSound (onto t after)
  sound_onto (one t) after h f = (h, f)
  sound_onto (chain ts) after h f = sound_all ts after h f
  sound_onto (group g ms) no_trees h f = (sound_normal ms h, tt)
  sound_onto (group g ms) (and_tree u us) h f = ((sound_normal ms h, f), tt)
  sound_onto (chord g ms b) after h f = ((sound_normal ms h.0, sound_onto b after h.1 f), tt)

  sound_all : (ts after : Trees) → AreSound ts → AreSound after → AreSound (all_onto ts after)
  sound_all no_trees after h f = f
  sound_all (and_tree t ts) after h f = sound_onto t (all_onto ts after) h.0 (sound_all ts after h.1 f)

  sound_normal : (ms : Trees) → AreSound ms → AreSound (normal_all ms)
  sound_normal no_trees h = tt
  sound_normal (and_tree t ts) h = (sound_onto t no_trees h.0 tt, sound_normal ts h.1)

-- ---- the limits

-- a choice that gives none, at its test
passes : (b : Bool) (e : SigFault) (o : Option SigFault) → (if b then Some e else o) ≡ None → (b ≡ false) × (o ≡ None)
passes true e o h = cc
passes false e o h = (refl, h)

pub runs : (c : Tree) → IsCanvas c → IsRunnable (normal c)
runs c h =
    let parts_of = fits_sound c (canvas_fits c h) in
    let full : IsFull c = parts_of.1 in
    let nested = passes (nests_group c) NestedGroup _ (canvas_within c h) in
    let deep = passes (is_too_deep c) TooDeep _ nested.1 in
    let many = passes (is_too_many c) TooMany None deep.1 in
    let parts = or_parts (nat_lt most_nesting (nesting c)) (nat_lt most_reach (reach 0 (normal c))) deep.0 in
    let counts = or_parts (nat_lt most_tasks (count c)) (nat_lt most_groups (count_groups c)) many.0 in
    let tasks : count c ≤ most_tasks = ltb-false _ _ counts.0 in
    let groups : count_groups c ≤ most_groups = ltb-false _ _ counts.1 in
    record {
      sound = sound_onto c no_trees parts_of.0 tt;
      full = full_onto c no_trees full tt;
      members_end = nests_onto c no_trees full nested.0 refl;
      few_tasks = omega (arith, count_normal_tree c);
      few_groups = omega (arith, groups_normal_tree c);
      near = ltb-false _ _ parts.1;
    }

-- a canvas and its normal line mean the same
pub same_line : (c s : Tree) → IsCanvas c → s ≡ normal c → IsSame s c × IsRunnable s
same_line c s h e =
    (subst (λ t. IsSame t c) (sym e) (same c (fits_sound c (canvas_fits c h)).1), subst IsRunnable (sym e) (runs c h))

-- ---- numbers change nothing of it

mutual
  sound_number_task : (t : Task) (k : ℕ) → TaskSound t → TaskSound (number_task k t)
  sound_number_task (task _ call ls es) k h = (h.0, h.1, sound_number_tasks ls _ h.2, sound_number_tasks es _ h.3)

  sound_number_tasks : (ts : Tasks) (k : ℕ) → TasksSound ts → TasksSound (number_tasks k ts)
  sound_number_tasks no_tasks k h = tt
  sound_number_tasks (and_task t ts) k h = (sound_number_task t k h.0, sound_number_tasks ts _ h.1)

mutual
  sound_number : (t : Tree) (k g : ℕ) → IsSound t → IsSound (number k g t)
  sound_number (one t) k g h = sound_number_task t k h
  sound_number (chain ts) k g h = sound_number_all ts k g h
  sound_number (group _ ms) k g h = sound_number_all ms _ _ h
  sound_number (chord _ ms b) k g h = (sound_number_all ms _ _ h.0, sound_number b _ _ h.1)

  sound_number_all : (ts : Trees) (k g : ℕ) → AreSound ts → AreSound (number_all k g ts)
  sound_number_all no_trees k g h = tt
  sound_number_all (and_tree t ts) k g h = (sound_number t _ _ h.0, sound_number_all ts _ _ h.1)

mutual
  in_group_number : (t : Tree) (k g : ℕ) → ends_in_group (number k g t) ≡ ends_in_group t
  in_group_number (one t) k g = refl
  in_group_number (chain ts) k g = last_in_group_number ts k g
  in_group_number (group _ ms) k g = refl
  in_group_number (chord _ h b) k g = in_group_number b _ _

  last_in_group_number : (ts : Trees) (k g : ℕ) → last_in_group (number_all k g ts) ≡ last_in_group ts
  last_in_group_number no_trees k g = refl
  last_in_group_number (and_tree t no_trees) k g = in_group_number t k g
  last_in_group_number (and_tree t (and_tree u us)) k g = last_in_group_number (and_tree u us) _ _

some_in_group_number : (ts : Trees) (k g : ℕ) → some_ends_in_group (number_all k g ts) ≡ some_ends_in_group ts
some_in_group_number no_trees k g = refl
some_in_group_number (and_tree t ts) k g =
    ap (λ b. b || some_ends_in_group (number_all (k + count t) (g + count_groups t) ts)) (in_group_number t k g)
    ∙ ap (λ b. ends_in_group t || b) (some_in_group_number ts _ _)

mutual
  nests_number : (t : Tree) (k g : ℕ) → nests_group (number k g t) ≡ nests_group t
  nests_number (one t) k g = refl
  nests_number (chain ts) k g = some_nests_number ts k g
  nests_number (group _ ms) k g = λ i. some_in_group_number ms k (g + 1) i || some_nests_number ms k (g + 1) i
  nests_number (chord _ h b) k g =
      λ i. some_in_group_number h k (g + 1) i || some_nests_number h k (g + 1) i || nests_number b (k + count_all h) (g + 1 + count_all_groups h) i

  some_nests_number : (ts : Trees) (k g : ℕ) → some_nests_group (number_all k g ts) ≡ some_nests_group ts
  some_nests_number no_trees k g = refl
  some_nests_number (and_tree t ts) k g = λ i. nests_number t k g i || some_nests_number ts (k + count t) (g + count_groups t) i

mutual
  count_number_task : (t : Task) (k : ℕ) → count_task (number_task k t) ≡ count_task t
  count_number_task (task _ call ls es) k = omega (arith, count_number_tasks ls (k + 1), count_number_tasks es (k + 1 + count_tasks ls))

  count_number_tasks : (ts : Tasks) (k : ℕ) → count_tasks (number_tasks k ts) ≡ count_tasks ts
  count_number_tasks no_tasks k = refl
  count_number_tasks (and_task t ts) k = omega (arith, count_number_task t k, count_number_tasks ts (k + count_task t))

mutual
  count_number : (t : Tree) (k g : ℕ) → count (number k g t) ≡ count t
  count_number (one t) k g = count_number_task t k
  count_number (chain ts) k g = count_number_all ts k g
  count_number (group _ ms) k g = count_number_all ms k (g + 1)
  count_number (chord _ h b) k g = omega (arith, count_number_all h k (g + 1), count_number b (k + count_all h) (g + 1 + count_all_groups h))

  count_number_all : (ts : Trees) (k g : ℕ) → count_all (number_all k g ts) ≡ count_all ts
  count_number_all no_trees k g = refl
  count_number_all (and_tree t ts) k g = omega (arith, count_number t k g, count_number_all ts (k + count t) (g + count_groups t))

mutual
  groups_number : (t : Tree) (k g : ℕ) → count_groups (number k g t) ≡ count_groups t
  groups_number (one t) k g = refl
  groups_number (chain ts) k g = groups_number_all ts k g
  groups_number (group _ ms) k g = omega (arith, groups_number_all ms k (g + 1))
  groups_number (chord _ h b) k g = omega (arith, groups_number_all h k (g + 1), groups_number b (k + count_all h) (g + 1 + count_all_groups h))

  groups_number_all : (ts : Trees) (k g : ℕ) → count_all_groups (number_all k g ts) ≡ count_all_groups ts
  groups_number_all no_trees k g = refl
  groups_number_all (and_tree t ts) k g = omega (arith, groups_number t k g, groups_number_all ts (k + count t) (g + count_groups t))

mutual
  reach_number_task : (c : ℕ) (t : Task) (k : ℕ) → task_reach c (number_task k t) ≡ task_reach c t
  reach_number_task c (task _ call ls es) k =
      λ i. 1 + max c (max (reach_number_tasks ls (k + 1) i) (reach_number_tasks es (k + 1 + count_tasks ls) i))

  reach_number_tasks : (ts : Tasks) (k : ℕ) → tasks_reach (number_tasks k ts) ≡ tasks_reach ts
  reach_number_tasks no_tasks k = refl
  reach_number_tasks (and_task t ts) k = λ i. max (reach_number_task 0 t k i) (reach_number_tasks ts (k + count_task t) i)

mutual
  reach_number : (c : ℕ) (t : Tree) (k g : ℕ) → reach c (number k g t) ≡ reach c t
  reach_number c (one t) k g = reach_number_task c t k
  reach_number c (chain no_trees) k g = refl
  reach_number c (chain (and_tree t no_trees)) k g = reach_number c t k g
  reach_number c (chain (and_tree t (and_tree u us))) k g =
      λ i. 1 + max (reach_number 0 t k g i) (reach_number_line c (and_tree u us) (k + count t) (g + count_groups t) i)
  reach_number c (group _ ms) k g = λ i. 1 + reach_number_members 0 ms k (g + 1) i
  reach_number c (chord _ h b) k g =
      let b_same = reach_number c b (k + count_all h) (g + 1 + count_all_groups h) in
      ap (λ n. 1 + max n (members_reach n (number_all k (g + 1) h))) b_same ∙ ap (λ n. 1 + max (reach c b) n) (reach_number_members (reach c b) h k (g + 1))

  reach_number_line : (c : ℕ) (ts : Trees) (k g : ℕ) → line_reach c (number_all k g ts) ≡ line_reach c ts
  reach_number_line c no_trees k g = refl
  reach_number_line c (and_tree t no_trees) k g = reach_number c t k g
  reach_number_line c (and_tree t (and_tree u us)) k g =
      λ i. max (reach_number 0 t k g i) (reach_number_line c (and_tree u us) (k + count t) (g + count_groups t) i)

  reach_number_members : (c : ℕ) (ts : Trees) (k g : ℕ) → members_reach c (number_all k g ts) ≡ members_reach c ts
  reach_number_members c no_trees k g = refl
  reach_number_members c (and_tree t ts) k g = λ i. max (reach_number c t k g i) (reach_number_members c ts (k + count t) (g + count_groups t) i)

pub runs_numbered : (t : Tree) → IsRunnable t → IsRunnable (numbered t)
runs_numbered t r = record {
  sound = sound_number t 1 1 r.sound;
  full = full_number t 1 1 r.full;
  members_end = nests_number t 1 1 ∙ r.members_end;
  few_tasks = omega (arith, count_number t 1 1, r.few_tasks);
  few_groups = omega (arith, groups_number t 1 1, r.few_groups);
  near = omega (arith, reach_number 0 t 1 1, r.near);
}
