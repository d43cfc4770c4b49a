-- The line of a plan can be in a message.
use Rattle.std.proofs.Common.{◌≡◌, ◌∙◌, ℕ, suc, ◌≤◌, ◌<◌, ◌+◌, ◌^◌, max, arith, Bool, true, false, List, [], ◌++◌, None, refl, ap, ap₂}
use Rattle.std.specs.Prelude.{◌&&◌, not, nat_lt, nat_le}
use Rattle.std.proofs.lemmas.Bool.{lt-ltb, le-leb}
use Rattle.canvas_semantics.specs.Reach as tree
use Rattle.canvas_semantics.specs.Tree.{Task, task, Tasks, no_tasks, and_task, chain, IsFull, AreFull, count_task}
use Rattle.canvas_values.proofs.Fits.{call_fits}
use Rattle.canvas_semantics.specs.FileOrder.{TaskIn, TasksIn, EndsInTask, LineIn, LinesIn}
use Rattle.canvas_semantics.specs.Line.{Line, stop, step, group_end, chord_end, Lines, no_lines, and_line, elements_of, members_of, count_line, count_lines, line_groups, lines_groups, number_line, number_lines, in_group}
use Rattle.canvas_semantics.specs.PlacedLine.{PTask, p_nowhere, PLine, p_stop, p_step, p_group_end, p_chord_end, bare, all_bare, bare_task, bare_tasks, strip}
use Rattle.canvas_rewrite.specs.Planned.{IsPlan}
use Rattle.canvas_rewrite.specs.Runnable.{TaskSound, TasksSound, AreSound}
use Rattle.canvas_semantics.proofs.Numbered.{count_elements, groups_elements}
use Rattle.canvas_effects.specs.Carrying.{is_whole}
use Rattle.canvas_envelope.specs.Fits.{is_task_number, call_ok, how_many, most_members, task_ok, tasks_ok, line_ok, members_ok, task_reach, tasks_reach, line_reach, greatest_reach, members_reach}
use Rattle.canvas_effects.specs.Placing.{end_place}
use Rattle.canvas_envelope.specs.Content.{Content, number_of}
use Rattle.canvas_effects.specs.Effects.{first_messages}
use Rattle.canvas_effects.specs.Flowing.{no_input}
use Rattle.canvas_effects.specs.Ordered.{in_order}
use Rattle.canvas_effects.specs.steps.Walks.{started}
use Rattle.canvas_envelope.specs.steps.Parts.{is_stop}
use Rattle.canvas_effects.proofs.FitsOn.{all_true, call_is}

-- ---- reaches are those of the tree

mutual
  task_same : (c : ℕ) (t : Task) → task_reach c (bare_task t) ≡ tree.task_reach c t
  task_same c (task k call ls es) = omega (arith, tasks_same ls, tasks_same es)

  tasks_same : (ts : Tasks) → tasks_reach (bare_tasks ts) ≡ tree.tasks_reach ts
  tasks_same no_tasks = refl
  tasks_same (and_task t ts) = ap₂ max (task_same 0 t) (tasks_same ts)

mutual
  line_same : (c : ℕ) (l : Line) → line_reach c (bare l) ≡ tree.reach c (chain (elements_of l))
  line_same c stop = refl
  line_same c (step t stop) = task_same c t
  line_same c (step t (step u l)) = ap₂ (λ a b. 1 + max a b) (task_same 0 t) (greatest_same c (step u l))
  line_same c (step t (group_end g ms)) = ap₂ (λ a b. 1 + max a b) (task_same 0 t) (greatest_same c (group_end g ms))
  line_same c (step t (chord_end g ms b)) = ap₂ (λ a b. 1 + max a b) (task_same 0 t) (greatest_same c (chord_end g ms b))
  line_same c (group_end g ms) = ap (λ n. 1 + n) (members_same 0 ms)
  line_same c (chord_end g ms b) =
      ap (λ r. 1 + max r (members_reach r (all_bare ms))) (line_same c b)
      ∙ ap (λ n. 1 + max (tree.reach c (chain (elements_of b))) n) (members_same (tree.reach c (chain (elements_of b))) ms)

  greatest_same : (c : ℕ) (l : Line) → greatest_reach c (bare l) ≡ tree.line_reach c (elements_of l)
  greatest_same c stop = refl
  greatest_same c (step t stop) = task_same c t
  greatest_same c (step t (step u l)) = ap₂ max (task_same 0 t) (greatest_same c (step u l))
  greatest_same c (step t (group_end g ms)) = ap₂ max (task_same 0 t) (greatest_same c (group_end g ms))
  greatest_same c (step t (chord_end g ms b)) = ap₂ max (task_same 0 t) (greatest_same c (chord_end g ms b))
  greatest_same c (group_end g ms) = ap (λ n. 1 + n) (members_same 0 ms)
  greatest_same c (chord_end g ms b) =
      ap (λ r. 1 + max r (members_reach r (all_bare ms))) (line_same c b)
      ∙ ap (λ n. 1 + max (tree.reach c (chain (elements_of b))) n) (members_same (tree.reach c (chain (elements_of b))) ms)

  members_same : (c : ℕ) (ms : Lines) → members_reach c (all_bare ms) ≡ tree.members_reach c (members_of ms)
  members_same c no_lines = refl
  members_same c (and_line m ms) = ap₂ max (line_same c m) (members_same c ms)

-- ---- numbers

mutual
  task_span : (t : Task) (low high : ℕ) → TaskIn t low high → low < high
  task_span (task k call ls es) low high h = omega (arith, h.0, tasks_span ls (suc k) h.1 h.2, tasks_span es h.1 high h.3)

  pub tasks_span : (ts : Tasks) (low high : ℕ) → TasksIn ts low high → low ≤ high
  tasks_span no_tasks low high h = h
  tasks_span (and_task t ts) low high h = omega (arith, task_span t low h.0 h.1, tasks_span ts h.0 high h.2)

module _ (table : ℕ → List ℕ) where
  mutual
    pub line_span : (l : Line) (low high : ℕ) → LineIn table l low high → low ≤ high
    line_span stop low high h = h
    line_span (step t l) low high h = omega (arith, task_span t low h.0 h.1, line_span l h.0 high h.2)
    line_span (group_end g ms) low high h = omega (arith, lines_span ms low high h.0)
    line_span (chord_end g ms b) low high h = omega (arith, lines_span ms low h.0 h.1, line_span b h.0 high h.2)

    -- a line that ends in a task has one
    member_span : (l : Line) (low high : ℕ) → LineIn table l low high → EndsInTask false l → low < high
    member_span stop low high h ends = absurd cc
    member_span (step t l) low high h ends = omega (arith, task_span t low h.0 h.1, line_span l h.0 high h.2)
    member_span (group_end g ms) low high h ends = elim ends [ ]
    member_span (chord_end g ms b) low high h ends = omega (arith, lines_span ms low h.0 h.1, member_span b h.0 high h.2 ends)

    lines_span : (ms : Lines) (low high : ℕ) → LinesIn table ms low high → how_many (all_bare ms) + low ≤ high
    lines_span no_lines low high h = omega (arith, h)
    lines_span (and_line m ms) low high h = omega (arith, member_span m low h.0 h.1 h.2, lines_span ms h.0 high h.3)

ends_apart : (behind : Bool) (l : Line) → EndsInTask behind l → in_group (strip (bare l)) ≡ false
ends_apart behind stop h = refl
ends_apart behind (step t l) h = ends_apart true l h
ends_apart behind (group_end g ms) h = elim h [ ]
ends_apart behind (chord_end g ms b) h = ends_apart false b h

number_fits : (k : ℕ) → 1 ≤ k → k < 1025 → is_task_number k ≡ true
number_fits k low high = all_true (nat_lt 0 k) (nat_lt k (2 ^ 32)) (lt-ltb 0 k (omega (arith, low))) (lt-ltb k (2 ^ 32) (omega (arith, high)))

mutual
  bare_task_ok : (last : Bool) (t : Task) (low high : ℕ) → TaskIn t low high → 1 ≤ low → high ≤ 1025 → TaskSound t → task_ok last (bare_task t) ≡ true
  bare_task_ok last (task k call ls es) low high h from up sound =
      let middle : ℕ = h.1 in
      let one_span : suc k ≤ middle = tasks_span ls (suc k) middle h.2 in
      let two_span : middle ≤ high = tasks_span es middle high h.3 in
      all_true (is_task_number k && call_ok call && tasks_ok (bare_tasks ls) && tasks_ok (bare_tasks es)) true
      (all_true (is_task_number k && call_ok call && tasks_ok (bare_tasks ls)) (tasks_ok (bare_tasks es))
      (all_true (is_task_number k && call_ok call) (tasks_ok (bare_tasks ls))
      (all_true (is_task_number k) (call_ok call) (number_fits k (omega (arith, h.0, from)) (omega (arith, one_span, two_span, up)))
      (call_is call (call_fits call sound.0 sound.1)))
      (bare_tasks_ok ls (suc k) middle h.2 (omega arith) (omega (arith, two_span, up)) sound.2))
      (bare_tasks_ok es middle high h.3 (omega (arith, one_span)) up sound.3)) refl

  bare_tasks_ok : (ts : Tasks) (low high : ℕ) → TasksIn ts low high → 1 ≤ low → high ≤ 1025 → TasksSound ts → tasks_ok (bare_tasks ts) ≡ true
  bare_tasks_ok no_tasks low high h from up sound = refl
  bare_tasks_ok (and_task t ts) low high h from up sound =
      all_true (task_ok false (bare_task t)) (tasks_ok (bare_tasks ts))
      (bare_task_ok false t low h.0 h.1 from (omega (arith, tasks_span ts h.0 high h.2, up)) sound.0)
      (bare_tasks_ok ts h.0 high h.2 (omega (arith, task_span t low h.0 h.1, from)) up sound.1)

step_holds : (last : Bool) (t : PTask) (l : PLine) → is_stop l ≡ false → task_ok false t ≡ true → line_ok last l ≡ true → line_ok last (p_step t l) ≡ true
step_holds last t p_stop h a b = absurd cc
step_holds last t (p_step u l) h a b = all_true (task_ok false t) (line_ok last (p_step u l)) a b
step_holds last t (p_group_end g ms) h a b = all_true (task_ok false t) (line_ok last (p_group_end g ms)) a b
step_holds last t (p_chord_end g ms c) h a b = all_true (task_ok false t) (line_ok last (p_chord_end g ms c)) a b

module _ (table : ℕ → List ℕ) where
  mutual
    bare_ok : (last : Bool) (l : Line) (low high k g : ℕ) → LineIn table l low high → 1 ≤ low → high ≤ 1025 → number_line k g l ≡ l → 1 ≤ g
        → g + line_groups l ≤ 1025
        → AreSound (elements_of l) → IsFull (chain (elements_of l)) → line_ok last (bare l) ≡ true
    bare_ok last stop low high k g h from up same gs room sound full = elim full [ ]
    bare_ok last (step t stop) low high k g h from up same gs room sound full =
        bare_task_ok last t low h.0 h.1 from (omega (arith, h.2, up)) sound.0
    bare_ok last (step t (step u l)) low high k g h from up same gs room sound full =
        let later : number_line (k + count_task t) g (step u l) ≡ step u l = cc in
        step_holds last (bare_task t) (bare (step u l)) refl
        (bare_task_ok false t low h.0 h.1 from (omega (arith, line_span table (step u l) h.0 high h.2, up)) sound.0)
        (bare_ok last (step u l) h.0 high (k + count_task t) g h.2 (omega (arith, task_span t low h.0 h.1, from)) up later gs room sound.1 full.1)
    bare_ok last (step t (group_end j ms)) low high k g h from up same gs room sound full =
        let later : number_line (k + count_task t) g (group_end j ms) ≡ group_end j ms = cc in
        step_holds last (bare_task t) (bare (group_end j ms)) refl
        (bare_task_ok false t low h.0 h.1 from (omega (arith, line_span table (group_end j ms) h.0 high h.2, up)) sound.0)
        (bare_ok last (group_end j ms) h.0 high (k + count_task t) g h.2 (omega (arith, task_span t low h.0 h.1, from)) up later gs room sound.1 full.1)
    bare_ok last (step t (chord_end j ms b)) low high k g h from up same gs room sound full =
        let later : number_line (k + count_task t) g (chord_end j ms b) ≡ chord_end j ms b = cc in
        step_holds last (bare_task t) (bare (chord_end j ms b)) refl
        (bare_task_ok false t low h.0 h.1 from (omega (arith, line_span table (chord_end j ms b) h.0 high h.2, up)) sound.0)
        (bare_ok last (chord_end j ms b) h.0 high (k + count_task t) g h.2 (omega (arith, task_span t low h.0 h.1, from)) up later gs room sound.1 full.1)
    bare_ok last (group_end j ms) low high k g h from up same gs room sound full =
        let its : g ≡ j = cc in
        let inside : number_lines k (g + 1) ms ≡ ms = cc in
        all_true (is_task_number j) (members_ok (all_bare ms)) (number_fits j (omega (arith, its, gs)) (omega (arith, its, room)))
        (all_bare_ok ms low high k (g + 1) h.0 from up inside (omega arith) (omega (arith, room)) sound.0 full.0)
    bare_ok last (chord_end j ms b) low high k g h from up same gs room sound full =
        let its : g ≡ j = cc in
        let inside : number_lines k (g + 1) ms ≡ ms = cc in
        let later : number_line (k + count_lines ms) (g + 1 + lines_groups ms) b ≡ b = cc in
        let head_span = lines_span table ms low h.0 h.1 in
        let body_span : h.0 ≤ high = line_span table b h.0 high h.2 in
        all_true (is_task_number j && nat_le (how_many (all_bare ms)) most_members && members_ok (all_bare ms)) (line_ok last (bare b))
        (all_true (is_task_number j && nat_le (how_many (all_bare ms)) most_members) (members_ok (all_bare ms))
        (all_true (is_task_number j) (nat_le (how_many (all_bare ms)) most_members) (number_fits j (omega (arith, its, gs)) (omega (arith, its, room)))
        (le-leb (how_many (all_bare ms)) most_members (omega (arith, head_span, body_span, from, up))))
        (all_bare_ok ms low h.0 k (g + 1) h.1 from (omega (arith, body_span, up)) inside (omega arith) (omega (arith, room)) sound.0.0 full.0.0))
        (bare_ok last b h.0 high (k + count_lines ms) (g + 1 + lines_groups ms) h.2 (omega (arith, head_span, from)) up later (omega arith)
        (omega (arith, room)) sound.0.1 full.0.1)

    all_bare_ok : (ms : Lines) (low high k g : ℕ) → LinesIn table ms low high → 1 ≤ low → high ≤ 1025 → number_lines k g ms ≡ ms → 1 ≤ g
        → g + lines_groups ms ≤ 1025
        → AreSound (members_of ms) → AreFull (members_of ms) → members_ok (all_bare ms) ≡ true
    all_bare_ok no_lines low high k g h from up same gs room sound full = refl
    all_bare_ok (and_line m ms) low high k g h from up same gs room sound full =
        let first : number_line k g m ≡ m = cc in
        let others : number_lines (k + count_line m) (g + line_groups m) ms ≡ ms = cc in
        let span : how_many (all_bare ms) + h.0 ≤ high = lines_span table ms h.0 high h.3 in
        all_true (line_ok false (bare m) && not (in_group (strip (bare m)))) (members_ok (all_bare ms))
        (all_true (line_ok false (bare m)) (not (in_group (strip (bare m))))
        (bare_ok false m low h.0 k g h.1 from (omega (arith, span, up)) first gs (omega (arith, room)) sound.0 full.0)
        (ap not (ends_apart false m h.2)))
        (all_bare_ok ms h.0 high (k + count_line m) (g + line_groups m) h.3 (omega (arith, line_span table m low h.0 h.1, from)) up others (omega (arith, gs))
        (omega (arith, room)) sound.1 full.1)

-- ---- a plan's line

pub plan_stands : (table : ℕ → List ℕ) (l : Line) → IsPlan l → LineIn table l 1 (1 + count_line l) → is_whole (bare l) ≡ true
plan_stands table l plan order =
    all_true (line_ok true (bare l)) (nat_le (line_reach 0 (bare l)) 32)
    (bare_ok table true l 1 (1 + count_line l) 1 1 order (omega arith) (omega (arith, plan.runnable.few_tasks, count_elements l)) plan.numbered (omega arith)
    (omega (arith, plan.runnable.few_groups, groups_elements l)) plan.runnable.sound plan.runnable.full)
    (le-leb (line_reach 0 (bare l)) 32 (omega (arith, plan.runnable.near, line_same 0 l)))

pub bare_place : (l : Line) → end_place (bare l) ≡ p_nowhere
bare_place stop = refl
bare_place (step (task k call ls es) stop) = refl
bare_place (step t (step u l)) = bare_place (step u l)
bare_place (step t (group_end g ms)) = refl
bare_place (step t (chord_end g ms b)) = bare_place (chord_end g ms b)
bare_place (group_end g ms) = refl
bare_place (chord_end g ms b) = bare_place b

pub first_is : (l : Line) (v : PLine) (old made : List Content) → v ≡ bare l → old ≡ [] → made ≡ old ++ started v no_input (end_place v) None
    → in_order (λ m. number_of m.own) made ≡ first_messages l
first_is l v old made same none h =
    ap (in_order (λ m. number_of m.own))
    (h ∙ ap (λ xs. xs ++ started v no_input (end_place v) None) none ∙ ap (λ z. started z no_input (end_place z) None) same
    ∙ ap (λ q. started (bare l) no_input q None) (bare_place l))
