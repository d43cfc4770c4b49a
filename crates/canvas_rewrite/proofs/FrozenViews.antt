-- The data of lines and of frozen lines, from that of their parts; and how numbers go through lists.
use Rattle.std.proofs.Common.{◌≡◌, ◌∙◌, ℕ, ◌+◌, Bool, List, [], ◌∷◌, map, Some, None, Box, Global, refl, sym, ap, rules, arith}
use Rattle.canvas_task.specs.declared.arg.Arg.{Arg}
use Rattle.canvas_semantics.specs.Tree.{Call, Task, count_task, count_tasks, number_task, number_tasks}
use Rattle.canvas_values.specs.SignatureView.{task_view, tasks_of}
use Rattle.canvas_values.proofs.Views.{task_seen}
use Rattle.canvas_values.specs.declared.task_sig.TaskSig.{TaskSig, out-TaskSig}
use Rattle.canvas_semantics.specs.Line.{Line, stop, group_end, chord_end, count_line, count_lines, line_groups, lines_groups, number_line, number_lines}
use Rattle.canvas_semantics.specs.PlacedLine.{PTask, p_task, p_stop, p_group_end, p_chord_end, and_p_task, and_p_line, p_step, bare_task, bare_tasks, bare, all_bare, p_nowhere}
use Rattle.canvas_rewrite.specs.FrozenView.{steps_onto, lines_of, line_of, end_of, p_tasks_of, p_steps, p_lines_of, p_task_view, p_line_view, p_end_view}
use Rattle.canvas_semantics.specs.steps.Numbering.{tasks_from, tasks_in, lines_from, lines_count, lines_group_count}
use Rattle.canvas_rewrite.specs.declared.line.Line as line
use Rattle.canvas_rewrite.specs.declared.line.Line.{out-Line}
use Rattle.canvas_rewrite.specs.declared.line.LineEnd.{LineEnd, out-LineEnd}
use Rattle.canvas_rewrite.specs.declared.frozen.Carried as block
use Rattle.canvas_rewrite.specs.declared.frozen.FrozenTask.{FrozenTask, roll-FrozenTask}
use Rattle.canvas_rewrite.specs.declared.frozen.FrozenLine.{FrozenLine, roll-FrozenLine}
use Rattle.canvas_rewrite.specs.declared.frozen.FrozenEnd.{FrozenEnd, roll-FrozenEnd}

-- ---- views

pub line_none : (l : line.Line) → (out-Line l).tail ≡ None → line_of l ≡ steps_onto (map task_view (out-Line l).tasks) stop
line_none l e = search (rules, line.the_lemmas)

pub line_some : (l : line.Line) (b : Box LineEnd Global) → (out-Line l).tail ≡ Some b
    → line_of l ≡ steps_onto (map task_view (out-Line l).tasks) (end_of b.value)
line_some l b e = search (rules, line.the_lemmas)

pub end_none : (e : LineEnd) → (out-LineEnd e).body ≡ None → end_of e ≡ group_end 0 (lines_of (map line_of (out-LineEnd e).members))
end_none e h = search (rules, line.the_lemmas)

pub end_some : (e : LineEnd) (b : line.Line) → (out-LineEnd e).body ≡ Some b
    → end_of e ≡ chord_end 0 (lines_of (map line_of (out-LineEnd e).members)) (line_of b)
end_some e b h = search (rules, line.the_lemmas)

pub made_task : (k : ℕ) (n : List ℕ) (a : List Arg) (w : List (List ℕ × Arg)) (i : Bool) (ls es : List FrozenTask)
    → p_task_view (roll-FrozenTask (record { no = k; name = n; args = a; kwargs = w; immutable = i; links = ls; errbacks = es; place = None }))
    ≡ p_task k (record { name = n; args = a; kwargs = w; immutable = i }) (p_tasks_of (map p_task_view ls)) (p_tasks_of (map p_task_view es)) p_nowhere
made_task k n a w i ls es = search (rules, block.the_lemmas)

pub made_line : (ts : List FrozenTask) → p_line_view (roll-FrozenLine (record { tasks = ts; tail = None })) ≡ p_steps (map p_task_view ts) p_stop
made_line ts = search (rules, block.the_lemmas)

pub made_longer : (ts : List FrozenTask) (b : Box FrozenEnd Global)
    → p_line_view (roll-FrozenLine (record { tasks = ts; tail = Some b })) ≡ p_steps (map p_task_view ts) (p_end_view b.value)
made_longer ts b = search (rules, block.the_lemmas)

pub made_group : (g : ℕ) (ms : List FrozenLine)
    → p_end_view (roll-FrozenEnd (record { group = g; members = ms; body = None })) ≡ p_group_end g (p_lines_of (map p_line_view ms))
made_group g ms = search (rules, block.the_lemmas)

pub made_chord : (g : ℕ) (ms : List FrozenLine) (b : FrozenLine)
    → p_end_view (roll-FrozenEnd (record { group = g; members = ms; body = Some b })) ≡ p_chord_end g (p_lines_of (map p_line_view ms)) (p_line_view b)
made_chord g ms b = search (rules, block.the_lemmas)

-- ---- numbers through lists

pub in_tasks : (ts : List Task) → count_tasks (tasks_of ts) ≡ tasks_in ts
in_tasks [] = refl
in_tasks (t ∷ ts) = ap (λ n. count_task t + n) (in_tasks ts)

pub tasks_numbered : (k : ℕ) (ts : List Task) → p_tasks_of (tasks_from k ts) ≡ bare_tasks (number_tasks k (tasks_of ts))
tasks_numbered k [] = refl
tasks_numbered k (t ∷ ts) = ap (and_p_task (bare_task (number_task k t))) (tasks_numbered (k + count_task t) ts)

pub in_lines : (ls : List Line) → count_lines (lines_of ls) ≡ lines_count ls
in_lines [] = refl
in_lines (l ∷ ls) = ap (λ n. count_line l + n) (in_lines ls)

pub in_entries : (ls : List Line) → lines_groups (lines_of ls) ≡ lines_group_count ls
in_entries [] = refl
in_entries (l ∷ ls) = ap (λ n. line_groups l + n) (in_entries ls)

pub lines_numbered : (k g : ℕ) (ls : List Line) → p_lines_of (lines_from k g ls) ≡ all_bare (number_lines k g (lines_of ls))
lines_numbered k g [] = refl
lines_numbered k g (l ∷ ls) = ap (and_p_line (bare (number_line k g l))) (lines_numbered (k + count_line l) (g + line_groups l) ls)

pub count_steps : (ts : List Task) (l : Line) → count_line (steps_onto ts l) ≡ tasks_in ts + count_line l
count_steps [] l = omega arith
count_steps (t ∷ ts) l = omega (arith, count_steps ts l)

pub groups_steps : (ts : List Task) (l : Line) → line_groups (steps_onto ts l) ≡ line_groups l
groups_steps [] l = refl
groups_steps (t ∷ ts) l = groups_steps ts l

pub steps_numbered : (k g : ℕ) (ts : List Task) (l : Line)
    → bare (number_line k g (steps_onto ts l)) ≡ p_steps (tasks_from k ts) (bare (number_line (k + tasks_in ts) g l))
steps_numbered k g [] l = ap (λ n. bare (number_line n g l)) (omega arith)
steps_numbered k g (t ∷ ts) l =
    ap (p_step (bare_task (number_task k t))) (steps_numbered (k + count_task t) g ts l
    ∙ ap (λ n. p_steps (tasks_from (k + count_task t) ts) (bare (number_line n g l))) (omega arith))

-- ---- the task's own numbers

pub task_counted : (s : TaskSig)
    → count_task (task_view s) ≡ 1 + tasks_in (map task_view (out-TaskSig s).links) + tasks_in (map task_view (out-TaskSig s).errbacks)
task_counted s =
    let ls : List Task = map task_view (out-TaskSig s).links in
    let es : List Task = map task_view (out-TaskSig s).errbacks in
    ap count_task (task_seen s) ∙ ap (λ n. 1 + n + count_tasks (tasks_of es)) (in_tasks ls) ∙ ap (λ n. 1 + tasks_in ls + n) (in_tasks es)

pub task_numbered : (s : TaskSig) (k : ℕ) → bare_task (number_task k (task_view s))
    ≡ p_task k (record { name = (out-TaskSig s).name; args = (out-TaskSig s).args; kwargs = (out-TaskSig s).kwargs; immutable = (out-TaskSig s).immutable })
    (p_tasks_of (tasks_from (k + 1) (map task_view (out-TaskSig s).links)))
    (p_tasks_of (tasks_from (k + 1 + tasks_in (map task_view (out-TaskSig s).links)) (map task_view (out-TaskSig s).errbacks))) p_nowhere
task_numbered s k =
    let ls : List Task = map task_view (out-TaskSig s).links in
    let es : List Task = map task_view (out-TaskSig s).errbacks in
    let c : Call = record {
      name = (out-TaskSig s).name;
      args = (out-TaskSig s).args;
      kwargs = (out-TaskSig s).kwargs;
      immutable =
          (out-TaskSig s).immutable;
    } in
    ap (λ t. bare_task (number_task k t)) (task_seen s)
    ∙ ap (λ n. p_task k c (bare_tasks (number_tasks (k + 1) (tasks_of ls))) (bare_tasks (number_tasks (k + 1 + n) (tasks_of es))) p_nowhere) (in_tasks ls)
    ∙ ap (λ ps. p_task k c ps (bare_tasks (number_tasks (k + 1 + tasks_in ls) (tasks_of es))) p_nowhere) (sym (tasks_numbered (k + 1) ls))
    ∙ ap (λ ps. p_task k c (p_tasks_of (tasks_from (k + 1) ls)) ps p_nowhere) (sym (tasks_numbered (k + 1 + tasks_in ls) es))

-- a frozen task with the fields of a signature, its callbacks numbered one after another
pub made_as : (s : TaskSig) (k next number : ℕ) (n : List ℕ) (a : List Arg) (w : List (List ℕ × Arg)) (ls es : List FrozenTask) (links errbacks : List TaskSig)
    → number ≡ k → n ≡ (out-TaskSig s).name → a ≡ (out-TaskSig s).args → w ≡ (out-TaskSig s).kwargs
    → map p_task_view ls ≡ tasks_from (k + 1) (map task_view links) → links ≡ (out-TaskSig s).links → next ≡ k + 1 + tasks_in (map task_view links)
    → map p_task_view es ≡ tasks_from next (map task_view errbacks) → errbacks ≡ (out-TaskSig s).errbacks
    → p_task_view (roll-FrozenTask
    (record { no = number; name = n; args = a; kwargs = w; immutable = (out-TaskSig s).immutable; links = ls; errbacks = es; place = None }))
    ≡ bare_task (number_task k (task_view s))
made_as s k next number n a w ls es links errbacks hk hn ha hw hl hl' hnext he he' =
    let i : Bool = (out-TaskSig s).immutable in
    let there : tasks_in (map task_view links) ≡ tasks_in (map task_view (out-TaskSig s).links) = ap (λ ss. tasks_in (map task_view ss)) hl' in
    let Goal : ℕ → List ℕ → List Arg → List (List ℕ × Arg) → List PTask → List PTask → PTask =
    λ k' n' a' w' ls' es'. p_task k' (record { name = n'; args = a'; kwargs = w'; immutable = i }) (p_tasks_of ls') (p_tasks_of es') p_nowhere in
    let links_same : map p_task_view ls ≡ tasks_from (k + 1) (map task_view (out-TaskSig s).links) =
    hl ∙ ap (λ ss. tasks_from (k + 1) (map task_view ss)) hl' in
    let errbacks_same : map p_task_view es ≡ tasks_from (k + 1 + tasks_in (map task_view (out-TaskSig s).links)) (map task_view (out-TaskSig s).errbacks) =
    he ∙ ap (λ m. tasks_from m (map task_view errbacks)) (hnext ∙ ap (λ m. k + 1 + m) there)
    ∙ ap (λ ss. tasks_from (k + 1 + tasks_in (map task_view (out-TaskSig s).links)) (map task_view ss)) he' in
    made_task number n a w i ls es
    ∙ ap (λ x. Goal x n a w (map p_task_view ls) (map p_task_view es)) hk ∙ ap (λ x. Goal k x a w (map p_task_view ls) (map p_task_view es)) hn
    ∙ ap (λ x. Goal k (out-TaskSig s).name x w (map p_task_view ls) (map p_task_view es)) ha
    ∙ ap (λ x. Goal k (out-TaskSig s).name (out-TaskSig s).args x (map p_task_view ls) (map p_task_view es)) hw
    ∙ ap (λ x. Goal k (out-TaskSig s).name (out-TaskSig s).args (out-TaskSig s).kwargs x (map p_task_view es)) links_same
    ∙ ap (λ x. Goal k (out-TaskSig s).name (out-TaskSig s).args (out-TaskSig s).kwargs
    (tasks_from (k + 1) (map task_view (out-TaskSig s).links)) x) errbacks_same
    ∙ sym (task_numbered s k)
