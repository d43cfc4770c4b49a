-- A frozen line, made of frozen parts.
use Rattle.std.proofs.Common.{◌≡◌, ◌∙◌, ℕ, ◌+◌, List, map, Some, None, Box, Global, sym, ap}
use Rattle.canvas_values.specs.SignatureView.{task_view}
use Rattle.canvas_values.specs.declared.task_sig.TaskSig.{TaskSig}
use Rattle.canvas_semantics.specs.Line.{number_line}
use Rattle.canvas_semantics.specs.PlacedLine.{p_stop, p_group_end, p_chord_end, bare}
use Rattle.canvas_rewrite.specs.FrozenView.{line_of, end_of, p_steps, p_lines_of, p_task_view, p_line_view, p_end_view}
use Rattle.canvas_semantics.specs.steps.Numbering.{tasks_from, tasks_in, lines_from, lines_count, lines_group_count}
use Rattle.canvas_rewrite.specs.declared.line.Line as line
use Rattle.canvas_rewrite.specs.declared.line.Line.{out-Line}
use Rattle.canvas_rewrite.specs.declared.line.LineEnd.{LineEnd, out-LineEnd}
use Rattle.canvas_rewrite.specs.declared.frozen.FrozenTask.{FrozenTask}
use Rattle.canvas_rewrite.specs.declared.frozen.FrozenLine.{FrozenLine, roll-FrozenLine}
use Rattle.canvas_rewrite.specs.declared.frozen.FrozenEnd.{FrozenEnd, roll-FrozenEnd}
use Rattle.canvas_rewrite.proofs.FrozenViews.{made_line, made_longer, made_group, made_chord}
use Rattle.canvas_rewrite.proofs.FrozenLines.{numbered_none, numbered_some, end_numbered_none, end_numbered_some}

pub line_made : (l : line.Line) → (out-Line l).tail ≡ None → (k g : ℕ) (ts : List FrozenTask) (ss : List TaskSig)
    → map p_task_view ts ≡ tasks_from k (map task_view ss) → ss ≡ (out-Line l).tasks
    → p_line_view (roll-FrozenLine (record { tasks = ts; tail = None })) ≡ bare (number_line k g (line_of l))
line_made l none k g ts ss h same =
    made_line ts ∙ ap (λ ps. p_steps ps p_stop) (h ∙ ap (λ xs. tasks_from k (map task_view xs)) same) ∙ sym (numbered_none l none k g)

pub longer_made : (l : line.Line) (b : Box LineEnd Global) → (out-Line l).tail ≡ Some b
    → (k g next : ℕ) (ts : List FrozenTask) (ss : List TaskSig) (e : LineEnd) (end : FrozenEnd) (tail : Box FrozenEnd Global)
    → map p_task_view ts ≡ tasks_from k (map task_view ss) → ss ≡ (out-Line l).tasks → next ≡ k + tasks_in (map task_view ss)
    → e ≡ b.value → p_end_view end ≡ bare (number_line next g (end_of e)) → tail.value ≡ end
    → p_line_view (roll-FrozenLine (record { tasks = ts; tail = Some tail })) ≡ bare (number_line k g (line_of l))
longer_made l b some k g next ts ss e end tail h same hnext he hend htail =
    made_longer ts tail
    ∙ ap (λ ps. p_steps ps (p_end_view tail.value)) (h ∙ ap (λ xs. tasks_from k (map task_view xs)) same)
    ∙ ap (p_steps (tasks_from k (map task_view (out-Line l).tasks)))
    (ap p_end_view htail ∙ hend ∙ ap (λ x. bare (number_line next g (end_of x))) he
    ∙ ap (λ n. bare (number_line n g (end_of b.value))) (hnext ∙ ap (λ xs. k + tasks_in (map task_view xs)) same))
    ∙ sym (numbered_some l b some k g)

pub group_made : (t : LineEnd) → (out-LineEnd t).body ≡ None → (k g number : ℕ) (ls : List FrozenLine) (ms : List line.Line)
    → number ≡ g → map p_line_view ls ≡ lines_from k (g + 1) (map line_of ms) → ms ≡ (out-LineEnd t).members
    → p_end_view (roll-FrozenEnd (record { group = number; members = ls; body = None })) ≡ bare (number_line k g (end_of t))
group_made t none k g number ls ms hg h same =
    made_group number ls ∙ ap (λ n. p_group_end n (p_lines_of (map p_line_view ls))) hg
    ∙ ap (λ ps. p_group_end g (p_lines_of ps)) (h ∙ ap (λ xs. lines_from k (g + 1) (map line_of xs)) same)
    ∙ sym (end_numbered_none t none k g)

pub chord_made : (t : LineEnd) (b : line.Line) → (out-LineEnd t).body ≡ Some b
    → (k g number next next_group : ℕ) (ls : List FrozenLine) (ms : List line.Line) (body : FrozenLine)
    → number ≡ g → map p_line_view ls ≡ lines_from k (g + 1) (map line_of ms) → ms ≡ (out-LineEnd t).members
    → next ≡ k + lines_count (map line_of ms) → next_group ≡ g + 1 + lines_group_count (map line_of ms)
    → p_line_view body ≡ bare (number_line next next_group (line_of b))
    → p_end_view (roll-FrozenEnd (record { group = number; members = ls; body = Some body })) ≡ bare (number_line k g (end_of t))
chord_made t b some k g number next next_group ls ms body hg h same hnext hentries hbody =
    let xs : List line.Line = (out-LineEnd t).members in
    made_chord number ls body
    ∙ ap (λ n. p_chord_end n (p_lines_of (map p_line_view ls)) (p_line_view body)) hg
    ∙ ap (λ ps. p_chord_end g (p_lines_of ps) (p_line_view body)) (h ∙ ap (λ ys. lines_from k (g + 1) (map line_of ys)) same)
    ∙ ap (p_chord_end g (p_lines_of (lines_from k (g + 1) (map line_of xs))))
    (hbody
    ∙ ap (λ n. bare (number_line n next_group (line_of b))) (hnext ∙ ap (λ ys. k + lines_count (map line_of ys)) same)
    ∙ ap (λ n. bare (number_line (k + lines_count (map line_of xs)) n (line_of b))) (hentries ∙ ap (λ ys. g + 1 + lines_group_count (map line_of ys)) same))
    ∙ sym (end_numbered_some t b some k g)
