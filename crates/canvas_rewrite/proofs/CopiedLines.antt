-- A line that is made of copies of another's parts.
use Rattle.std.proofs.Common.{◌≡◌, ◌∙◌, List, map, Some, None, Box, Global, sym, ap}
use Rattle.canvas_values.specs.SignatureView.{task_view}
use Rattle.canvas_values.specs.declared.task_sig.TaskSig.{TaskSig}
use Rattle.canvas_semantics.specs.Line.{stop, group_end, chord_end}
use Rattle.canvas_rewrite.specs.FrozenView.{steps_onto, lines_of, line_of, end_of}
use Rattle.canvas_rewrite.specs.declared.line.Line.{Line, out-Line, roll-Line}
use Rattle.canvas_rewrite.specs.declared.line.LineEnd.{LineEnd, out-LineEnd, roll-LineEnd}
use Rattle.canvas_rewrite.proofs.FrozenViews.{line_none, line_some, end_none, end_some}
use Rattle.canvas_rewrite.proofs.Lines.{group_ended, chord_ended}
use Rattle.canvas_rewrite.proofs.GrowingLines.{made_none, made_some}

module _ (l : Line) (ts ss : List TaskSig) (alike : map task_view ts ≡ map task_view ss) (same : ss ≡ (out-Line l).tasks) where
  pub copied_none : (out-Line l).tail ≡ None → line_of (roll-Line (record { tasks = ts; tail = None })) ≡ line_of l
  copied_none e = made_none ts ∙ ap (λ us. steps_onto us stop) (alike ∙ ap (map task_view) same) ∙ sym (line_none l e)

  pub copied_some : (b : Box LineEnd Global) → (out-Line l).tail ≡ Some b → (end copy : LineEnd) (box : Box LineEnd Global)
      → end ≡ b.value → end_of copy ≡ end_of end → box.value ≡ copy
      → line_of (roll-Line (record { tasks = ts; tail = Some box })) ≡ line_of l
  copied_some b e end copy box at is boxed =
      made_some ts box ∙ ap (λ us. steps_onto us (end_of box.value)) (alike ∙ ap (map task_view) same)
      ∙ ap (steps_onto (map task_view (out-Line l).tasks)) (ap end_of boxed ∙ is ∙ ap end_of at) ∙ sym (line_some l b e)

module _ (t : LineEnd) (ls ms : List Line) (alike : map line_of ls ≡ map line_of ms) (same : ms ≡ (out-LineEnd t).members) where
  pub copied_group : (out-LineEnd t).body ≡ None → end_of (roll-LineEnd (record { members = ls; body = None })) ≡ end_of t
  copied_group e = group_ended ls ∙ ap (λ xs. group_end 0 (lines_of xs)) (alike ∙ ap (map line_of) same) ∙ sym (end_none t e)

  pub copied_chord : (b copy : Line) → (out-LineEnd t).body ≡ Some b → line_of copy ≡ line_of b
      → end_of (roll-LineEnd (record { members = ls; body = Some copy })) ≡ end_of t
  copied_chord b copy e is =
      chord_ended ls copy ∙ ap (λ xs. chord_end 0 (lines_of xs) (line_of copy)) (alike ∙ ap (map line_of) same)
      ∙ ap (chord_end 0 (lines_of (map line_of (out-LineEnd t).members))) is ∙ sym (end_some t b e)
