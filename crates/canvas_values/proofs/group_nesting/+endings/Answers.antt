use Rattle.std.proofs.Common.{◌∙◌, sym, ap}
use Rattle.canvas_values.specs.steps.Ending.{ending}
use Rattle.canvas_values.specs.SignatureView.{view}
use Rattle.canvas_values.proofs.Endings.{chain_ends, group_ends, group_nests, chord_ends, chord_nests}
use Rattle.canvas_values.proofs.group_nesting.+endings.Goals as goal

pub ending-returns-in-Chain : goal.ending-returns-in-Chain
ending-returns-in-Chain t c = c.last_ending.ensures ∙ chain_ends _ _ _ c.in-Chain.is (c.deref.ensures.value ∙ c.get.ensures)

pub ending-returns-then-all_end_in_tasks : goal.ending-returns-then-all_end_in_tasks
ending-returns-then-all_end_in_tasks t c =
    group_ends _ _ (c.deref-in-Group.ensures.value ∙ c.get-in-Group.ensures) _ c.in-Group.is (sym c.all_end_in_tasks.ensures ∙ c.if-all_end_in_tasks.true)

pub ending-returns-else-all_end_in_tasks : goal.ending-returns-else-all_end_in_tasks
ending-returns-else-all_end_in_tasks t c =
    group_nests _ _ (c.deref-in-Group.ensures.value ∙ c.get-in-Group.ensures) _ c.in-Group.is (sym c.all_end_in_tasks.ensures ∙ c.if-all_end_in_tasks.false)

pub ending-returns-then-all_end_in_tasks-2 : goal.ending-returns-then-all_end_in_tasks-2
ending-returns-then-all_end_in_tasks-2 t c =
    c.ending.ensures ∙ ap (λ b. ending (view b)) c.deref-then-all_end_in_tasks-2.ensures
    ∙ chord_ends _ _ (c.deref-in-Chord.ensures.value ∙ c.get-in-Chord.ensures) c.in-Chord.body _ c.in-Chord.is
    (sym c.all_end_in_tasks-in-Chord.ensures ∙ c.if-all_end_in_tasks-2.true)

pub ending-returns-else-all_end_in_tasks-2 : goal.ending-returns-else-all_end_in_tasks-2
ending-returns-else-all_end_in_tasks-2 t c =
    chord_nests _ _ (c.deref-in-Chord.ensures.value ∙ c.get-in-Chord.ensures) c.in-Chord.body _ c.in-Chord.is
    (sym c.all_end_in_tasks-in-Chord.ensures ∙ c.if-all_end_in_tasks-2.false)
