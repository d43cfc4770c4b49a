use Rattle.std.proofs.Common.{◌∙◌}
use Rattle.canvas_rewrite.proofs.Lines.{group_line, chord_line}
use Rattle.canvas_rewrite.proofs.rewriting.+onto.Goals as goal

pub onto-returns-in_ok-lines_of-in-Group : goal.onto-returns-in_ok-lines_of-in-Group
onto-returns-in_ok-lines_of-in-Group t c =
    group_line _ _ _ _ _ _ c.in-Group.is (c.deref-in-Group.ensures.value ∙ c.get-in-Group.ensures) c.in_ok-lines_of-in-Group.ensures c.group_onto.ensures

pub onto-returns-in_ok-body-in-Chord : goal.onto-returns-in_ok-body-in-Chord
onto-returns-in_ok-body-in-Chord t c =
    chord_line _ _ _ _ _ _ _ _ c.in_ok-body-in-Chord.body c.into_line.result c.in-Chord.is
    (c.deref-in-Chord.ensures.value ∙ c.get-in-Chord.ensures) c.in_ok-members-in-Chord.ensures
    c.deref-in-Chord-2.ensures c.in_ok-body-in-Chord.ensures c.into_line.ensures c.of_end.ensures
