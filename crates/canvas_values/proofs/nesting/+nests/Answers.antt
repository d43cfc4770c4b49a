use Rattle.std.proofs.Common.{◌∙◌, ◌+◌, max, map, sym, ap, arith}
use Rattle.canvas_semantics.specs.Nesting.{nesting, all_nesting}
use Rattle.canvas_values.specs.SignatureView.{view, trees_of}
use Rattle.canvas_values.proofs.Views.{view-Chain, view-Group, view-Chord}
use Rattle.canvas_values.proofs.NestingLemmas.{listed, both, first_fails, of_nodes}
use Rattle.canvas_values.proofs.nesting.+nests.Goals as goal

pub nests_within-returns-in-Chain : goal.nests_within-returns-in-Chain
nests_within-returns-in-Chain t c =
    listed _ _ _ _ _ (ap (λ n. nesting (view n)) c.in-Chain.is ∙ ap nesting (view-Chain _)) (c.deref.ensures.value ∙ c.get.ensures)
    (omega arith) c.all_nest_within.ensures

pub nests_within-returns-in-Group : goal.nests_within-returns-in-Group
nests_within-returns-in-Group t c =
    listed _ _ _ _ _ (ap (λ n. nesting (view n)) c.in-Group.is ∙ ap nesting (view-Group _)) (c.deref-in-Group.ensures.value ∙ c.get-in-Group.ensures)
    (omega arith) c.all_nest_within-in-Group.ensures

pub nests_within-returns-then-all_nest_within : goal.nests_within-returns-then-all_nest_within
nests_within-returns-then-all_nest_within t c =
    let header = all_nesting (trees_of (map view c.in-Chord.header)) in
    both _ _ _ _ _ _
    (ap (λ n. nesting (view n)) c.in-Chord.is ∙ ap nesting (view-Chord c.in-Chord.header c.in-Chord.body)
    ∙ ap (λ n. 1 + max header (nesting (view n))) (sym c.deref-then-all_nest_within.ensures))
    (omega arith) c.if-all_nest_within.true
    (of_nodes _ _ _ _ (c.deref-in-Chord.ensures.value ∙ c.get-in-Chord.ensures) c.all_nest_within-in-Chord.ensures)
    c.nests_within.ensures

pub nests_within-returns-else-all_nest_within : goal.nests_within-returns-else-all_nest_within
nests_within-returns-else-all_nest_within t c =
    first_fails _ _ _ _ _ (ap (λ n. nesting (view n)) c.in-Chord.is ∙ ap nesting (view-Chord c.in-Chord.header c.in-Chord.body))
    (omega arith) c.if-all_nest_within.false
    (of_nodes _ _ _ _ (c.deref-in-Chord.ensures.value ∙ c.get-in-Chord.ensures) c.all_nest_within-in-Chord.ensures)
