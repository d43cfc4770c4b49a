use Rattle.std.proofs.Common.{◌≤◌}
use Rattle.canvas_semantics.specs.Nesting.{nesting}
use Rattle.canvas_values.specs.SignatureView.{view}
use Rattle.canvas_values.proofs.depths.nesting_of.Given as goal

-- at none of the depths before do the signatures nest
abbrev pub invariant-loop-depth : goal.invariant-loop-depth
invariant-loop-depth l = l.depth ≤ nesting (view l.node)
