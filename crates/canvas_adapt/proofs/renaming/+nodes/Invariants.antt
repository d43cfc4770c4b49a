use Rattle.std.proofs.Common.{◌≡◌, ◌+◌, ◌++◌, map, drop}
use Rattle.canvas_values.specs.SignatureView.{view}
use Rattle.canvas_adapt.specs.steps.Renaming.{trees_in, trees_renamed}
use Rattle.canvas_adapt.proofs.renaming.+nodes.Given as goal

-- the copies so far, with those still to come from the next number on, are all
abbrev pub invariant-rename_nodes-loop-node : goal.invariant-rename_nodes-loop-node
invariant-rename_nodes-loop-node l =
    (l.next + trees_in (map view (drop l.node-index l.nodes)) ≡ l.fn.next + trees_in (map view l.nodes))
    × (map view l.copies.items ++ trees_renamed l.renames l.next (map view (drop l.node-index l.nodes))
    ≡ trees_renamed l.renames l.fn.next (map view l.nodes))
