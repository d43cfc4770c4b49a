use Rattle.std.proofs.Common.{◌≡◌, ◌++◌, drop, string_bytes}
use Rattle.canvas_report.specs.Picture.{edges_text}
use Rattle.canvas_report.proofs.graph.edges.push_texts.Given as goal

abbrev pub invariant-loop-edge : goal.invariant-loop-edge
invariant-loop-edge l =
    string_bytes l.text ++ edges_text (drop l.edge-index l.edges) ≡ string_bytes l.fn.text ++ edges_text l.edges
