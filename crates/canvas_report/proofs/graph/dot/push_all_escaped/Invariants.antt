use Rattle.std.proofs.Common.{string_bytes}
use Rattle.canvas_report.specs.steps.PieceLists.{AddsWhole}
use Rattle.canvas_report.proofs.graph.dot.push_all_escaped.Given as goal

abbrev pub invariant-loop-c : goal.invariant-loop-c
invariant-loop-c l = AddsWhole (string_bytes l.fn.dot) (string_bytes l.dot)
