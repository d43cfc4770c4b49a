use Rattle.std.proofs.Common.{sym, ◌∙◌}
use Rattle.canvas_values.proofs.ComposedLemmas.{chain_faults}
use Rattle.canvas_values.proofs.composed.+check_node.Goals as goal

pub check_chain-returns-clause-fault : goal.check_chain-returns-clause-fault
check_chain-returns-clause-fault t c = c.check_nodes.ensures.fault ∙ chain_faults c.args.nodes.now (sym c.is_empty.ensures ∙ c.if-is_empty.false)
