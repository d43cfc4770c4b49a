use Rattle.canvas_semantics.proofs.NumberLemmas.{same, count_normal_tree, groups_normal_tree}
use Rattle.canvas_semantics.proofs.SameReport.{same_report}
use Rattle.canvas_semantics.proofs.law_of_normal_lines.Goals as goal

pub returns-clause-same : goal.returns-clause-same
returns-clause-same c = same

pub returns-clause-tasks : goal.returns-clause-tasks
returns-clause-tasks c = count_normal_tree

pub returns-clause-groups : goal.returns-clause-groups
returns-clause-groups c = groups_normal_tree

pub returns-clause-reported : goal.returns-clause-reported
returns-clause-reported c = λ behaviour t full. same_report behaviour t (same t full)
