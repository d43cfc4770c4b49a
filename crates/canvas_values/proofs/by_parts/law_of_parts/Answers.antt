use Rattle.canvas_values.proofs.Depth.{faults_by_parts, tasks_by_parts, trees_by_parts}
use Rattle.canvas_values.proofs.by_parts.law_of_parts.Goals as goal

pub returns-clause-faults : goal.returns-clause-faults
returns-clause-faults c = faults_by_parts

pub returns-clause-tasks : goal.returns-clause-tasks
returns-clause-tasks c = tasks_by_parts

pub returns-clause-trees : goal.returns-clause-trees
returns-clause-trees c = trees_by_parts
