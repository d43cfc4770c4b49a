use Rattle.canvas_semantics.proofs.PlanStates.{same_states, plan_states}
use Rattle.canvas_semantics.proofs.RowNumbers.{states_whole}
use Rattle.canvas_semantics.proofs.law_of_plan_states.Goals as goal

pub returns-clause-same : goal.returns-clause-same
returns-clause-same c = same_states

pub returns-clause-of_canvas : goal.returns-clause-of_canvas
returns-clause-of_canvas c = plan_states

pub returns-clause-all_rows : goal.returns-clause-all_rows
returns-clause-all_rows c = states_whole
