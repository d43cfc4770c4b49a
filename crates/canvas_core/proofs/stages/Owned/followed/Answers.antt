use Rattle.canvas_effects.specs.Todos.{onward_view}
use Rattle.canvas_core.proofs.Cores.Stores.{todo_stores}
use Rattle.canvas_core.proofs.stages.Owned.followed.Goals as goal

pub script_onward-requires : goal.script_onward-requires
script_onward-requires g c = todo_stores c.into_inner.result c.outcome_of-outcome.result (onward_view c.in_ok-onward.onward) c.in_ok-onward.ensures
