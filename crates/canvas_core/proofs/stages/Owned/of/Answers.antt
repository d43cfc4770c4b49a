use Rattle.canvas_effects.specs.Todos.{todo_view}
use Rattle.canvas_core.proofs.Cores.Stores.{todo_stores}
use Rattle.canvas_core.proofs.stages.Owned.of.Goals as goal

pub script_of-requires : goal.script_of-requires
script_of-requires g c = todo_stores c.into_inner.result c.outcome_of-outcome.result (todo_view c.in_ok-todo.todo) c.in_ok-todo.ensures
