-- The members of a signature, each looked up once for everything that is read of them.
use Rattle.std.specs.Prelude.{◌≡◌, codes}
use Rattle.canvas_values.specs.Fields.{field, option}
use Rattle.canvas_sig.specs.Datum.{view, value_at}
use Rattle.canvas_sig.specs.declared.members.Members.{Members}

-- each found member is the value's member of that name, null if there is none
pub record AreFound (m : Members) : Type 0 where
  pub name_found : value_at m.task ≡ field (codes "task") (view m.value.now)
  pub kind_found : value_at m.subtask_type ≡ field (codes "subtask_type") (view m.value.now)
  pub args_found : value_at m.args ≡ field (codes "args") (view m.value.now)
  pub kwargs_found : value_at m.kwargs ≡ field (codes "kwargs") (view m.value.now)
  pub flag_found : value_at m.immutable ≡ field (codes "immutable") (view m.value.now)
  pub options_found : value_at m.options ≡ field (codes "options") (view m.value.now)
  pub link_found : value_at m.link ≡ option (codes "link") (view m.value.now)
  pub link_error_found : value_at m.link_error ≡ option (codes "link_error") (view m.value.now)
  pub chord_found : value_at m.chord ≡ option (codes "chord") (view m.value.now)
