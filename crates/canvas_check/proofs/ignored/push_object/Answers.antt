use Rattle.std.proofs.Common.{List, sym, subst, OnOk}
use Rattle.std.specs.List.{flat_map}
use Rattle.serde_json.specs.Data.{Data}
use Rattle.canvas_sig.proofs.Datums.{object_members}
use Rattle.canvas_task.specs.Text.{Text}
use Rattle.canvas_check.specs.Ignored.{if_ignored}
use Rattle.canvas_check.specs.Naming.{Adds}
use Rattle.canvas_check.proofs.ignored.push_object.Goals as goal

pub returns-in-Object : goal.returns-in-Object
returns-in-Object c =
    let P : List (Text × Data) → Type 0 = λ es. OnOk c.push_members.result
    (Adds (flat_map (λ e. if_ignored e.0 e.1) es) c.args.names.now.items c.push_members.new.names.items) in
    subst P (sym (object_members _ _ c.in-Object.is)) c.push_members.ensures
