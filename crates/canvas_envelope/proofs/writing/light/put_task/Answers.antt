use Rattle.std.proofs.Common.{◌++◌, ◌∙◌, Some, ap}
use Rattle.std.specs.Prelude.{codes, string_bytes}
use Rattle.serde_json.specs.Data.{null, member, no_members}
use Rattle.serde_json.specs.Written.{compact_text}
use Rattle.canvas_task.specs.Identifiers.{task_text}
use Rattle.canvas_values.specs.Writing.{args_wire, kwargs_wire}
use Rattle.canvas_rewrite.specs.declared.frozen.FrozenTask.{out-FrozenTask}
use Rattle.canvas_envelope.specs.Wire.{task_id, frozen_wire}
use Rattle.canvas_envelope.specs.steps.Texts.{call_text, own_text, name_text}
use Rattle.canvas_envelope.proofs.Written.KnownTexts.{then_ok, then_text, task_written, task_plain}
use Rattle.canvas_envelope.proofs.writing.light.put_task.Goals as goal

pub returns : goal.returns
returns c =
    let o = string_bytes c.args.out.now in
    let t = out-FrozenTask c.args.task.now in
    let a = call_text c.args.size (args_wire t.args) t.immutable (kwargs_wire t.kwargs) in
    let b = own_text (task_text t.no) in
    let n = c.deref.result.now in
    then_ok c.put_name.result o (string_bytes c.put_options.new.out) (string_bytes c.put_name.new.out) (a ++ b) (name_text n) _
    (then_text o (string_bytes c.put_call.new.out)
    (string_bytes c.put_options.new.out) a b c.in_ok-put_call.ensures c.in_ok-put_options.ensures) c.put_name.ensures
    (task_written c.args.size (args_wire t.args) t.immutable (kwargs_wire t.kwargs) (task_text t.no) n (task_plain t.no)
    ∙ ap (λ x. compact_text (frozen_wire (Some c.args.size) (args_wire t.args) t.immutable (kwargs_wire t.kwargs) (member (codes "task_id") (task_id t.no) no_members) null x))
    (c.deref.ensures ∙ c.get.ensures))
