use Rattle.std.proofs.Common.{◌++◌, append_assoc}
use Rattle.std.specs.Prelude.{codes, string_bytes}
use Rattle.canvas_task.specs.Identifiers.{task_text}
use Rattle.canvas_envelope.proofs.Written.KnownTexts.{then_ok, then_text}
use Rattle.canvas_envelope.proofs.writing.light.put_options.Goals as goal

pub returns : goal.returns
returns c =
    let o = string_bytes c.args.out.now in
    let a = codes ",\"options\":{\"task_id\":\"" in
    let b = task_text c.args.task in
    let e = codes "\"},\"subtask_type\":null,\"task\":" in
    then_ok c.put-2.result o (string_bytes c.put_task_text.new.out) (string_bytes c.put-2.new.out) (a ++ b) e _
    (then_text o (string_bytes c.put.new.out) (string_bytes c.put_task_text.new.out) a b c.in_ok-put.ensures c.in_ok-put_task_text.ensures) c.put-2.ensures
    (append_assoc a b e)
