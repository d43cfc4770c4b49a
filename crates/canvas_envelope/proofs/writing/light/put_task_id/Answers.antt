use Rattle.std.proofs.Common.{◌∙◌, sym, ap}
use Rattle.std.specs.Prelude.{string_bytes}
use Rattle.json.specs.Print.{escape, quoted}
use Rattle.canvas_envelope.proofs.Written.IdentifierTexts.{task_ascii}
use Rattle.canvas_envelope.proofs.Written.KnownTexts.{alike_text, task_plain}
use Rattle.canvas_envelope.proofs.writing.light.put_task_id.Goals as goal

pub ascii-requires : goal.ascii-requires
ascii-requires c = rw c.task_text.ensures.value (task_ascii c.args.task)

pub put_quoted-requires : goal.put_quoted-requires
put_quoted-requires c =
    let is = c.ascii.ensures ∙ c.task_text.ensures.value in
    ap escape is ∙ task_plain c.args.task ∙ sym is

pub returns : goal.returns
returns c =
    alike_text c.put_quoted.result (string_bytes c.args.out.now) (string_bytes c.put_quoted.new.out) _ _
    (ap quoted (c.ascii.ensures ∙ c.task_text.ensures.value)) c.put_quoted.ensures
