use Rattle.std.proofs.Common.{sym, ap}
use Rattle.std.specs.Prelude.{string_bytes}
use Rattle.canvas_envelope.specs.steps.Texts.{flag_text}
use Rattle.canvas_envelope.proofs.Written.KnownTexts.{alike_text}
use Rattle.canvas_envelope.proofs.writing.light.put_flag.Goals as goal

pub returns-then-immutable : goal.returns-then-immutable
returns-then-immutable c =
    alike_text c.put.result (string_bytes c.args.out.now) (string_bytes c.put.new.out) _ _ (ap flag_text (sym c.if-immutable.true)) c.put.ensures

pub returns-else-immutable : goal.returns-else-immutable
returns-else-immutable c =
    alike_text c.put-else-immutable.result (string_bytes c.args.out.now) (string_bytes c.put-else-immutable.new.out) _ _
    (ap flag_text (sym c.if-immutable.false)) c.put-else-immutable.ensures
