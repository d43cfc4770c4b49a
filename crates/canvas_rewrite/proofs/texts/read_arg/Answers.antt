use Rattle.std.proofs.Common.{sym, subst}
use Rattle.canvas_rewrite.specs.Utf8.{IsUtf8Arg}
use Rattle.canvas_rewrite.proofs.Utf8Lines.{text_read}
use Rattle.canvas_rewrite.proofs.texts.read_arg.Goals as goal

pub returns-in-Text : goal.returns-in-Text
returns-in-Text c = subst IsUtf8Arg (sym c.in-Text.is) (text_read _ c.get-text.result.now c.get-text.ensures)
