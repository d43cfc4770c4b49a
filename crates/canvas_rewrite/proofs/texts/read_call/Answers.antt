use Rattle.std.proofs.Common.{◌∙◌, subst}
use Rattle.canvas_rewrite.specs.Utf8.{AreUtf8Args, AreUtf8Entries}
use Rattle.canvas_rewrite.proofs.Utf8Lines.{text_read, call_read}
use Rattle.canvas_rewrite.proofs.texts.read_call.Goals as goal

pub returns : goal.returns
returns c =
    call_read c.args.sig.now (text_read _ c.get-name.result.now c.get-name.ensures)
    (subst AreUtf8Args (c.deref.ensures.value ∙ c.get.ensures) c.read_args.ensures)
    (subst AreUtf8Entries c.get-2.ensures.entries c.read_kwargs.ensures)
