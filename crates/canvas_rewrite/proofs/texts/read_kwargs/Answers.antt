use Rattle.std.proofs.Common.{sym, subst}
use Rattle.std.proofs.lemmas.Str.{IsUtf8-string_bytes}
use Rattle.canvas_task.specs.Entries.{named}
use Rattle.canvas_rewrite.specs.Utf8.{AreUtf8Entries}
use Rattle.canvas_rewrite.proofs.texts.read_kwargs.Goals as goal

pub loop-name-preserved : goal.loop-name-preserved
loop-name-preserved c = λ left.
    c.loop-name.invariant (subst (λ es. AreUtf8Entries (named es)) (sym c.in-Some.ensures.steps)
    (IsUtf8-string_bytes c.in-Some._name.now, c.read_arg.ensures, left))
