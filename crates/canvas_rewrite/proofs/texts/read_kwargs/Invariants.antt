use Rattle.canvas_task.specs.Entries.{named}
use Rattle.canvas_rewrite.specs.Utf8.{AreUtf8Entries}
use Rattle.canvas_rewrite.proofs.texts.read_kwargs.Given as goal

abbrev pub invariant-loop-name : goal.invariant-loop-name
invariant-loop-name l = AreUtf8Entries (named l._name-iterator) → AreUtf8Entries (named l.kwargs.entries)
