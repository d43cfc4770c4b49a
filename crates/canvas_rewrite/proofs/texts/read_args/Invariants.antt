use Rattle.std.proofs.Common.{drop}
use Rattle.canvas_rewrite.specs.Utf8.{AreUtf8Args}
use Rattle.canvas_rewrite.proofs.texts.read_args.Given as goal

abbrev pub invariant-loop-arg : goal.invariant-loop-arg
invariant-loop-arg l = AreUtf8Args (drop l.arg-index l.args) → AreUtf8Args l.args
