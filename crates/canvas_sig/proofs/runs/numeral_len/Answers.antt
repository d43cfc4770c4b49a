use Rattle.std.proofs.Common.{arith}
use Rattle.std.proofs.lemmas.Str.{IsCharBoundary-start, IsCharBoundary-after_ascii}
use Rattle.canvas_sig.proofs.runs.numeral_len.Goals as goal

pub bytes-init : goal.bytes-init
bytes-init c = IsCharBoundary-start c.args.text.now c.utf8.text

pub bytes-preserved : goal.bytes-preserved
bytes-preserved c =
    IsCharBoundary-after_ascii c.args.text.now c.bytes.count c.utf8.text (grind arith) (grind arith)
