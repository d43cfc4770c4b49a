use Rattle.std.proofs.Common.{◌≡◌, true, drop}
use Rattle.json.specs.Print.{escape}
use Rattle.canvas_envelope.proofs.writing.text.is_plain.Given as goal

abbrev pub invariant-loop-byte : goal.invariant-loop-byte
invariant-loop-byte l = l.plain ≡ true → escape (drop l.byte-index l.text) ≡ drop l.byte-index l.text → escape l.text ≡ l.text
