use Rattle.std.proofs.Common.{◌≡◌, length}
use denote.Shadow.{shadow}
use denote.Text.{Utf8}
use Rattle.json.specs.Lex.{between, lex}
use Rattle.canvas_sig.proofs.runs.past_spaces.Given as goal

abbrev pub invariant-spaces : goal.invariant-spaces
invariant-spaces l = (lex between l.rest ≡ lex between l.text) × shadow (Utf8 l.rest)

abbrev pub decreases-spaces : goal.decreases-spaces
decreases-spaces l = length l.rest
