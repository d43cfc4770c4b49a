use Rattle.std.proofs.Common.{◌∙◌, ◌++◌, take, sym, subst}
use Rattle.std.specs.Prelude.{string_bytes}
use Rattle.std.specs.Str.{IsUtf8}
use Rattle.canvas_envelope.specs.SharedTexts.{head_text}
use Rattle.canvas_envelope.proofs.Written.PieceTexts.{known_utf8}
use Rattle.canvas_envelope.proofs.writing.body.known_piece.Goals as goal

pub returns-in_ok-text-in-Some-clause-utf8 : goal.returns-in_ok-text-in-Some-clause-utf8
returns-in_ok-text-in-Some-clause-utf8 c l said =
    let e = c.in-Some.end.now in
    subst (λ x. IsUtf8 (head_text x.head ++ take e (string_bytes x.own))) (sym c.in_ok-text-in-Some.ensures)
    (known_utf8 c.args.known.now c.in-Some._before.now e l (sym c.deref.ensures.value ∙ c.in-Some.ensures.cases.0) said)
