use Rattle.canvas_envelope.proofs.Written.Bodies.{body_utf8}
use Rattle.canvas_envelope.proofs.Written.PieceTexts.{carried_utf8}
use Rattle.canvas_envelope.proofs.writing.body.carried_piece.Goals as goal

pub returns-in-Some-2-clause-utf8 : goal.returns-in-Some-2-clause-utf8
returns-in-Some-2-clause-utf8 c = body_utf8 _ (carried_utf8 c.in-Some-2.text.value)
