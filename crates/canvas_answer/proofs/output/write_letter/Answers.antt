use Rattle.std.proofs.Common.{◌∷◌, [], IsUtf8, subst}
use Rattle.std.proofs.lemmas.Str.{IsUtf8-string_bytes}
use Rattle.canvas_celery.proofs.Exported.Pieces.{in_any}
use Rattle.canvas_answer.specs.Letters.{message_lines}
use Rattle.canvas_answer.proofs.output.write_letter.Goals as goal

pub returns-in-Ok-clause-text : goal.returns-in-Ok-clause-text
returns-in-Ok-clause-text g c =
    in_any c.write_lines.result (IsUtf8 (message_lines (c.args.letter.now ∷ []))) (subst IsUtf8 c.in-Ok.ensures (IsUtf8-string_bytes c.in-Ok.line))
