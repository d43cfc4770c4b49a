use Rattle.std.proofs.Common.{◌∙◌, ◌++◌, Some, sym, ap}
use Rattle.std.specs.Prelude.{codes}
use Rattle.canvas_envelope.specs.Pieces.{following_text}
use Rattle.canvas_envelope.specs.SharedTexts.{carried_bytes}
use Rattle.canvas_envelope.proofs.Joining.{last}
use Rattle.canvas_envelope.proofs.embed.put_piece.Goals as goal

pub returns-in_ok-put-in-Carried : goal.returns-in_ok-put-in-Carried
returns-in_ok-put-in-Carried c =
    last c.put-in-Carried-2.result c.args.body.now.items c.put-in-Carried.new.text.items c.put-in-Carried-2.new.out.items
    (codes "\"chain\":null,\"chord\":") (carried_bytes c.deref.result.now) _ c.in_ok-put-in-Carried.ensures c.put-in-Carried-2.ensures
    (ap (λ t. codes "\"chain\":null,\"chord\":" ++ carried_bytes t) c.deref.ensures ∙ ap (λ p. following_text (Some p)) (sym c.in-Carried.is))
