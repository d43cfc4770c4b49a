use Rattle.std.proofs.Common.{⊎_elim, arith}
use Rattle.canvas_sig.proofs.Lexed.{behind_first, is_some}
use Rattle.canvas_sig.proofs.plain.behind_bracket.Goals as goal

pub range_from-requires : goal.range_from-requires
range_from-requires c some =
    let t = c.args.text.now in
    ⊎_elim (λ e. behind_first t c.utf8.text (is_some t 93 e (λ z. omega (arith, z))) (omega (arith, e)))
    (λ e. behind_first t c.utf8.text (is_some t 125 e (λ z. omega (arith, z))) (omega (arith, e))) c.requires
